-- Where the next word starts, and exactly when there is no such word; exactly when a sound has no end. The search for a sound finds one exactly where some
-- frame of its range is loud: before the first loud frame nothing stops it, and from there on it has a last one. Assumes nothing.
use Prim.Native.Nat.{ℕ, zero, suc, ◌+◌, ◌-◌, ◌<◌, ◌≤◌}
use mathlib.Core.Bool.{Bool, true, false, cond, true≢false}
use mathlib.Core.List.{List}
use mathlib.Core.Logic.{◌↔◌}
use Rattle.std.specs.Prelude.{Some, None}
use mathlib.Core.Path.{◌≡◌, refl, sym, ap, ◌∙◌, subst}
use native.Mathlib.Omega.{arith}
use borrow.Author.Tests.{ltb-true, ltb-false, lt-ltb, le-ltb, leb-true, leb-false}
use lib.Dec.{leb, ltb}
use lib.IntN.{ℤ, pos, negsuc}
use lib.Signed.{non_neg}
use lib.ListN.{length, get_or}
use lib.Ieee.{Float, nan}
use Rattle.base.specs.Whole.{to_nat}
use Rattle.base.specs.Loop.{Turn, on, out, run}
use Rattle.base.proofs.Loops.{run_out}
use Rattle.envelope.specs.Envelope.{loud}
use Rattle.ends.specs.Ends.{next_start, Last, last_turn, last_loud, sound_end}
use Rattle.ends.proofs.SoundEnds.{and-false, and-true, last_loud-nat}

-- a value is there, or none is
some-none : {A B : Type 0} {x : A} → Some x ≡ None → B
some-none h = absurd (let z : ◌≡◌ {A = ℕ} 0 1 = cc in omega arith)

-- ======== The next start.

module _ (starts : List Float) (i : ℕ) where
  -- ---- where there is a word after word i, its start
  pub next-is : i + 1 < length starts → next_start starts i ≡ Some (get_or starts (i + 1) nan)
  unfolding next_start
  next-is h = rw (lt-ltb (i + 1) (length starts) h)

  -- ---- and none exactly where there is no such word
  pub no-next-exactly : (length starts ≤ i + 1) ↔ (next_start starts i ≡ None)
  unfolding next_start
  no-next-exactly = ((λ h. rw (le-ltb (i + 1) (length starts) h)), from)
    where
      from : next_start starts i ≡ None → length starts ≤ i + 1
      from h = go (ltb (i + 1) (length starts)) refl where
        go : (b : Bool) → ltb (i + 1) (length starts) ≡ b → length starts ≤ i + 1
        go true e = some-none (sym (next-is (ltb-true (i + 1) (length starts) e)) ∙ h)
        go false e = ltb-false (i + 1) (length starts) e

-- ======== The end of a sound.

module _ (edge : ℕ) (row : List Bool) where
  -- the last loud frame, after n turns from frame k on, where the last one so far and the quiet ones behind it are given
  unfoldable after : ℕ → ℕ → ℤ → ℕ → ℤ
  after n k last quiet = (run (last_turn edge row) n (pos k) (on (record { last = last; quiet = quiet }))).last

  -- one turn
  turn-loud : (k : ℕ) (s : Last) → loud row (pos k) ≡ true → last_turn edge row (pos k) s ≡ on (record { last = pos k; quiet = 0 })
  turn-loud k s e = rw e

  turn-unmet : (k q : ℕ) → loud row (pos k) ≡ false → last_turn edge row (pos k) (record { last = negsuc 0; quiet = q }) ≡ on (record { last = negsuc 0; quiet = q + 1 })
  turn-unmet k q e = rw (e, and-false (leb edge (q + 1)))

  turn-quiet : (k m q : ℕ) (c : Bool) → loud row (pos k) ≡ false → leb edge (q + 1) ≡ c
      → last_turn edge row (pos k) (record { last = pos m; quiet = q }) ≡ cond c (out (record { last = pos m; quiet = q + 1 })) (on (record { last = pos m; quiet = q + 1 }))
  turn-quiet k m q c e f = rw (e, f, and-true c)

  -- what holds after a turn, and n more, holds after n + 1
  turned : (P : ℤ → Type 0) (n k : ℕ) (s : Last) (t : Turn Last) → last_turn edge row (pos k) s ≡ t → P (run (last_turn edge row) n (pos (suc k)) t).last
      → P (run (last_turn edge row) (suc n) (pos k) (on s)).last
  unfolding run
  turned P n k s t e h = subst (λ (x : Turn Last). P (run (last_turn edge row) n (pos (suc k)) x).last) (sym e) h

  -- there is a last loud frame
  abbrev Is : ℤ → Type 0
  Is l = non_neg l ≡ true

  -- once there is a last loud frame, there is one in the end
  met : (n k m q : ℕ) → Is (after n k (pos m) q)
  unfolding after run
  met zero k m q = refl
  met (suc n) k m q = go (loud row (pos k)) (leb edge (q + 1)) refl refl (met n (suc k) k 0) (met n (suc k) m (q + 1)) where
    go : (b c : Bool) → loud row (pos k) ≡ b → leb edge (q + 1) ≡ c → Is (after n (suc k) (pos k) 0) → Is (after n (suc k) (pos m) (q + 1)) → Is (after (suc n) k (pos m) q)
    go true c e f loudly quietly = turned Is n k (record { last = pos m; quiet = q }) (on (record { last = pos k; quiet = 0 })) (turn-loud k (record { last = pos m; quiet = q }) e) loudly
    go false true e f loudly quietly =
        turned Is n k (record { last = pos m; quiet = q }) (out (record { last = pos m; quiet = q + 1 })) (turn-quiet k m q true e f)
        (rw (run_out (last_turn edge row) n (pos (suc k)) (record { last = pos m; quiet = q + 1 })))
    go false false e f loudly quietly = turned Is n k (record { last = pos m; quiet = q }) (on (record { last = pos m; quiet = q + 1 })) (turn-quiet k m q false e f) quietly

  -- quiet frames leave it that there is none
  unmet : (n k q : ℕ) → ((j : ℕ) → k ≤ j → j < k + n → loud row (pos j) ≡ false) → after n k (negsuc 0) q ≡ negsuc 0
  unfolding after run
  unmet zero k q a = refl
  unmet (suc n) k q a =
      turned (λ l. l ≡ negsuc 0) n k (record { last = negsuc 0; quiet = q }) (on (record { last = negsuc 0; quiet = q + 1 })) (turn-unmet k q (a k (omega arith) (omega arith)))
      (unmet n (suc k) (q + 1) (λ (j : ℕ) (l : suc k ≤ j) (h : j < suc k + n). a j (omega arith) (omega arith)))

  -- a loud frame makes that there is one
  some-met : (n k q j : ℕ) → k ≤ j → j < k + n → loud row (pos j) ≡ true → Is (after n k (negsuc 0) q)
  unfolding after run
  some-met zero k q j l h e = absurd (omega arith)
  some-met (suc n) k q j l h e = go (loud row (pos k)) refl (some-met n (suc k) (q + 1) j) where
    later : loud row (pos k) ≡ false → suc k ≤ j
    later f = rest (leb (suc k) j) refl where
      rest : (b : Bool) → leb (suc k) j ≡ b → suc k ≤ j
      rest true t = leb-true (suc k) j t
      rest false t = let m = leb-false (suc k) j t in let z : j ≡ k = omega arith in absurd (true≢false (sym e ∙ ap (λ (x : ℕ). loud row (pos x)) z ∙ f))

    go : (b : Bool) → loud row (pos k) ≡ b → (suc k ≤ j → j < suc k + n → loud row (pos j) ≡ true → Is (after n (suc k) (negsuc 0) (q + 1))) → Is (after (suc n) k (negsuc 0) q)
    go true f next =
        turned Is n k (record { last = negsuc 0; quiet = q }) (on (record { last = pos k; quiet = 0 })) (turn-loud k (record { last = negsuc 0; quiet = q }) f) (met n (suc k) k 0)
    go false f next =
        turned Is n k (record { last = negsuc 0; quiet = q }) (on (record { last = negsuc 0; quiet = q + 1 })) (turn-unmet k q f) (next (later f) (omega arith) e)

  -- ---- A sound has an end exactly where a frame from a to before b is loud: none is given exactly when no such frame is.
  module _ (a b : ℤ) where
    last-is : last_loud edge row a b ≡ after (to_nat b - to_nat a) (to_nat a) (negsuc 0) 0
    unfolding after
    last-is = last_loud-nat edge row a b

    no_end : (l : ℤ) → non_neg l ≡ true → sound_end l ≡ None → ⊥
    unfolding sound_end
    no_end (pos m) n h = some-none (rw (le-ltb m 0 (omega arith)) at h)
    no_end (negsuc m) n h = true≢false (sym n)

    pub no-end-exactly : ((j : ℕ) → to_nat a ≤ j → j < to_nat b → loud row (pos j) ≡ false) ↔ (sound_end (last_loud edge row a b) ≡ None)
    unfolding sound_end
    no-end-exactly = (to, from)
      where
        to : ((j : ℕ) → to_nat a ≤ j → j < to_nat b → loud row (pos j) ≡ false) → sound_end (last_loud edge row a b) ≡ None
        to quiet = rw (last-is ∙ unmet (to_nat b - to_nat a) (to_nat a) 0 (λ (j : ℕ) (l : to_nat a ≤ j) (h : j < to_nat a + (to_nat b - to_nat a)). quiet j l (omega arith)))

        from : sound_end (last_loud edge row a b) ≡ None → (j : ℕ) → to_nat a ≤ j → j < to_nat b → loud row (pos j) ≡ false
        from h j l g = go (loud row (pos j)) refl where
          go : (t : Bool) → loud row (pos j) ≡ t → loud row (pos j) ≡ false
          go false e = e
          go true e =
              absurd (no_end (last_loud edge row a b) (rw last-is (some-met (to_nat b - to_nat a) (to_nat a) 0 j l (omega arith) e)) h)
