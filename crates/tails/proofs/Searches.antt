-- The code's searches, from frame 0 to the last, give what the loops of hand_back_tails give: past the last frame nothing is loud, and a frame
-- is found where the loop stops. Assumes nothing.
use Rattle.std.specs.Prelude.{Option, Some, None, MatchOption, unwrap_or}
use Prim.Native.Nat.{ℕ, zero, suc, ◌+◌, ◌-◌, ◌<◌, ◌≤◌, min, max}
use mathlib.Core.Bool.{Bool, true, false, cond, not, ◌&&◌, beq}
use mathlib.Core.List.{List}
use mathlib.Core.Path.{◌≡◌, refl, ap, ◌∙◌}
use native.Mathlib.Omega.{arith}
use native.Mathlib.Numerals.{add-one}
use borrow.Author.Tests.{ne_eqb, ltb-true, ltb-false, le-ltb}
use lib.Dec.{ltb}
use lib.IntN.{ℤ, pos, negsuc, ◌-ℤ◌, sub_ℕ}
use lib.Signed.{lt_z}
use lib.ListN.{length}
use Rattle.base.specs.Whole.{to_nat}
use Rattle.base.specs.Loop.{on, run}
use Rattle.base.proofs.Loops.{advance, range-end, run-stop, run-done, lt_z-nat}
use Rattle.envelope.specs.Envelope.{loud}
use Rattle.envelope.specs.Parts.{Throughout, IsFirst}
use Rattle.envelope.proofs.Scan.{loud-past, beq-is, beq-not}
use Rattle.tails.specs.Tails.{loud_turn, past_loud, Quiet, quiet_turn, past_quiet, own_sound}
use Rattle.tails.specs.Parts.{across, below, three}

and3 : (a b c : Bool) → (a && (b && c)) ≡ cond a (cond b c false) false
and3 true true c = refl
and3 true false c = refl
and3 false b c = refl

-- ---- A search from lo to before hi for a frame that is loud (or is not) stops at r: at the first one, or where the search ends.
pub record Stops (row : List Bool) (want : Bool) (lo hi r : ℕ) : Type 0 where
  pub from : lo ≤ r
  pub to : r ≤ max lo hi
  pub none : Throughout row (not want) lo r
  pub found : r < hi → loud row (pos r) ≡ want

-- the code's search, which answers with the first one, if there is one
pub stops-at : (row : List Bool) (want : Bool) (lo hi : ℕ) {r end : ℕ} (o : Option ℕ) → MatchOption o (Throughout row (not want) lo hi) (IsFirst row want lo hi)
    → end ≡ max hi lo → r ≡ unwrap_or o end → Stops row want lo hi r
stops-at row want lo hi None quiet isend isr =
    record { from = omega arith; to = omega arith; none = λ j p q. quiet j p (omega arith); found = λ h. absurd (omega arith) }
stops-at row want lo hi (Some k) m isend isr =
    let a = m.from in
    let b = m.to in
    rw isr (record { from = a; to = omega arith; none = m.before; found = λ h. m.found })

-- ---- The bound b, cut at zero and at the last frame, is hi.
module _ (row : List Bool) (b : ℤ) (hi : ℕ) (cut : hi ≡ min (length row) (to_nat b)) where
  -- a frame from hi on is not loud, where it is before the bound
  quiet-above : (j : ℕ) → hi ≤ j → j < to_nat b → loud row (pos j) ≡ false
  quiet-above j p q = loud-past row j (omega arith)

  pub past_loud-is : (f t : ℕ) → Stops row false f hi t → past_loud row (pos f) b ≡ pos t
  unfolding past_loud
  past_loud-is f t m =
      range-end (loud_turn row) f b (pos f)
      ∙ advance (loud_turn row) pos (to_nat b) f t m.from (omega (arith, m.to))
      (λ (j : ℕ) (p : f ≤ j) (q : j < t). rw (m.none j p q, add-one))
      ∙ stops (ltb t (to_nat b)) refl where
        quiet : (s : Bool) → ltb t hi ≡ s → t < to_nat b → loud row (pos t) ≡ false
        quiet true e h = m.found (ltb-true t hi e)
        quiet false e h = quiet-above t (ltb-false t hi e) h

        stops : (s : Bool) → ltb t (to_nat b) ≡ s → run (loud_turn row) (to_nat b - t) (pos t) (on (pos t)) ≡ pos t
        stops true e = let h = ltb-true t (to_nat b) e in run-stop (loud_turn row) (to_nat b) t h (rw (quiet (ltb t hi) refl h))
        stops false e = run-done (loud_turn row) (to_nat b) t (pos t) (ltb-false t (to_nat b) e)

  -- the loop's state at frame j, of a search from t on
  at : ℕ → ℕ → Quiet
  at t j = record { k = pos j; quiet = j - t }

  -- as far as e no frame is loud
  past_quiet-to : (t e : ℕ) → t ≤ e → e ≤ max t (to_nat b) → ((j : ℕ) → t ≤ j → j < e → loud row (pos j) ≡ false)
      → past_quiet row (pos t) b ≡ run (quiet_turn row) (to_nat b - e) (pos e) (on (at t e))
  unfolding past_quiet at
  past_quiet-to t e l h a =
      range-end (quiet_turn row) t b (record { k = pos t; quiet = 0 })
      ∙ ap (λ (n : ℕ). run (quiet_turn row) (to_nat b - t) (pos t) (on (record { k = pos t; quiet = n }))) (omega arith)
      ∙ advance (quiet_turn row) (at t) (to_nat b) t e l h
      (λ (j : ℕ) (p : t ≤ j) (q : j < e). let z : (j - t) + 1 ≡ (j + 1) - t = omega arith in rw (a j p q, z, add-one))

  pub past_quiet-is : (t k : ℕ) → IsFirst row true t hi k → past_quiet row (pos t) b ≡ record { k = pos k; quiet = k - t }
  unfolding at
  past_quiet-is t k m =
      let h = m.to in
      past_quiet-to t k m.from (omega arith) m.before
      ∙ run-stop (quiet_turn row) (to_nat b) k (omega arith) (rw m.found)

  pub past_quiet-none : (t : ℕ) → Throughout row false t hi → (past_quiet row (pos t) b).k ≡ pos (max t (to_nat b))
  unfolding at
  past_quiet-none t quiet =
      ap (λ (q : Quiet). q.k)
      (past_quiet-to t (max t (to_nat b)) (omega arith) (omega arith) (λ (j : ℕ) (p : t ≤ j) (q : j < max t (to_nat b)). all j p (omega arith) (ltb j hi) refl)
      ∙ run-done (quiet_turn row) (to_nat b) (max t (to_nat b)) (at t (max t (to_nat b))) (omega arith)) where
        all : (j : ℕ) → t ≤ j → j < to_nat b → (s : Bool) → ltb j hi ≡ s → loud row (pos j) ≡ false
        all j p q true e = quiet j p (ltb-true j hi e)
        all j p q false e = quiet-above j (ltb-false j hi e) q

  below-is : (j : ℕ) → (lt_z (pos j) b && loud row (pos j)) ≡ below row hi j
  unfolding below
  below-is j = rw (lt_z-nat j b) (go (ltb j hi) refl (ltb j (to_nat b)) refl) where
    go : (s : Bool) → ltb j hi ≡ s → (t : Bool) → ltb j (to_nat b) ≡ t → (ltb j (to_nat b) && loud row (pos j)) ≡ cond (ltb j hi) (loud row (pos j)) false
    go true p true q = rw (p, q)
    go true p false q = absurd (omega (arith, ltb-true j hi p, ltb-false j (to_nat b) q))
    go false p true q = rw (p, q) (quiet-above j (ltb-false j hi p) (ltb-true j (to_nat b) q))
    go false p false q = rw (p, q)

  pub own_sound-is : (k : ℕ) → own_sound row (pos k) b ≡ three row hi k
  unfolding three
  own_sound-is k = rw (below-is k, below-is (k + 1), below-is (k + 2)) (and3 (below row hi k) (below row hi (k + 1)) (below row hi (k + 2)))

  pub own_sound-none : (n : ℕ) → to_nat b ≤ n → own_sound row (pos n) b ≡ false
  own_sound-none n h = rw (lt_z-nat n b, le-ltb n (to_nat b) h)

-- ---- The frame z of a start, cut at zero, is f.
pub across-is : (row : List Bool) (z : ℤ) (f : ℕ) → f ≡ to_nat z → across row f ≡ (loud row (z -ℤ pos 1) && loud row z)
unfolding across
across-is row (negsuc j) f e = rw e
across-is row (pos zero) f e = rw e
across-is row (pos (suc n)) f e =
    let o : f ≡ suc n = e in
    let m : suc n - 1 ≡ n = omega arith in
    rw (one, o, m, ne_eqb (suc n) 0 (omega arith)) (both (loud row (pos n)) (loud row (pos (suc n))))
  where
    one : sub_ℕ (suc n) 1 ≡ pos n
    one = rw (le-ltb (suc n) 1 (omega arith)) (ap pos (omega arith))

    both : (a c : Bool) → cond a c false ≡ (a && c)
    both true c = refl
    both false c = refl

-- ---- A search that was cut short at `far` is the whole search, where it found its frame; and the whole one goes on from where it was cut.
module _ (row : List Bool) (want : Bool) (f hi far t : ℕ) (m : Stops row want f (min hi far) t) where
  pub stops-near : t < far → Stops row want f hi t
  stops-near h = record { from = m.from; to = let l = m.to in omega arith; none = m.none; found = λ n. m.found (omega arith) }

  pub stops-on : {r : ℕ} → Stops row want t hi r → Stops row want f hi r
  stops-on {r} n = record { from = let a = m.from in let b = n.from in omega arith; to = let a = m.to in let b = n.to in omega arith; none = none; found = n.found } where
    none : (j : ℕ) → f ≤ j → j < r → loud row (pos j) ≡ not want
    none j p q = go (ltb j t) refl where
      go : (s : Bool) → ltb j t ≡ s → loud row (pos j) ≡ not want
      go true e = m.none j p (ltb-true j t e)
      go false e = n.none j (ltb-false j t e) q

-- ---- a search from lo over n frames finds a frame, or its end
pub met_some : (row : List Bool) (want : Bool) (n lo : ℕ) → (r : ℕ) × Stops row want lo (lo + n) r
met_some row want zero lo = (lo, record { from = omega arith; to = omega arith; none = λ j p q. absurd (omega arith); found = λ h. absurd (omega arith) })
met_some row want (suc n) lo = go (beq (loud row (pos lo)) want) refl (met_some row want n (lo + 1)) where
  go : (s : Bool) → beq (loud row (pos lo)) want ≡ s → (r : ℕ) × Stops row want (lo + 1) (lo + 1 + n) r → (r : ℕ) × Stops row want lo (lo + suc n) r
  go true e later = (lo, record { from = omega arith; to = omega arith; none = λ j p q. absurd (omega arith); found = λ h. beq-is _ _ e })
  go false e (r, m) = (r, record { from = let a = m.from in omega arith; to = let a = m.to in omega arith; none = none; found = λ h. m.found (omega arith) }) where
    none : (j : ℕ) → lo ≤ j → j < r → loud row (pos j) ≡ not want
    none j p q = at (ltb lo j) refl where
      at : (s : Bool) → ltb lo j ≡ s → loud row (pos j) ≡ not want
      at true t = let h = ltb-true lo j t in m.none j (omega arith) q
      at false t = let h = ltb-false lo j t in let z : j ≡ lo = omega arith in rw z (beq-not _ _ e)
