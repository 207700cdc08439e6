-- The search back, by the code's state: one step at a loud and at a quiet frame, what is left of the loop, and the run that it found.
-- A frame before frame 0 is quiet and leaves the state, so only the frames from 0 count. Assumes nothing.
use Rattle.std.specs.Prelude.{Some, None}
use Prim.Native.Nat.{ℕ, zero, suc, ◌+◌, ◌-◌, ◌<◌, ◌≤◌}
use mathlib.Core.Bool.{Bool, true, false, cond, ◌&&◌}
use mathlib.Core.List.{List}
use mathlib.Core.Path.{◌≡◌, refl, sym, ap, ◌∙◌}
use native.Mathlib.Omega.{arith}
use borrow.Author.Tests.{lt-ltb, le-ltb, ltb-true, ltb-false, ne_eqb}
use lib.Dec.{ltb}
use lib.IntN.{ℤ, pos, negsuc, pred_ℤ, ◌-ℤ◌}
use lib.Signed.{lt_z, non_neg}
use lib.ListN.{get_or}
use Rattle.base.specs.Whole.{to_nat}
use Rattle.base.specs.Loop.{on, out, run_back}
use Rattle.base.proofs.Loops.{lt_z-nat, sub-nat, sub-pos, back-out, back-next, back-stop, back_done, back-nat}
use Rattle.last_run.specs.LastRun.{Ends, back_step, back_turn, ends_between, frames_of, frames}
use Rattle.last_run.specs.Parts.{ends_of, turn_of}
use Rattle.last_run.specs.declared.Search.{Search}

-- ---- the distance of two frames, compared
pub minus-above : (f k : ℕ) → lt_z (pos 15) (pos f -ℤ pos k) ≡ ltb (k + 15) f
minus-above f k = lt_z-nat 15 (pos f -ℤ pos k) ∙ (rw (sub-nat f k)) ∙ go (ltb (k + 15) f) refl where
  go : (t : Bool) → ltb (k + 15) f ≡ t → ltb 15 (f - k) ≡ t
  go true e = let h = ltb-true (k + 15) f e in lt-ltb 15 (f - k) (omega arith)
  go false e = let h = ltb-false (k + 15) f e in le-ltb 15 (f - k) (omega arith)

minus-under : (p f : ℕ) → p < f + 3 → lt_z (pos p -ℤ pos f) (pos 3) ≡ true
minus-under p f h = go f (ltb p f) refl h where
  go : (f : ℕ) (t : Bool) → ltb p f ≡ t → p < f + 3 → lt_z (pos p -ℤ pos f) (pos 3) ≡ true
  go f false e h = rw (sub-pos p f (ltb-false p f e)) (lt-ltb (p - f) 3 (omega arith))
  go zero true e h = absurd (omega (arith, ltb-true p 0 e))
  go (suc f) true e h = rw e

minus-from : (p f : ℕ) → f + 3 ≤ p → lt_z (pos p -ℤ pos f) (pos 3) ≡ false
minus-from p f h = rw (sub-pos p f (omega arith)) (le-ltb (p - f) 3 (omega arith))

-- ---- the code's state, and the definition's
abbrev search : ℕ → ℕ → Bool → Search
search first past over = record { first = first; past = past; over = over }

-- no loud frame was met, or the first and the last are these
abbrev pub nothing : Ends
nothing = record { end = negsuc 0; start = negsuc 0 }

abbrev pub met : ℕ → ℕ → Ends
met first last = record { end = pos last; start = pos first }

ends-none : (s : Search) → s.past ≡ 0 → ends_of s ≡ nothing
unfolding ends_of
ends-none s z = rw z

ends-met : (s : Search) → (s.past ≡ 0 → ⊥) → ends_of s ≡ met s.first (s.past - 1)
unfolding ends_of
ends-met s n = rw (ne_eqb s.past 0 n) (ap (λ (z : ℤ). record { end = z; start = pos s.first }) (go s.past n)) where
  go : (p : ℕ) → (p ≡ 0 → ⊥) → pred_ℤ (pos p) ≡ pos (p - 1)
  go zero n = absurd (n refl)
  go (suc p) n = ap pos (omega arith)

turn_on : (s : Search) → s.over ≡ false → turn_of s ≡ on (ends_of s)
unfolding turn_of
turn_on s h = rw h

turn-out : (s : Search) → s.over ≡ true → turn_of s ≡ out (ends_of s)
unfolding turn_of
turn-out s h = rw h

-- ---- one step at frame k
module _ (k : ℕ) (s : Search) where
  pub loud-first : s.past ≡ 0 → turn_of (search k (k + 1) false) ≡ back_step true (pos k) (ends_of s)
  loud-first z =
      let e : k + 1 - 1 ≡ k = omega arith in
      turn_on (search k (k + 1) false) refl ∙ ap on (ends-met (search k (k + 1) false) (λ (h : k + 1 ≡ 0). omega arith) ∙ ap (met k) e)
      ∙ ap (back_step true (pos k)) (sym (ends-none s z))

  pub loud-again : (s.past ≡ 0 → ⊥) → turn_of (search k s.past false) ≡ back_step true (pos k) (ends_of s)
  loud-again n =
      let e : lt_z (pos (s.past - 1)) (pos 0) ≡ false = le-ltb (s.past - 1) 0 (omega arith) in
      turn_on (search k s.past false) refl ∙ ap on (ends-met (search k s.past false) n)
      ∙ ap (λ (b : Bool). on (record { end = cond b (pos k) (pos (s.past - 1)); start = pos k })) (sym e)
      ∙ ap (back_step true (pos k)) (sym (ends-met s n))

  pub quiet_none : s.over ≡ false → s.past ≡ 0 → turn_of s ≡ back_step false (pos k) (ends_of s)
  quiet_none h z = turn_on s h ∙ ap on (ends-none s z) ∙ ap (back_step false (pos k)) (sym (ends-none s z))

  pub quiet-more : (s.past ≡ 0 → ⊥) → turn_of (search s.first s.past (ltb (k + 15) s.first)) ≡ back_step false (pos k) (ends_of s)
  unfolding turn_of
  quiet-more n =
      ap (λ (e : Ends). cond (ltb (k + 15) s.first) (out e) (on e)) (ends-met (search s.first s.past (ltb (k + 15) s.first)) n)
      ∙ ap (λ (b : Bool). cond b (out (met s.first (s.past - 1))) (on (met s.first (s.past - 1)))) (sym (minus-above s.first k))
      ∙ ap (back_step false (pos k)) (sym (ends-met s n))

-- ---- the loop
module _ (row : List Bool) where
  low : (n j : ℕ) (s : Ends) → run_back (back_turn row) n (negsuc j) (on s) ≡ s
  unfolding run_back
  low zero j s = refl
  low (suc n) j s = go (non_neg s.end && lt_z (pos 15) (s.start -ℤ negsuc j)) (low n (suc j) s) where
    go : (t : Bool) → run_back (back_turn row) n (negsuc (suc j)) (on s) ≡ s → run_back (back_turn row) n (negsuc (suc j)) (cond t (out s) (on s)) ≡ s
    go true h = back-out (back_turn row) n (negsuc (suc j)) s
    go false h = h

  pub ends-nat : (hi : ℕ) (lo : ℤ) → ends_between row lo (pos hi) ≡ run_back (back_turn row) (hi - to_nat lo) (pred_ℤ (pos hi)) (on nothing)
  unfolding ends_between
  ends-nat hi lo = back-nat (back_turn row) (λ s. s) low hi lo nothing

  -- the loop stands above frame k
  unfoldable pub rest : ℕ → ℕ → Search → Ends
  rest lo k s = run_back (back_turn row) (k - lo) (pred_ℤ (pos k)) (on (ends_of s))

  pub search-starts : (lo hi : ℕ) → ends_between row (pos lo) (pos hi) ≡ rest lo hi (search 0 0 false)
  unfolding rest
  search-starts lo hi = ends-nat hi (pos lo) ∙ ap (λ (s : Ends). run_back (back_turn row) (hi - lo) (pred_ℤ (pos hi)) (on s)) (sym (ends-none (search 0 0 false) refl))

  module _ {x : Ends} {is_loud : Bool} (lo k : ℕ) (s s' : Search) (more : lo < k) (is : is_loud ≡ get_or row (k - 1) false)
      (turn : turn_of s' ≡ back_step is_loud (pos (k - 1)) (ends_of s)) (e : x ≡ rest lo k s) where
    turned : back_turn row (pos (k - 1)) (ends_of s) ≡ turn_of s'
    turned = sym (turn ∙ ap (λ (b : Bool). back_step b (pos (k - 1)) (ends_of s)) is)

    pub search-next : s'.over ≡ false → x ≡ rest lo (k - 1) s'
    unfolding rest
    search-next h = e ∙ back-next (back_turn row) lo k more (turned ∙ turn_on s' h)

    pub search-stop : s'.over ≡ true → ends_of s' ≡ x
    unfolding rest
    search-stop h = sym (e ∙ back-stop (back_turn row) lo k more (turned ∙ turn-out s' h))

  pub search-done : {x : Ends} (lo k : ℕ) (s : Search) → k ≤ lo → x ≡ rest lo k s → ends_of s ≡ x
  unfolding rest
  search-done lo k s h e = sym (e ∙ back_done (back_turn row) lo k (ends_of s) h)

-- ---- the run, where it is long enough
pub frames_of-under : (first last : ℕ) → last < first + 3 → frames_of (met first last) ≡ None
unfolding frames_of
frames_of-under first last h = rw (le-ltb last 0 (omega arith), minus-under last first h)

pub frames_of-from : (first last : ℕ) → first + 3 ≤ last → frames_of (met first last) ≡ Some (frames first last)
unfolding frames_of
frames_of-from first last h = rw (le-ltb last 0 (omega arith), minus-from last first h)

pub frames_of-none : frames_of nothing ≡ None
unfolding frames_of
frames_of-none = refl

module _ (s : Search) where
  pub frames-none : s.past ≡ 0 → None ≡ frames_of (ends_of s)
  frames-none z = sym (ap frames_of (ends-none s z) ∙ frames_of-none)

  pub frames-under : (s.past ≡ 0 → ⊥) → s.past - 1 < s.first + 3 → None ≡ frames_of (ends_of s)
  frames-under n h = sym (ap frames_of (ends-met s n) ∙ frames_of-under s.first (s.past - 1) h)

  pub frames-from : (s.past ≡ 0 → ⊥) → s.first + 3 ≤ s.past - 1 → Some (frames s.first (s.past - 1)) ≡ frames_of (ends_of s)
  frames-from n h = sym (ap frames_of (ends-met s n) ∙ frames_of-from s.first (s.past - 1) h)
