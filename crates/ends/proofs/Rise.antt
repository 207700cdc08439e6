-- The first loud frame from a word's start to the next word's end: the code looks for it from zero and among the frames that exist, and
-- no other frame is loud. Assumes nothing.
use Prim.Native.Nat.{ℕ, ◌-◌, ◌<◌, ◌≤◌, min, max}
use mathlib.Core.Bool.{Bool, true, false}
use mathlib.Core.List.{List}
use mathlib.Core.Path.{◌≡◌, refl, sym, ap, ◌∙◌}
use native.Mathlib.Omega.{arith}
use borrow.Author.Tests.{ltb-true, ltb-false}
use lib.Dec.{ltb}
use lib.IntN.{ℤ, pos}
use lib.ListN.{length}
use lib.Ieee.{Float}
use Rattle.base.specs.Whole.{to_nat}
use Rattle.base.specs.Loop.{on, run}
use Rattle.base.proofs.Loops.{advance, range-nat, run-stop, run-done}
use Rattle.js.specs.Js.{js_max}
use Rattle.frames.specs.Frames.{frame_at, frame_seconds}
use Rattle.envelope.specs.Envelope.{loud, loud_row}
use Rattle.envelope.specs.Parts.{Throughout, IsFirst}
use Rattle.envelope.proofs.Scan.{loud-past, length-row}
use Rattle.ends.specs.Ends.{find_turn, pair_start}

find-nat : (row : List Bool) (a b : Float) → pair_start row a b ≡ run (find_turn row) (to_nat (frame_at b) - to_nat (frame_at a)) (pos (to_nat (frame_at a))) (on a)
unfolding pair_start
find-nat row a b =
    range-nat (find_turn row) (λ s. s) (λ s. s ≡ a) (λ s. s)
    (λ (j : ℕ) (s : Float) (p : s ≡ a). refl)
    (λ (s : Float) (p : s ≡ a). p)
    (λ (n : ℕ) (k : ℤ) (s t : Float) (p : s ≡ a) (q : t ≡ a). rw (p, q))
    (frame_at a) (frame_at b) a refl

module _ (floor : Float) (levels : List Float) (a b : Float) (lo hi : ℕ) (islo : lo ≡ to_nat (frame_at a)) (ishi : hi ≡ min (length levels) (to_nat (frame_at b))) where
  abbrev row : List Bool
  row = loud_row floor levels

  pub rise-met : {r x : Float} (k : ℕ) → IsFirst (loud_row floor levels) true lo hi k → x ≡ frame_seconds (pos k) → r ≡ js_max a x → r ≡ pair_start (loud_row floor levels) a b
  rise-met k w ex er =
      let l = w.from in
      let h = w.to in
      let z : to_nat (frame_at a) ≡ lo = omega arith in
      er ∙ ap (js_max a) ex
      ∙ sym (find-nat row a b ∙ rw z (advance (find_turn row) (λ _. a) (to_nat (frame_at b)) lo k w.from (omega arith)
      (λ (j : ℕ) (p : lo ≤ j) (q : j < k). rw (w.before j p q))
      ∙ run-stop (find_turn row) (to_nat (frame_at b)) k (omega arith) (rw w.found)))

  pub rise-none : Throughout (loud_row floor levels) false lo hi → a ≡ pair_start (loud_row floor levels) a b
  rise-none quiet =
      sym (find-nat row a b
      ∙ advance (find_turn row) (λ _. a) (to_nat (frame_at b)) (to_nat (frame_at a)) (max (to_nat (frame_at a)) (to_nat (frame_at b))) (omega arith) (omega arith)
      (λ (j : ℕ) (p : to_nat (frame_at a) ≤ j) (q : j < max (to_nat (frame_at a)) (to_nat (frame_at b))). rw (all j (omega arith) (omega arith) (ltb j hi) refl))
      ∙ run-done (find_turn row) (to_nat (frame_at b)) (max (to_nat (frame_at a)) (to_nat (frame_at b))) a (omega arith)) where
        all : (j : ℕ) → lo ≤ j → j < to_nat (frame_at b) → (t : Bool) → ltb j hi ≡ t → loud row (pos j) ≡ false
        all j p q true e = quiet j p (ltb-true j hi e)
        all j p q false e = loud-past row j (omega (arith, length-row floor levels, ltb-false j hi e))
