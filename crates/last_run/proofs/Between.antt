-- The last run between two times is that of the frames from one index to another. Assumes nothing.
use Rattle.std.specs.Prelude.{Option, Some, None, IfSome}
use Rattle.base.specs.declared.Times.{Times}
use Rattle.base.specs.Words.{times}
use Prim.Native.Nat.{ℕ, ◌+◌, ◌-◌, ◌<◌, ◌≤◌, ◌^◌, min}
use mathlib.Core.Bool.{Bool, true, false}
use mathlib.Core.List.{List}
use mathlib.Core.Path.{◌≡◌, refl, ap, ◌∙◌, sym}
use native.Mathlib.Omega.{arith}
use borrow.Author.Tests.{le-ltb, ltb-true, ltb-false}
use lib.Dec.{ltb}
use lib.IntN.{ℤ, pos, negsuc}
use lib.ListN.{length}
use lib.Ieee.{Float}
use Rattle.base.specs.Whole.{to_nat, min_z, max_z}
use Rattle.frames.specs.Frames.{frame_at, frame_from_zero, frame_seconds}
use Rattle.frames.proofs.Indices.{from_zero-nat}
use Rattle.envelope.specs.Envelope.{loud_row}
use Rattle.envelope.proofs.Scan.{length-row}
use Rattle.last_run.specs.LastRun.{frames_of, frame_run, seconds_of, last_run, frames}
use Rattle.last_run.specs.Parts.{last_frame}
use Rattle.last_run.specs.Exact.{first_frame, end_frame}
use Rattle.last_run.specs.declared.FrameRun.{FrameRun}
use Rattle.last_run.proofs.Steps.{ends-nat}

from_zero-is : (t : Float) → frame_from_zero t ≡ pos (to_nat (frame_from_zero t))
unfolding frame_from_zero
from_zero-is t = go (frame_at t) where
  go : (z : ℤ) → max_z z (pos 0) ≡ pos (to_nat (max_z z (pos 0)))
  go (pos n) = rw (le-ltb n 0 (omega arith))
  go (negsuc n) = refl

min_z-pos : (a b : ℕ) → min_z (pos a) (pos b) ≡ pos (min a b)
min_z-pos a b = go (ltb b a) refl where
  go : (t : Bool) → ltb b a ≡ t → min_z (pos a) (pos b) ≡ pos (min a b)
  go true e = let h = ltb-true b a e in rw e (ap pos (omega arith))
  go false e = let h = ltb-false b a e in rw e (ap pos (omega arith))

pub last_run-is : (row : List Bool) (from to : Float) → last_run row from to ≡ seconds_of (frame_run row (pos (first_frame from)) (pos (end_frame row to)))
unfolding last_run
last_run-is row from to =
    ap (λ (z : ℤ). seconds_of (frame_run row z (min_z (pos (length row)) (frame_from_zero to)))) (from_zero-is from)
    ∙ ap (λ (z : ℤ). seconds_of (frame_run row (pos (first_frame from)) z)) (ap (min_z (pos (length row))) (from_zero-is to) ∙ min_z-pos (length row) (to_nat (frame_from_zero to)))

-- a start that leaves as many frames
frame_run-from : (row : List Bool) (a b hi : ℕ) → hi - a ≡ hi - b → frame_run row (pos a) (pos hi) ≡ frame_run row (pos b) (pos hi)
unfolding frame_run
frame_run-from row a b hi h = ap frames_of (ends-nat row hi (pos a) ∙ (rw h) ∙ sym (ends-nat row hi (pos b)))

-- ---- by what the code's parts give
module _ (floor : Float) (levels : List Float) (from to : Float) where
  pub between_is : {lo hi : ℕ} {f : Option FrameRun} {r : Option Times} → lo ≡ to_nat (frame_at from) → hi ≡ min (length levels) (to_nat (frame_at to))
      → f ≡ frame_run (loud_row floor levels) (pos lo) (pos hi) → r ≡ seconds_of f → r ≡ last_run (loud_row floor levels) from to
  between_is {lo} {hi} islo ishi ef er =
      let a = from_zero-nat from in
      let b = from_zero-nat to in
      let n = length-row floor levels in
      let e : hi ≡ end_frame (loud_row floor levels) to = rw (n, b) (omega arith) in
      let g : hi - lo ≡ hi - first_frame from = rw a (omega arith) in
      er ∙ ap seconds_of (ef ∙ frame_run-from (loud_row floor levels) lo (first_frame from) hi g ∙ ap (λ (h : ℕ). frame_run (loud_row floor levels) (pos (first_frame from)) (pos h)) e)
      ∙ sym (last_run-is (loud_row floor levels) from to)

-- ---- a run that ends before frame m ends before a later frame, and its last frame is a number that has a next one
pub sooner : (r : Option FrameRun) {m n : ℕ} → IfSome r (λ (run : FrameRun). run.last < m) → m ≤ n → IfSome r (λ (run : FrameRun). run.last < n)
sooner (Some run) h l = omega (arith, h, l)
sooner None h l = tt

pub last-fits : (r : Option FrameRun) {n : ℕ} → IfSome r (λ (run : FrameRun). run.last < n) → n ≤ 2 ^ 62 → last_frame r + 1 < 2 ^ 64
last-fits (Some run) h l = omega (arith, h, l)
last-fits None h l = omega arith

-- ---- a run in seconds
pub seconds-found : {r : Option FrameRun} {s e : Float} (first last : ℕ) → r ≡ Some (frames first last) → s ≡ frame_seconds (pos first) → e ≡ frame_seconds (pos (last + 1)) → Some (times s e) ≡ seconds_of r
seconds-found first last h p q = rw (h, p, q)
