-- A frame as an index: a cut at 2 ^ 40 would not be seen beside a number up to 2 ^ 40. Assumes nothing.
use Rattle.std.proofs.Common.{◌≡◌, ℕ, ◌^◌, ◌≤◌, min, ℤ, pos, ◌∙◌, arith}
use lib.Ieee.{Float}
use Rattle.base.specs.Whole.{to_nat, min_z}
use Rattle.base.proofs.Loops.{min-nat, max-nat}
use Rattle.frames.specs.Frames.{frame_at, frame_from_zero}

-- of any frame k
module _ (n : ℕ) (k : ℤ) (h : n ≤ 2 ^ 40) where
  pub min-index : min n (to_nat k) ≡ min n (min (to_nat k) (2 ^ 40))
  min-index = omega arith

  pub min_z-index : to_nat (min_z (pos n) k) ≡ min n (min (to_nat k) (2 ^ 40))
  min_z-index = min-nat n k ∙ min-index

pub from_zero-nat : (t : Float) → to_nat (frame_from_zero t) ≡ to_nat (frame_at t)
unfolding frame_from_zero
from_zero-nat t = max-nat (frame_at t) (pos 0) ∙ omega arith
