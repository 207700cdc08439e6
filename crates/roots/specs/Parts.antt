-- What the internal parts of src/lib.rt promise each other. A reader of `sqrt`'s contract may skip it. Assumes nothing.
use Rattle.std.specs.Prelude.{ℕ, ◌+◌, ◌*◌, ◌^◌, ◌≤◌, ◌<◌, ◌≡◌, Float}
use Rattle.std.specs.Float.{binary64}
use Rattle.std.specs.Float.Ieee.{of_bits}
use Rattle.roots.specs.Sqrt.{near_root}

-- ---- A search for the root of a * 2 ^ 52 that has its digits from w = 2 ^ j up: they are q, and r * w is what q * q leaves of the number.
pub record Search (a q r w j : ℕ) : Type 0 where
  pub weight : w ≡ 2 ^ j
  pub left : r * w + q * q ≡ a * 2 ^ 52
  pub less : r < 2 * q + w

-- ---- What a search between q and q + w finds: the root of a * 2 ^ 52 to the nearest, within these bounds.
pub record Found (a q w y : ℕ) : Type 0 where
  pub value : y ≡ near_root (a * 2 ^ 52) 1
  pub low : q ≤ y
  pub high : y ≤ q + w

-- ---- y is the bit pattern of r, and below that of the infinity.
pub record Rooted (r : Float) (y : ℕ) : Type 0 where
  pub value : of_bits binary64 y ≡ r
  pub finite : y < 2047 * 2 ^ 52
