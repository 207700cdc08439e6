-- Which bits stand for a time, and when two times have the same bits. Assumes nothing.
use Rattle.std.specs.Prelude.{ℕ, ◌<◌, ◌^◌, ◌≡◌, Float}
use Rattle.std.specs.Float.{binary64}
use Rattle.std.specs.Float.Ieee.{of_bits, to_bits}

-- ---- A pattern of 64 bits that is read as x. A NaN has many.
abbrev pub Stores : ℕ → Float → Type 0
Stores bits x = (bits < 2 ^ 64) × (of_bits binary64 bits ≡ x)

-- ---- "the same bits": both have one pattern, and a place that holds either holds no other pattern.
pub record SameBits (x y : Float) : Type 0 where
  pub pattern : to_bits binary64 x ≡ to_bits binary64 y
  pub first-only : (bits : ℕ) → Stores bits x → bits ≡ to_bits binary64 x
  pub second-only : (bits : ℕ) → Stores bits y → bits ≡ to_bits binary64 y
