-- Rust's operators on f64, each an operation of IEEE 754 that rounds once, a whole number `as f64`, and how large a number is at most. Assumes nothing.
use Rattle.std.specs.Prelude.{ℕ, ◌*◌, ◌≤◌, ◌≡◌, Bool, pos, Float}
use Rattle.std.specs.Float.{nan, inf, fin, binary64}
use Rattle.std.specs.Float.Ieee.{of_int, add, sub, mul, div, up, down}

infixl 6 ◌⊕◌ ◌⊖◌
infixl 7 ◌⊗◌ ◌⊘◌
abbrev pub ◌⊕◌ : Float → Float → Float
x ⊕ y = add binary64 x y

abbrev pub ◌⊖◌ : Float → Float → Float
x ⊖ y = sub binary64 x y

abbrev pub ◌⊗◌ : Float → Float → Float
x ⊗ y = mul binary64 x y

abbrev pub ◌⊘◌ : Float → Float → Float
x ⊘ y = div binary64 x y

-- ---- n as f64
abbrev pub num : ℕ → Float
num n = of_int binary64 (pos n)

-- ---- x has the sign s, and is at most n / d in size.
abbrev pub Most : Bool → ℕ → ℕ → Float → Type 0
Most s n d nan = ⊥
Most s n d (inf t) = ⊥
Most s n d (fin t m e) = (t ≡ s) × (m * up e * d ≤ n * down e)
