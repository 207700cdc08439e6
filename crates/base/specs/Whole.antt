-- Whole numbers, as Rust has them. Assumes nothing.
use Rattle.std.specs.Prelude.{ℕ, cond, ℤ, pos, negsuc}
use Rattle.std.specs.Int.Signed.{lt_z}

-- ---- k.max(0) as usize
abbrev pub to_nat : ℤ → ℕ
to_nat (pos n) = n
to_nat (negsuc n) = 0

-- ---- i64::min
abbrev pub min_z : ℤ → ℤ → ℤ
min_z a b = cond (lt_z b a) b a

-- ---- i64::max
abbrev pub max_z : ℤ → ℤ → ℤ
max_z a b = cond (lt_z a b) b a
