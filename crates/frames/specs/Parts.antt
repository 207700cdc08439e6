-- What only the code's inner contracts cite: a reader of the promises may skip it. Assumes nothing.
use Rattle.std.specs.Prelude.{ℕ, ◌+◌, ◌-◌, ◌*◌, ◌/◌, ◌^◌, min, cond, Float}
use Rattle.std.specs.Float.{nan, inf, fin}
use Rattle.std.specs.Float.Ieee.{up, down}

-- ---- x rounded up, from 0 to 2 ^ 64 - 1; NaN gives 0.
unfoldable pub ceil_unsigned : Float → ℕ
ceil_unsigned nan = 0
ceil_unsigned (inf s) = cond s 0 (2 ^ 64 - 1)
ceil_unsigned (fin s m e) = cond s 0 (min ((m * up e + (down e - 1)) / down e) (2 ^ 64 - 1))
