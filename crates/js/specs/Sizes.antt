-- What the theorems on ECMAScript's number functions are said with: numbers, distances and sizes. Assumes nothing.
use Rattle.std.specs.Prelude.{ℕ, ◌+◌, ◌-◌, ◌*◌, ◌^◌, ◌≤◌, not, T, Float}
use Rattle.std.specs.Float.{nan, inf, fin, binary64}
use Rattle.std.specs.Float.Ieee.{fits, is_nan, up, down}

-- ---- A number of the format that is not NaN.
abbrev pub Number : Float → Type 0
Number x = T (fits binary64 x) × T (not (is_nan x))

-- ---- How far two numbers lie apart.
abbrev pub apart : ℕ → ℕ → ℕ
apart x y = (x - y) + (y - x)

-- ---- "NaN, infinities and |x| of 2^49 or more return x."
abbrev pub Vast : Float → Type 0
Vast nan = Unit {0}
Vast (inf s) = Unit {0}
Vast (fin s m e) = 2 ^ 49 * down e ≤ m * up e
