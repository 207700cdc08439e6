-- What the nearest square root is, told by the real root: "correctly rounded". A value that is not negative is counted in units of
-- the format's smallest positive value. Assumes nothing.
use Rattle.std.specs.Prelude.{ℕ, zero, suc, ◌+◌, ◌*◌, ◌^◌, ◌<◌, ◌≡◌, true, false, T, Float}
use Rattle.std.specs.Float.{nan, inf, fin, Format}
use Rattle.std.specs.Float.Ieee.{low, fits}
use Rattle.std.specs.Float.Ieee.Exact.{HasValue}

-- ---- x is n units, and not negative.
abbrev pub InUnits : Format → Float → ℕ → Type 0
InUnits f x n = HasValue x false n (2 ^ low f)

-- ---- R is nearer to √N than Y: the middle of the two, (R + Y) / 2, lies on Y's side of √N. Doubled and squared, for R below Y: 4 * N < (R + Y)².
abbrev pub Nearer : (N R Y : ℕ) → Type 0
Nearer N R Y = (R < Y → 4 * N < (R + Y) * (R + Y)) × (Y < R → (R + Y) * (R + Y) < 4 * N)

-- ---- Of all values of the format, one of Q units is the nearest to √x, for an x of n units: strictly nearer than each other.
abbrev pub Nearest : Format → ℕ → ℕ → Type 0
Nearest f n Q = (y : Float) (Y : ℕ) → T (fits f y) → InUnits f y Y → Nearer (n * 2 ^ low f) Q Y

-- ---- r is a value of the format, and of all of them the nearest to √x.
pub record NearestRoot (f : Format) (x r : Float) : Type 0 where
  pub argument : ℕ
  pub argument-units : InUnits f x argument
  pub held : T (fits f r)
  pub root : ℕ
  pub root-units : InUnits f r root
  pub nearest : Nearest f argument root

-- ---- r is the square root of x, case by case: NaN, the two infinities, the two zeros, the numbers below zero, those above.
abbrev pub IsSquareRoot : Format → Float → Float → Type 0
IsSquareRoot f nan r = r ≡ nan
IsSquareRoot f (inf true) r = r ≡ nan
IsSquareRoot f (inf false) r = r ≡ inf false
IsSquareRoot f (fin s zero e) r = r ≡ fin s zero e
IsSquareRoot f (fin true (suc m) e) r = r ≡ nan
IsSquareRoot f (fin false (suc m) e) r = NearestRoot f (fin false (suc m) e) r
