-- js.rs: ECMAScript's Math.min, Math.max and Number.prototype.toFixed with three decimals, read back as a number. Assumes nothing.
use Rattle.std.specs.Prelude.{ℕ, ◌+◌, ◌*◌, ◌/◌, ◌%◌, ◌^◌, Bool, false, cond, not, ◌&&◌, ◌||◌, leb, ltb, Float}
use Rattle.std.specs.Float.{nan, inf, fin, binary64}
use Rattle.std.specs.Float.Ieee.{is_nan, lt, eq, round, up, down}

-- ---- The sign of a number: whether it is negative, or -0. (NaN has none.)
abbrev pub negative : Float → Bool
negative nan = false
negative (inf s) = s
negative (fin s m e) = s

-- ---- The order of Math.min and Math.max: by value, and -0 is below +0.
unfoldable pub under : Float → Float → Bool
under a b = lt a b || (eq a b && (negative a && not (negative b)))

-- ---- Math.min (ECMAScript 2024, 21.3.2.25): NaN if either is; else the lower one.
unfoldable pub js_min : Float → Float → Float
js_min a b = cond (is_nan a || is_nan b) nan (cond (under b a) b a)

-- ---- Math.max (ECMAScript 2024, 21.3.2.24): NaN if either is; else the higher one.
unfoldable pub js_max : Float → Float → Float
js_max a b = cond (is_nan a || is_nan b) nan (cond (under a b) b a)

-- ---- The whole number nearest to a / b, of two the larger. Its law `nearest_up-best` says so.
unfoldable pub nearest_up : ℕ → ℕ → ℕ
nearest_up a b = cond (ltb (a % b * 2) b) (a / b) (a / b + 1)

-- ---- Number.prototype.toFixed (ECMAScript 2024, 21.1.3.3) with three decimals, read back. x is ±a / b.
-- "If x is not finite", x. "If x < 0": "-", and x is -x. "If x ≥ 10^21", x. Else "let n be an integer for which n / 10^f - x is as
-- close to zero as possible. If there are two such n, pick the larger n"; read back as document 01 has it, "the answer is the double
-- nearest n / 1000, with the sign of x".
unfoldable pub js_to_fixed : Float → Float
js_to_fixed nan = nan
js_to_fixed (inf s) = inf s
js_to_fixed (fin s m e) = fixed (s && ltb 0 m) (m * up e) (down e)
  where
    fixed : Bool → ℕ → ℕ → Float
    fixed sign a b = cond (leb (10 ^ 21 * b) a) (fin s m e) (round binary64 sign (nearest_up (a * 1000) b) 1000)
