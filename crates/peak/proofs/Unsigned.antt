-- std's number without its sign is the definition's; and of a zero it is zero. Assumes nothing.
use Rattle.std.proofs.Common.{◌≡◌, ℕ, zero, suc, ◌*◌, ◌^◌, ◌<◌, Bool, true, false, ◌&&◌, T, ℤ, pos, sym, refl, ap, ◌∙◌, true≢false, mul-pos, zero-mul, arith, eqb-true}
use lib.Ieee.{Float, nan, inf, fin, Format, binary64, low, up, down, fits, eq}
use lib.Ieee.Fits.{up_pos}
use Rattle.base.proofs.Units.{same-value}
use Rattle.std.specs.Float.{float_with_sign}
use Rattle.peak.specs.Peak.{magnitude}

pub unsigned : (x : Float) → float_with_sign false x ≡ magnitude x
unfolding float_with_sign
unsigned nan = refl
unsigned (inf s) = refl
unsigned (fin s m e) = refl

-- ---- a zero of either sign
abbrev zero_f : Float
zero_f = fin false 0 (pos 0)

-- a format writes zero in one way
one-zero : (f : Format) (e : ℤ) → T (fits f (fin false 0 e)) → zero_f ≡ fin false 0 e
unfolding fits
one-zero f e t = same-value f zero_f (fin false 0 e) 0 tt t (refl, none (pos 0)) (refl, none e)
  where
    none : (e : ℤ) → 0 * up e * 2 ^ low f ≡ 0 * down e
    none e = ap (λ (x : ℕ). x * 2 ^ low f) (zero-mul (up e)) ∙ zero-mul (2 ^ low f) ∙ sym (zero-mul (down e))

and_left : (a b : Bool) → (a && b) ≡ true → a ≡ true
and_left true b h = refl
and_left false b h = h

-- a number that equals zero is zero without its sign
pub is_zero : (x : Float) → T (fits binary64 x) → eq x zero_f ≡ true → zero_f ≡ magnitude x
unfolding eq fits
is_zero nan t h = absurd (true≢false (sym h))
is_zero (inf s) t h = absurd (true≢false (sym h))
is_zero (fin s zero e) t h = one-zero binary64 e t
is_zero (fin s (suc m) e) t h =
    let p : 0 < suc m = omega arith in
    absurd (omega (arith, mul-pos p (up_pos e), eqb-true (suc m * up e * 1) (0 * down e) (and_left _ _ h), zero-mul (down e)))
