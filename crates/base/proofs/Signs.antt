-- Signs and NaN: rounding a negative number mirrors rounding its size; a comparison with NaN is false. Assumes nothing.
use mathlib.Core.Path.{◌≡◌, refl, sym, ◌∙◌}
use Prim.Native.Nat.{ℕ, zero, suc, ◌+◌, ◌-◌, ◌*◌, ◌/◌, ◌%◌, ◌^◌, ◌<◌, compare}
use mathlib.Core.Bool.{Bool, true, false, not, cond, true≢false}
use native.Mathlib.Nat.{zero-mul}
use lib.IntN.{pos}
use lib.Dec.{T, ltb, lit<}
use lib.Ieee.{Float, nan, inf, fin, Format, binary64, span, climb, prec, low, emax, lt, eq, ne, neg, is_nan, round, units, odd, size, nearest}
use lib.Ieee.Scale.{round_same}

pub neg-neg : (x : Float) → neg (neg x) ≡ x
unfolding neg
neg-neg nan = refl
neg-neg (inf true) = refl
neg-neg (inf false) = refl
neg-neg (fin true m e) = refl
neg-neg (fin false m e) = refl

pub round-neg : (f : Format) (a b : ℕ) → round f true a b ≡ neg (round f false a b)
unfolding round neg
round-neg f a b = go (nearest (a * 2 ^ low f / (b * 2 ^ (size (a * 2 ^ low f / b) - prec f))) (compare (a * 2 ^ low f % (b * 2 ^ (size (a * 2 ^ low f / b) - prec f)) * 2) (b * 2 ^ (size (a * 2 ^ low f / b) - prec f)))) (size (a * 2 ^ low f / b) - prec f) where
  pass : (t : Bool) (q k : ℕ) → cond t (odd (suc (prec f)) true q k (low f)) (inf true) ≡ neg (cond t (odd (suc (prec f)) false q k (low f)) (inf false))
  pass true zero k = refl
  pass true (suc q) k = refl
  pass false q k = refl

  go : (q k : ℕ) → units f true q k ≡ neg (units f false q k)
  go q k = pass (ltb (q * 2 ^ k) (2 ^ (low f + suc (emax f)))) q k

-- nothing is +0
pub round-zero : (den : ℕ) → 0 < den → round binary64 false 0 den ≡ fin false 0 (pos 0)
unfolding round size span climb units odd
round-zero den P = round_same binary64 false 0 den 0 1 P (lit< tt) (zero-mul 1 ∙ sym (zero-mul den))

pub lt-nan : (x : Float) → lt x nan ≡ false
unfolding lt
lt-nan nan = refl
lt-nan (inf s) = refl
lt-nan (fin s m e) = refl

pub no_nan : (x : Float) → ne x x ≡ false → T (not (is_nan x))
unfolding ne eq is_nan
no_nan nan h = absurd (true≢false h)
no_nan (inf s) h = tt
no_nan (fin s m e) h = tt
