-- No word's letters need a sound of 5,001 frames: 1,000 letters need 50 s, and 5,001 frames last 50.01 s. By rounding, which keeps an order: as an f64
-- the samples of 5,001 frames or more are no fewer than those of 5,001 frames, or infinity. Assumes nothing.
use Prim.Native.Nat.{ℕ, suc, ◌+◌, ◌*◌, ◌≤◌, ◌^◌}
use mathlib.Core.Bool.{Bool, true, false, cond, ◌&&◌, ◌||◌}
use mathlib.Core.Path.{◌≡◌, refl, sym, subst}
use native.Mathlib.Nat.{mul-le-mul_right}
use native.Mathlib.Omega.{arith}
use borrow.Author.Tests.{ltb-true, eqb-true}
use lib.IntN.{pos}
use lib.Dec.{T, ltb, eqb, lit<}
use lib.Pow.{pow_pos}
use lib.Count.{count_trailing_zeros}
use lib.Ieee.{Float, inf, binary64, prec, emax, low, up, down, odd, units, round, lt, le, eq, div, of_int, of_bits, of_fields}
use lib.Ieee.Bits.{is_true}
use lib.Ieee.Exact.{odd_sign}
use lib.Ieee.Fits.{down_pos, round_is}
use lib.Ieee.Order.{drop, kept, transfer, round_mono}
use Rattle.base.specs.Floats.{◌⊗◌, num}
use Rattle.base.proofs.Values.{Fraction, fraction, whole-value, whole-int, mul-fraction, div-fraction}
use Rattle.frames.specs.Frames.{rate, frame_seconds}
use Rattle.tails.specs.Tails.{min_letter}

-- ---- 0.05, as its f64 is, times so many letters
need-is : (letters : ℕ) → letters ≤ 1000 → min_letter ⊗ num letters ≡ round binary64 false (3602879701896397 * letters) (2 ^ 56 * 1)
unfolding of_bits of_fields count_trailing_zeros
need-is letters h = mul-fraction binary64 (fraction _ 3602879701896397 (2 ^ 56) (refl, refl)) (whole-int binary64 letters (omega arith)) (lit< tt) (lit< tt)

-- ---- two fractions are in their floats' order
at_most : (p q : ℕ) → T (ltb p q || (eqb p q && true)) → p ≤ q
at_most p q h = go (ltb p q) refl (eqb p q) refl where
  go : (a : Bool) → ltb p q ≡ a → (c : Bool) → eqb p q ≡ c → p ≤ q
  go true e c g = omega (arith, ltb-true p q e)
  go false e true g = omega (arith, eqb-true p q g)
  go false e false g = absurd (rw (e, g) at h)

in-order : {x y : Float} {a b c d : ℕ} → Fraction x a c → Fraction y b d → T (le x y) → a * d ≤ b * c
unfolding le lt eq
in-order {x} {y} {a} {b} {c} {d} v w h =
    transfer a b c d (v.m * up v.e) (w.m * up w.e) (down v.e) (down w.e) (down_pos v.e) (down_pos w.e) (sym v.value) (sym w.value)
    (at_most (v.m * up v.e * down w.e) (w.m * up w.e * down v.e) (rw (v.is, w.is) at h))

-- ---- x is 800,160 or more, the samples of 5,001 frames
data Least (x : Float) : Type 0 where
  infinite : x ≡ inf false → Least x
  finite : (a : ℕ) → 800160 * 2 ^ low binary64 ≤ a * 1 → Fraction x a (2 ^ low binary64) → Least x

units_least : (q k : ℕ) → T (le (num 800160) (units binary64 false q k)) → Least (units binary64 false q k)
unfolding units
units_least q k = go (ltb (q * 2 ^ k) (2 ^ (low binary64 + suc (emax binary64)))) where
  go : (b : Bool) → T (le (num 800160) (cond b (odd (suc (prec binary64)) false q k (low binary64)) (inf false))) → Least (cond b (odd (suc (prec binary64)) false q k (low binary64)) (inf false))
  go true h =
      let v = fraction _ (q * 2 ^ k) (2 ^ low binary64) (odd_sign (suc (prec binary64)) false q k (low binary64)) in
      finite (q * 2 ^ k) (in-order (whole-int binary64 800160 (lit< tt)) v h) v
  go false h = infinite refl

samples-least : (n : ℕ) → 800160 ≤ n → Least (num n)
unfolding of_int
samples-least n h =
    subst Least (sym (round_is binary64 false n 1))
    (units_least (kept (prec binary64) (n * 2 ^ low binary64) 1) (drop (prec binary64) (n * 2 ^ low binary64) 1)
    (subst (λ (x : Float). T (le (num 800160) x)) (round_is binary64 false n 1) (round_mono binary64 800160 1 n 1 (lit< tt) (lit< tt) (omega arith))))

-- ---- no rounded fraction is above infinity
units-below : (q k : ℕ) → T (le (units binary64 false q k) (inf false))
unfolding units le lt eq
units-below q k = go (ltb (q * 2 ^ k) (2 ^ (low binary64 + suc (emax binary64)))) where
  go : (b : Bool) → T (le (cond b (odd (suc (prec binary64)) false q k (low binary64)) (inf false)) (inf false))
  go true = let v = fraction _ (q * 2 ^ k) (2 ^ low binary64) (odd_sign (suc (prec binary64)) false q k (low binary64)) in rw v.is tt
  go false = tt

below-inf : (a c : ℕ) → T (le (round binary64 false a c) (inf false))
below-inf a c =
    subst (λ (x : Float). T (le x (inf false))) (sym (round_is binary64 false a c))
    (units-below (kept (prec binary64) (a * 2 ^ low binary64) c) (drop (prec binary64) (a * 2 ^ low binary64) c))

-- ---- a time of 800,160 samples or more is long
enough : (letters l a : ℕ) → letters ≤ 1000 → 800160 * l ≤ a * 1 → 3602879701896397 * letters * (16000 * l) ≤ a * 1 * (2 ^ 56 * 1)
enough letters l a h g = let m : letters * l ≤ 1000 * l = mul-le-mul_right l h in omega arith

long-by : (letters : ℕ) → letters ≤ 1000 → (x : Float) → Least x → T (le (round binary64 false (3602879701896397 * letters) (2 ^ 56 * 1)) (div binary64 x rate))
unfolding div of_bits of_fields count_trailing_zeros
long-by letters h x (infinite e) = rw e (below-inf (3602879701896397 * letters) (2 ^ 56 * 1))
long-by letters h x (finite a g v) =
    subst (λ (y : Float). T (le (round binary64 false (3602879701896397 * letters) (2 ^ 56 * 1)) y)) (sym (div-fraction binary64 v (whole-value rate 16000 (refl, refl)) (pow_pos (low binary64)) (lit< tt) (lit< tt)))
    (round_mono binary64 (3602879701896397 * letters) (2 ^ 56 * 1) (a * 1) (16000 * 2 ^ low binary64) (lit< tt) (lit< tt) (enough letters (2 ^ low binary64) a h g))

pub long-anyway : (letters n : ℕ) → letters ≤ 1000 → 5001 ≤ n → le (min_letter ⊗ num letters) (frame_seconds (pos n)) ≡ true
unfolding frame_seconds
long-anyway letters n h l = is_true _ (rw (need-is letters h) (long-by letters h _ (samples-least (n * 160) (omega arith))))
