-- The root by the bits of its argument, in the cases that the code has. Assumes nothing.
use mathlib.Core.Path.{◌≡◌, refl, sym, ap, ◌∙◌, subst}
use mathlib.Core.Logic.{◌⊎◌, inl, inr}
use Prim.Native.Nat.{ℕ, zero, suc, ◌+◌, ◌-◌, ◌*◌, ◌/◌, ◌%◌, ◌^◌, ◌≤◌, ◌<◌}
use native.Mathlib.Nat.{mul_assoc, mul-pos, eq-or-lt_of_le, pow-succ'}
use native.Mathlib.Omega.{arith}
use mathlib.Core.Bool.{Bool, true, false, not, cond, true≢false}
use lib.Dec.{T, leb, eqb, le→leb}
use lib.Pow.{pow-add, pow_pos}
use lib.Arith.{le→nltb}
use lib.Ieee.{Float, nan, inf, fin, Format, binary64, prec, low, odd, div, is_nan, of_fields, of_bits, nan_bits}
use lib.Ieee.Exact.{odd_sign}
use lib.Ieee.Bits.{is_true, nan_bits_above}
use Rattle.base.proofs.Bits.{decode, fields-low, fields-mid, fields-top, value_low, value_mid}
use Rattle.roots.specs.Sqrt.{round_root, sqrt}
use Rattle.roots.specs.Parts.{Rooted}
use Rattle.roots.specs.Nearest.{InUnits}
use Rattle.roots.proofs.Fours.{fours}
use Rattle.roots.proofs.Value.{sqrt-pos, sqrt-neg}

-- ---- NaN
pub at-nan : (f : Format) (x : Float) → is_nan x ≡ true → x ≡ sqrt f x
unfolding is_nan sqrt
at-nan f nan h = refl
at-nan f (inf s) h = absurd (true≢false (sym h))
at-nan f (fin s m e) h = absurd (true≢false (sym h))

pub made-nan : of_bits binary64 0x7ff8_0000_0000_0000 ≡ nan
unfolding of_bits of_fields odd
made-nan = refl

-- ---- the zeros
pub plus-zero : (b : ℕ) → b ≡ 0 → of_bits binary64 b ≡ sqrt binary64 (of_bits binary64 b)
unfolding of_bits of_fields odd sqrt
plus-zero b e = subst (λ (b : ℕ). of_bits binary64 b ≡ sqrt binary64 (of_bits binary64 b)) (sym e) refl

pub minus-zero : (b : ℕ) → b ≡ 2 ^ 63 → of_bits binary64 b ≡ sqrt binary64 (of_bits binary64 b)
unfolding of_bits of_fields odd sqrt
minus-zero b e = subst (λ (b : ℕ). of_bits binary64 b ≡ sqrt binary64 (of_bits binary64 b)) (sym e) refl

-- ---- below zero, the negative infinity among them
below_top : (b : Bool) → sqrt binary64 (cond b (inf true) nan) ≡ nan
unfolding sqrt
below_top true = refl
below_top false = refl

below-fields : (x t : ℕ) → x ≤ 2047 → (x ≡ 0 → 0 < t) → sqrt binary64 (of_fields binary64 true x t) ≡ nan
below-fields zero t X h =
    ap (sqrt binary64) (fields-low binary64 true t)
    ∙ sqrt-neg binary64 _ (t * 2 ^ 0) (2 ^ low binary64) (mul-pos (h refl) (pow_pos 0)) (odd_sign (prec binary64) true t 0 (low binary64))
below-fields (suc x) t X h = go (eq-or-lt_of_le X)
  where
    go : (suc x ≡ 2047) ⊎ (suc x < 2047) → sqrt binary64 (of_fields binary64 true (suc x) t) ≡ nan
    go (inl e) = ap (sqrt binary64) (fields-top binary64 true t x e) ∙ below_top (eqb t 0)
    go (inr l) =
        ap (sqrt binary64) (fields-mid binary64 true t x l)
        ∙ sqrt-neg binary64 _ ((2 ^ 52 + t) * 2 ^ x) (2 ^ low binary64) (mul-pos {m = 2 ^ 52 + t} (omega arith) (pow_pos x)) (odd_sign (prec binary64) true (2 ^ 52 + t) x (low binary64))

pub below-zero : (b : ℕ) → 2 ^ 63 < b → b < 2 ^ 64 → sqrt binary64 (of_bits binary64 b) ≡ nan
unfolding of_bits
below-zero b l u =
    ap (λ (s : Bool). sqrt binary64 (of_fields binary64 s (b % 2 ^ 63 / 2 ^ 52) (b % 2 ^ 52))) (is_true (leb (2 ^ 63) b) (le→leb (2 ^ 63) b (omega arith)))
    ∙ below-fields (b % 2 ^ 63 / 2 ^ 52) (b % 2 ^ 52) (omega arith) (λ z. omega arith)

-- ---- the positive infinity
above-top : (b : Bool) → cond b (inf false) nan ≡ sqrt binary64 (cond b (inf false) nan)
unfolding sqrt
above-top true = refl
above-top false = refl

pub infinite : (b : ℕ) → b ≤ 2 ^ 63 → (b ≡ 2 ^ 63 → ⊥) → 2047 * 2 ^ 52 ≤ b → of_bits binary64 b ≡ sqrt binary64 (of_bits binary64 b)
infinite b u n l =
    subst (λ (v : Float). v ≡ sqrt binary64 v)
    (sym (decode binary64 b (omega arith) ∙ ap (λ (x : ℕ). of_fields binary64 false x (b % 2 ^ 52)) field ∙ fields-top binary64 false (b % 2 ^ 52) 2046 refl))
    (above-top (eqb (b % 2 ^ 52) 0))
  where
    field : b / 2 ^ 52 ≡ 2047
    field = omega arith

-- ---- positive and finite: the root of M * 2 ^ x units is √(m * 4 ^ h * 2 ^ 52) units
rooted : (v : Float) (M x m h y : ℕ) → 0 < M → InUnits binary64 v (M * 2 ^ x) → M * 2 ^ (x + 1022) ≡ m * 4 ^ h
    → Rooted (round_root binary64 (m * 4 ^ h * 2 ^ 52)) y → Rooted (sqrt binary64 v) y
rooted v M x m h y P u e r = record {
  value = r.value ∙ ap (round_root binary64) (sym number) ∙ sym (sqrt-pos binary64 v (M * 2 ^ x) (mul-pos P (pow_pos x)) u);
  finite = r.finite;
}
  where
    number : M * 2 ^ x * 2 ^ 1074 ≡ m * 4 ^ h * 2 ^ 52
    number = sym (mul_assoc (M * 2 ^ x) (2 ^ 1022) (2 ^ 52)) ∙ ap (λ (z : ℕ). z * 2 ^ 52) (mul_assoc M (2 ^ x) (2 ^ 1022) ∙ ap (λ (z : ℕ). M * z) (sym (pow-add 2 x 1022)) ∙ e)

module _ (b y : ℕ) (u : b < 2047 * 2 ^ 52) where
  abbrev M : ℕ
  M = 2 ^ 52 + b % 2 ^ 52

  pub subnormal : 0 < b → b / 2 ^ 52 ≡ 0 → Rooted (round_root binary64 (b % 2 ^ 52 * 4 ^ 511 * 2 ^ 52)) y → Rooted (sqrt binary64 (of_bits binary64 b)) y
  subnormal p z r = rooted (of_bits binary64 b) (b % 2 ^ 52) 0 (b % 2 ^ 52) 511 y (omega arith) (value_low b (b % 2 ^ 52) (omega arith) z refl) refl r

  normal : (x m h : ℕ) → b / 2 ^ 52 ≡ suc x → M * 2 ^ (x + 1022) ≡ m * 4 ^ h → Rooted (round_root binary64 (m * 4 ^ h * 2 ^ 52)) y → Rooted (sqrt binary64 (of_bits binary64 b)) y
  normal x m h z e r = rooted (of_bits binary64 b) M x m h y (omega arith) (value_mid b (b % 2 ^ 52) x (omega arith) z (omega arith) refl) e r

  -- by the exponent's field, even or odd
  pub even-field : 0 < b / 2 ^ 52 → b / 2 ^ 52 % 2 ≡ 0 → Rooted (round_root binary64 (M * 2 * 4 ^ (b / 2 ^ 52 / 2 + 510) * 2 ^ 52)) y → Rooted (sqrt binary64 (of_bits binary64 b)) y
  even-field p z r =
      let h = b / 2 ^ 52 / 2 + 510 in
      normal (b / 2 ^ 52 - 1) (M * 2) h (omega arith)
      (ap (λ (e : ℕ). M * 2 ^ e) twice ∙ ap (λ (x : ℕ). M * x) (pow-succ' 2 (h + h) ∙ ap (λ (x : ℕ). 2 * x) (pow-add 2 h h ∙ sym (fours h))) ∙ sym (mul_assoc M 2 (4 ^ h)))
      r
    where
      twice : b / 2 ^ 52 - 1 + 1022 ≡ suc (b / 2 ^ 52 / 2 + 510 + (b / 2 ^ 52 / 2 + 510))
      twice = omega arith

  pub odd-field : (b / 2 ^ 52 % 2 ≡ 0 → ⊥) → Rooted (round_root binary64 (M * 4 ^ (b / 2 ^ 52 / 2 + 511) * 2 ^ 52)) y → Rooted (sqrt binary64 (of_bits binary64 b)) y
  odd-field z r =
      let h = b / 2 ^ 52 / 2 + 511 in
      normal (b / 2 ^ 52 - 1) M h (omega arith) (ap (λ (e : ℕ). M * 2 ^ e) twice ∙ ap (λ (x : ℕ). M * x) (pow-add 2 h h ∙ sym (fours h))) r
    where
      twice : b / 2 ^ 52 - 1 + 1022 ≡ b / 2 ^ 52 / 2 + 511 + (b / 2 ^ 52 / 2 + 511)
      twice = omega arith

-- a finite pattern is no NaN's
pub finite-bits : (y : ℕ) → y < 2047 * 2 ^ 52 → T (not (nan_bits binary64 y))
finite-bits y h = subst (λ (b : Bool). T (not b)) (sym (nan_bits_above binary64 y)) (le→nltb (2047 * 2 ^ 52) (y % 2 ^ 63) (omega arith))
