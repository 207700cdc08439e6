-- Rounding a fraction a / c to a format, counted in units of the format's smallest positive value (`grid` of lib.Ieee.Scale): 0 stays 0, no power
-- of two is passed, and 2 ^ t times a fraction rounds to 2 ^ t times as much where the fraction is 0 or in the normal range. Assumes nothing.
use mathlib.Core.Path.{◌≡◌, sym, ap, ◌∙◌}
use mathlib.Core.Logic.{◌⊎◌, inl, inr}
use Prim.Native.Nat.{ℕ, suc, ◌-◌, ◌*◌, ◌/◌, ◌^◌, ◌≤◌, ◌<◌}
use native.Mathlib.Nat.{le_trans, le_of_eq, le_of_lt, le_refl, lt_of_not-le, not-le_of_lt, zero-mul, one-mul, mul-one, div-one, mod-one, mul_comm, mul_left_comm, mul-le-mul_right, mul-pos, le-div_iff_mul-le, le_of_mul-le-mul_right}
use native.Mathlib.Omega.{arith}
use native.Mathlib.Decide.{dec_le}
use lib.Pow.{pow_pos, pow_mono, pow-lt}
use lib.Ieee.{Format, prec, low, size}
use lib.Ieee.Digits.{size_reaches}
use lib.Ieee.Fits.{two}
use lib.Ieee.Nearest.{closest, closest_mono, closest_same}
use lib.Ieee.Order.{drop}
use lib.Ieee.Scale.{grid, grid_scale, normal_of_fraction}
use Rattle.base.proofs.Units.{pow-split}

closest-one : (x : ℕ) → closest x 1 ≡ x
closest-one x = rw (div-one, mod-one)

pub grid-zero : (f : Format) (c : ℕ) → 0 < c → grid f 0 c ≡ 0
grid-zero f c C =
    let k = drop (prec f) (0 * 2 ^ low f) c in
    let u = c * 2 ^ k in
    ap (λ (n : ℕ). closest n u * 2 ^ k) (zero-mul (2 ^ low f))
    ∙ ap (λ (q : ℕ). q * 2 ^ k) (closest_same 0 u 0 1 (mul-pos C (pow_pos k)) (pow_pos 0) (zero-mul 1 ∙ sym (zero-mul u)))
    ∙ zero-mul (2 ^ k)

module _ (f : Format) (a c : ℕ) (C : 0 < c) where
  abbrev n : ℕ
  n = a * 2 ^ low f

  -- the digits that are dropped, and what one of the last place kept is worth
  abbrev k : ℕ
  k = drop (prec f) n c

  abbrev u : ℕ
  u = c * 2 ^ k

  pub grid-pow : (t : ℕ) → (a ≡ 0) ⊎ (2 ^ (prec f - 1) * c ≤ n) → grid f (a * 2 ^ t) c ≡ grid f a c * 2 ^ t
  grid-pow t (inl z) = rw (z, zero-mul (2 ^ t), grid-zero f c C) (sym (zero-mul (2 ^ t)))
  grid-pow t (inr h) = grid_scale f a c t C (normal_of_fraction f a c C h)

  -- the fraction has the digits that its size says
  reaches : (i : ℕ) → i < size (n / c) → 2 ^ i * c ≤ n
  reaches i h = (le-div_iff_mul-le C).0 (size_reaches (n / c) i h)

  module _ (j : ℕ) where
    -- a power of two that the last place kept divides
    even : k ≤ j → 2 ^ (j - k) * u ≡ 2 ^ j * c
    even h = mul_left_comm (2 ^ (j - k)) c (2 ^ k) ∙ ap (λ (x : ℕ). c * x) (sym (pow-split j k h)) ∙ mul_comm c (2 ^ j)

    pub grid-ge : 2 ^ j * c ≤ n → 2 ^ j ≤ grid f a c
    grid-ge h = go (dec_le k j)
      where
        over : (q : ℕ) → q * u ≤ n → q * 2 ^ k ≤ grid f a c
        over q l = mul-le-mul_right (2 ^ k) (le_trans (le_of_eq (sym (closest-one q))) (closest_mono q 1 n u (pow_pos 0) (mul-pos C (pow_pos k)) (le_trans l (le_of_eq (sym (mul-one n))))))

        less : (p z : ℕ) → 2 ≤ p → j < z - p → z - p < z
        less p z P l = omega arith

        go : Dec (k ≤ j) → 2 ^ j ≤ grid f a c
        go (yes l) = le_trans (le_of_eq (pow-split j k l)) (over (2 ^ (j - k)) (le_trans (le_of_eq (even l)) h))
        go (no g) =
            let l : j < k = lt_of_not-le g in
            le_trans (pow_mono (le_of_lt l))
            (le_trans (le_of_eq (sym (one-mul (2 ^ k)))) (over 1 (le_trans (le_of_eq (one-mul u ∙ mul_comm c (2 ^ k))) (reaches k (less (prec f) (size (n / c)) (two f) l)))))

    pub grid-le : n ≤ 2 ^ j * c → grid f a c ≤ 2 ^ j
    grid-le h = go (dec_le k j)
      where
        under : k ≤ j → closest n u ≤ 2 ^ (j - k)
        under l = le_trans (closest_mono n u (2 ^ (j - k)) 1 (mul-pos C (pow_pos k)) (pow_pos 0) (le_trans (le_of_eq (mul-one n)) (le_trans h (le_of_eq (sym (even l)))))) (le_of_eq (closest-one (2 ^ (j - k))))

        far : (p z : ℕ) → 2 ≤ p → j < z - p → suc j < z
        far p z P l = omega arith

        go : Dec (k ≤ j) → grid f a c ≤ 2 ^ j
        go (yes l) = le_trans (mul-le-mul_right (2 ^ k) (under l)) (le_of_eq (sym (pow-split j k l)))
        go (no g) = absurd (not-le_of_lt (pow-lt (le_refl (suc j))) (le_of_mul-le-mul_right (le_trans (reaches (suc j) (far (prec f) (size (n / c)) (two f) (lt_of_not-le g))) h) C))
