-- The sign and the rounded value of a number by its bit pattern, case by case as the code has them. Assumes nothing.
use mathlib.Core.Path.{◌≡◌, refl, sym, ap, ◌∙◌, subst}
use mathlib.Core.Logic.{◌⊎◌, inl, inr}
use mathlib.Core.Bool.{Bool, true, false, cond, not, true≢false}
use Prim.Native.Nat.{ℕ, zero, suc, ◌+◌, ◌-◌, ◌*◌, ◌/◌, ◌%◌, ◌^◌, ◌≤◌, ◌<◌}
use native.Mathlib.Nat.{one-mul, mod-eq_of_lt, div-lt_iff_lt-mul, le_of_lt, mul_comm, mul_assoc, mul_left_comm, mul-le-mul_left, mul-le-mul_right, mul-lt-mul_of_pos_right, le_trans, le_of_eq, lt_of_lt_of_le, add_comm, eq-or-lt_of_le, mod-lt}
use native.Mathlib.Omega.{arith}
use borrow.Author.Tests.{lt-ltb, le-ltb, leb-false}
use lib.IntN.{pos}
use lib.Dec.{T, leb, eqb, lit<, lit≤}
use lib.Pow.{pow-add, pow_pos, pow_mono, pow-lt}
use lib.Ieee.{Float, nan, inf, fin, Format, binary64, prec, low, top, ones, odd, of_fields, of_bits, to_bits, fits, is_nan, lt, div, round, of_int}
use lib.Ieee.Bits.{of_bits-to_bits, of_bits-fits}
use lib.Ieee.Exact.{HasValue}
use Rattle.base.proofs.Values.{whole-int, whole-value, div-whole}
use Rattle.base.proofs.Bits.{decode, fields-top, value_low, value_mid}
use Rattle.js.specs.Js.{negative, nearest_up, js_to_fixed}
use Rattle.js.proofs.ToFixed.{zero_f, fixed-below, fixed-none, fixed-large, nearest_up-same}

-- ---- the sign is the highest bit
odd-negative : (d : ℕ) (s : Bool) (q k l : ℕ) → negative (odd d s q k l) ≡ s
unfolding odd
odd-negative d s zero k l = refl
odd-negative d s (suc q) k l = refl

fields-negative : (f : Format) (s : Bool) (x t : ℕ) → T (not (is_nan (of_fields f s x t))) → negative (of_fields f s x t) ≡ s
unfolding of_fields is_nan
fields-negative f s zero t h = odd-negative (prec f) s t 0 (low f)
fields-negative f s (suc x) t h = go (eqb (suc x) (ones f)) (eqb t 0) h
  where
    go : (a b : Bool) → T (not (is_nan (cond a (cond b (inf s) nan) (odd (prec f) s (2 ^ (prec f - 1) + t) x (low f))))) → negative (cond a (cond b (inf s) nan) (odd (prec f) s (2 ^ (prec f - 1) + t) x (low f))) ≡ s
    go true true h = refl
    go true false h = absurd h
    go false b h = odd-negative (prec f) s (2 ^ (prec f - 1) + t) x (low f)

pub sign_bit : (f : Format) (x : Float) → T (fits f x) → T (not (is_nan x)) → negative x ≡ leb (top f) (to_bits f x)
unfolding of_bits
sign_bit f x t n =
    let e = of_bits-to_bits f x t in
    ap negative (sym e) ∙ fields (to_bits f x) (subst (λ (y : Float). T (not (is_nan y))) (sym e) n)
  where
    fields : (b : ℕ) → T (not (is_nan (of_bits f b))) → negative (of_bits f b) ≡ leb (top f) b
    fields b h = fields-negative f (leb (top f) b) (b % top f / 2 ^ (prec f - 1)) (b % 2 ^ (prec f - 1)) h

-- ---- a positive number
pub above-nan : (x : Float) → lt zero_f x ≡ true → T (not (is_nan x))
unfolding lt is_nan
above-nan nan h = absurd (true≢false (sym h))
above-nan (inf s) h = tt
above-nan (fin s m e) h = tt

above-negative : (x : Float) → lt zero_f x ≡ true → negative x ≡ false
unfolding lt
above-negative nan h = refl
above-negative (inf true) h = absurd (true≢false (sym h))
above-negative (inf false) h = refl
above-negative (fin true m e) h = absurd (true≢false (sym h))
above-negative (fin false m e) h = refl

pub above-bits : (x : Float) → T (fits binary64 x) → lt zero_f x ≡ true → to_bits binary64 x < 2 ^ 63
above-bits x t h = leb-false (2 ^ 63) (to_bits binary64 x) (sym (sign_bit binary64 x t (above-nan x h)) ∙ above-negative x h)

-- ---- the exponent's field is below 1012: below 2 ^ -11
small : (m x : ℕ) → m < 2 ^ 53 → x ≤ 1010 → m * 2 ^ x * 2048 < 2 ^ low binary64
small m x h l =
    lt_of_lt_of_le (mul-lt-mul_of_pos_right {k = 2048} (lt_of_lt_of_le (mul-lt-mul_of_pos_right {k = 2 ^ x} h (pow_pos x)) (mul-le-mul_left (2 ^ 53) (pow_mono l))) (lit< tt))
    (le_of_eq (ap (λ (z : ℕ). z * 2048) (sym (pow-add 2 53 1010)) ∙ sym (pow-add 2 1063 11)))

none-at : (x : Float) (m k : ℕ) → m < 2 ^ 53 → k ≤ 1010 → HasValue x false (m * 2 ^ k) (2 ^ low binary64) → js_to_fixed x ≡ zero_f
none-at x m k h l v = fixed-none x (m * 2 ^ k) (2 ^ low binary64) (pow_pos 1074) v (small m k h l)

pub pattern-none : (b : ℕ) → b < 1012 * 2 ^ 52 → js_to_fixed (of_bits binary64 b) ≡ zero_f
pattern-none b h = go (b / 2 ^ 52) refl
  where
    rest : b % 2 ^ 52 < 2 ^ 52
    rest = mod-lt b (pow_pos 52)

    go : (x : ℕ) → b / 2 ^ 52 ≡ x → js_to_fixed (of_bits binary64 b) ≡ zero_f
    go zero e = none-at (of_bits binary64 b) (b % 2 ^ 52) 0 (omega arith) (lit≤ tt) (value_low b (b % 2 ^ 52) (omega arith) e refl)
    go (suc x) e = none-at (of_bits binary64 b) (2 ^ 52 + b % 2 ^ 52) x (omega arith) (omega arith) (value_mid b (b % 2 ^ 52) x (omega arith) e (omega arith) refl)

-- ---- from 1012 to 1065: the number is m / 2 ^ c
few : (m x : ℕ) → m < 2 ^ 53 → x ≤ 1064 → m * 2 ^ x < 2 ^ 43 * 2 ^ low binary64
few m x h l =
    lt_of_lt_of_le (lt_of_lt_of_le (mul-lt-mul_of_pos_right {k = 2 ^ x} h (pow_pos x)) (mul-le-mul_left (2 ^ 53) (pow_mono l)))
    (le_of_eq (sym (pow-add 2 53 1064) ∙ pow-add 2 43 1074))

pub pattern-mid : (b c : ℕ) → 1012 * 2 ^ 52 ≤ b → b < 1066 * 2 ^ 52 → c ≡ 1075 - b / 2 ^ 52
    → js_to_fixed (of_bits binary64 b) ≡ round binary64 false (nearest_up ((b % 2 ^ 52 + 2 ^ 52) * 1000) (2 ^ c)) 1000
pattern-mid b c lo hi e =
    fixed-below (of_bits binary64 b) ((2 ^ 52 + t) * 2 ^ x) (2 ^ low binary64) (pow_pos 1074) (value_mid b t x (omega arith) (omega arith) (omega arith) refl) (few (2 ^ 52 + t) x (omega (arith, rest)) (omega arith))
    ∙ ap (λ (n : ℕ). round binary64 false n 1000) (nearest_up-same ((2 ^ 52 + t) * 2 ^ x * 1000) (2 ^ low binary64) ((t + 2 ^ 52) * 1000) (2 ^ c) (pow_pos 1074) (pow_pos c) cross)
  where
    t : ℕ
    t = b % 2 ^ 52

    x : ℕ
    x = b / 2 ^ 52 - 1

    rest : t < 2 ^ 52
    rest = mod-lt b (pow_pos 52)

    sum : x + c ≡ 1074
    sum = omega arith

    cross : (2 ^ 52 + t) * 2 ^ x * 1000 * 2 ^ c ≡ (t + 2 ^ 52) * 1000 * 2 ^ low binary64
    cross =
        ap (λ (m : ℕ). m * 2 ^ x * 1000 * 2 ^ c) (add_comm (2 ^ 52) t)
        ∙ regroup (t + 2 ^ 52) (2 ^ x) (2 ^ c)
        ∙ ap (λ (z : ℕ). (t + 2 ^ 52) * 1000 * z) (sym (pow-add 2 x c) ∙ ap (λ (z : ℕ). 2 ^ z) sum)
      where
        regroup : (m p q : ℕ) → m * p * 1000 * q ≡ m * 1000 * (p * q)
        regroup m p q = simp (mul_assoc, mul_comm, mul_left_comm)

-- ---- from 1066 on: 2 ^ 43 or more, or an infinity
pub pattern-large : (b : ℕ) → 1066 * 2 ^ 52 ≤ b → b < 2 ^ 63 → of_bits binary64 b ≡ js_to_fixed (of_bits binary64 b)
unfolding js_to_fixed
pattern-large b lo hi = go (b / 2 ^ 52 - 1) (omega arith) (eq-or-lt_of_le {n = b / 2 ^ 52} {m = 2047} (omega arith))
  where
    ends : (t : Bool) → cond t (inf false) nan ≡ js_to_fixed (cond t (inf false) nan)
    ends true = refl
    ends false = refl

    go : (x : ℕ) → b / 2 ^ 52 ≡ suc x → (b / 2 ^ 52 ≡ 2047) ⊎ (b / 2 ^ 52 < 2047) → of_bits binary64 b ≡ js_to_fixed (of_bits binary64 b)
    go x e (inl k) =
        subst (λ (v : Float). v ≡ js_to_fixed v)
        (sym (decode binary64 b hi ∙ ap (λ (z : ℕ). of_fields binary64 false z (b % 2 ^ 52)) k ∙ fields-top binary64 false (b % 2 ^ 52) 2046 refl))
        (ends (eqb (b % 2 ^ 52) 0))
    go x e (inr l) =
        sym (fixed-large (of_bits binary64 b) ((2 ^ 52 + b % 2 ^ 52) * 2 ^ x) (of_bits-fits binary64 b) (value_mid b (b % 2 ^ 52) x hi e (omega arith) refl)
        (le_trans (le_of_eq (pow-add 2 52 1065)) (le_trans (mul-le-mul_left (2 ^ 52) (pow_mono {i = 1065} {j = x} (omega arith))) (mul-le-mul_right (2 ^ x) (omega arith)))))

-- ---- the thousandths of m / 2 ^ c, u being 2 ^ c as the code shifts it
pub shifted : (c : ℕ) → c < 64 → 1 * 2 ^ c % 2 ^ 64 ≡ 2 ^ c
shifted c h = mod-eq_of_lt (subst (λ (x : ℕ). x < 2 ^ 64) (sym (one-mul (2 ^ c))) (pow-lt h)) ∙ one-mul (2 ^ c)

module _ (m c u : ℕ) (e : u ≡ 2 ^ c) (M : m < 2 ^ 53) (C : 10 ≤ c) where
  pub quotient : m * 1000 / u < 2 ^ 53
  quotient = rw e ((div-lt_iff_lt-mul (pow_pos c)).1 (lt_of_lt_of_le (omega arith) (mul-le-mul_left (2 ^ 53) (pow_mono C))))

  pub rounded-down : m * 1000 % u * 2 < u → (m * 1000 / u ≡ nearest_up (m * 1000) (2 ^ c)) × (m * 1000 / u ≤ 2 ^ 53)
  unfolding nearest_up
  rounded-down h = (rw (← e, lt-ltb (m * 1000 % u * 2) u h), le_of_lt quotient)

  pub rounded-up : u ≤ m * 1000 % u * 2 → (m * 1000 / u + 1 ≡ nearest_up (m * 1000) (2 ^ c)) × (m * 1000 / u + 1 ≤ 2 ^ 53)
  unfolding nearest_up
  rounded-up h = (rw (← e, le-ltb (m * 1000 % u * 2) u h), omega (arith, quotient))

-- ---- n / 1000 in f64
pub thousandth : (n : ℕ) → n ≤ 2 ^ 53 → div binary64 (of_int binary64 (pos n)) (fin false 125 (pos 3)) ≡ round binary64 false n 1000
thousandth n h = div-whole binary64 (whole-int binary64 n h) (whole-value (fin false 125 (pos 3)) 1000 (refl, refl)) (lit< tt)
