-- Rounding down and up to an i64, by the sign of x: below zero, the floor of x is the ceiling of -x negated, and the ceiling of x the floor of -x negated.
-- A whole number below 2 ^ 53 is an f64, so comparing it with x tells whether x has a fraction; from 2 ^ 53 on no f64 has one. Assumes nothing.
use Rattle.std.proofs.Common.{◌≡◌, ℕ, zero, suc, ◌+◌, ◌-◌, ◌*◌, ◌/◌, ◌%◌, ◌^◌, ◌<◌, ◌≤◌, min, Bool, true, false, cond, T, ltb, ℤ, pos, negsuc, neg_ℤ, ◌-ℤ◌, sym, refl, ap, ◌∙◌, mod-lt, add-mul, one-mul, div-add-mod', le-div_iff_mul-le, arith, lit<, ltb-false, ltb-true, le-ltb, lt-ltb}
use lib.Pow.{shr_le}
use lib.IntN.{+ℤ_idl}
use native.Mathlib.Nat.{div-eq_of_lt, div-eq_of_lt-le}
use lib.Ieee.{Float, nan, inf, fin, binary64, fits, lt, neg, of_int, round, size, span, climb, units, odd, to_unsigned, up, down}
use lib.Ieee.Fits.{down_pos}
use Rattle.std.specs.Int.{saturate_to_bits}
use Rattle.base.specs.Whole.{to_nat}
use Rattle.base.proofs.Units.{fits-parts}
use Rattle.base.proofs.Values.{whole-int, lt-whole}
use Rattle.frames.specs.Frames.{saturate, floor_i64, ceil_i64}
use Rattle.frames.specs.Parts.{ceil_unsigned}

-- ---- x rounded down

-- x is not above -1: nothing
pub whole_below : (x : Float) → lt (fin true 1 (pos 0)) x ≡ false → 0 ≡ to_unsigned 64 x
unfolding lt to_unsigned
whole_below nan h = refl
whole_below (inf true) h = refl
whole_below (inf false) h = cc
whole_below (fin true m e) h = refl
whole_below (fin false m e) h = absurd (omega (arith, down_pos e, ltb-false 0 (1 * up (pos 0) * down e + m * up e * down (pos 0)) h))

-- x is above -1, and not below 2 ^ 64: the largest u64
pub whole_above : (x : Float) → lt (fin true 1 (pos 0)) x ≡ true → lt x (fin false 1 (pos 64)) ≡ false → 2 ^ 64 - 1 ≡ to_unsigned 64 x
unfolding lt to_unsigned
whole_above nan l h = cc
whole_above (inf true) l h = cc
whole_above (inf false) l h = refl
whole_above (fin true m e) l h = absurd (omega (arith, down_pos e, ltb-false 0 (m * up e * down (pos 64) + 1 * up (pos 64) * down e) h))
whole_above (fin false m e) l h =
    let b : 2 ^ 64 * down e ≤ m * up e = omega (arith, ltb-false (m * up e * down (pos 64)) (1 * up (pos 64) * down e) h) in
    let q : 2 ^ 64 ≤ m * up e / down e = (le-div_iff_mul-le (down_pos e)).1 b in omega arith

-- ---- x rounded up

-- a / d rounded up is one more than a / d where there is a remainder
ceil-div : (a d : ℕ) → 0 < d → (a + (d - 1)) / d ≡ cond (ltb (a / d * d) a) (a / d + 1) (a / d)
ceil-div a d h = go (ltb (a / d * d) a) refl
  where
    parts : a / d * d + a % d ≡ a
    parts = div-add-mod' a d

    rest : a % d < d
    rest = mod-lt a h

    one : (a / d + 1) * d ≡ a / d * d + d
    one = simp (add-mul, one-mul)

    two : (a / d + 1 + 1) * d ≡ a / d * d + d + d
    two = simp (add-mul, one-mul)

    go : (t : Bool) → ltb (a / d * d) a ≡ t → (a + (d - 1)) / d ≡ cond (ltb (a / d * d) a) (a / d + 1) (a / d)
    go true t = let more = ltb-true (a / d * d) a t in rw t (div-eq_of_lt-le d (omega (arith, parts, rest, one, two)) (omega (arith, parts, rest, one, two)))
    go false t = let none = ltb-false (a / d * d) a t in rw t (div-eq_of_lt-le d (omega (arith, parts, rest, one, two)) (omega (arith, parts, rest, one, two)))

uncut : (t : Bool) (k : ℕ) → k < 2 ^ 53 → min (cond t (k + 1) k) (2 ^ 64 - 1) ≡ cond t (k + 1) k
uncut true k h = omega arith
uncut false k h = omega arith

-- x rounded up, from its whole part k
pub ceil-small : (x : Float) {k : ℕ} → k ≡ to_unsigned 64 x → k < 2 ^ 53 → ceil_unsigned x ≡ cond (lt (of_int binary64 (pos k)) x) (k + 1) k
unfolding to_unsigned ceil_unsigned of_int round size span climb units odd lt
ceil-small nan w h = rw w
ceil-small (inf true) w h = rw w
ceil-small (inf false) w h = absurd (omega arith)
ceil-small (fin true m e) w h = rw w
ceil-small (fin false m e) {k} w h =
    let q : k ≡ m * up e / down e = omega arith in
    rw (lt-whole (whole-int binary64 k (omega arith)) m e, q, ceil-div (m * up e) (down e) (down_pos e)) (uncut (ltb (m * up e / down e * down e) (m * up e)) (m * up e / down e) (rw q at h))

-- from 2 ^ 53 on x has no fraction: with fewer than 54 digits, its exponent is not negative
no_fraction : (m : ℕ) (e : ℤ) → m < 2 ^ 53 → 2 ^ 53 ≤ m * up e / down e → (m * up e + (down e - 1)) / down e ≡ m * up e / down e
no_fraction m (pos k) l h = omega arith
no_fraction m (negsuc k) l h = absurd (omega (arith, shr_le (m * 1) (suc k)))

digits_lt : (m : ℕ) (e : ℤ) → T (fits binary64 (fin false m e)) → m < 2 ^ 53
digits_lt zero e t = lit< tt
digits_lt (suc m) e t = (fits-parts binary64 false m e t).0

pub ceil-large : (x : Float) {k : ℕ} → T (fits binary64 x) → k ≡ to_unsigned 64 x → 2 ^ 53 ≤ k → k ≡ ceil_unsigned x
unfolding to_unsigned ceil_unsigned
ceil-large nan t w h = absurd (omega arith)
ceil-large (inf true) t w h = absurd (omega arith)
ceil-large (inf false) t w h = w
ceil-large (fin true m e) t w h = absurd (omega arith)
ceil-large (fin false m e) t w h = omega (arith, no_fraction m e (digits_lt m e t) (omega arith))

-- ---- the ends of i64

sat-pos : (n : ℕ) → saturate (pos n) ≡ pos (min n (2 ^ 63 - 1))
sat-pos n = go (ltb (2 ^ 63 - 1) n) refl
  where
    go : (t : Bool) → ltb (2 ^ 63 - 1) n ≡ t → saturate (pos n) ≡ pos (min n (2 ^ 63 - 1))
    go true t = let h = ltb-true (2 ^ 63 - 1) n t in rw t (ap pos (omega arith))
    go false t = let h = ltb-false (2 ^ 63 - 1) n t in rw t (ap pos (omega arith))

sat-neg : (n : ℕ) → saturate (neg_ℤ (pos n)) ≡ neg_ℤ (pos (min n (2 ^ 63)))
sat-neg zero = refl
sat-neg (suc n) = go (ltb n (2 ^ 63 - 1)) refl
  where
    go : (t : Bool) → ltb n (2 ^ 63 - 1) ≡ t → saturate (negsuc n) ≡ neg_ℤ (pos (min (suc n) (2 ^ 63)))
    go true t = let h = ltb-true n (2 ^ 63 - 1) t in let q : min (suc n) (2 ^ 63) ≡ suc n = omega arith in rw (t, q)
    go false t = let h = ltb-false n (2 ^ 63 - 1) t in let q : min (suc n) (2 ^ 63) ≡ 2 ^ 63 = omega arith in rw (t, q)

-- a saturating subtraction from zero
pub minus-saturated : (n : ℕ) → saturate_to_bits 63 (pos 0 -ℤ pos n) ≡ neg_ℤ (pos (min n (2 ^ 63)))
minus-saturated zero = refl
minus-saturated (suc n) = let q : min (suc n) (2 ^ 63) ≡ suc (min n (2 ^ 63 - 1)) = omega arith in
    ap (saturate_to_bits 63) (+ℤ_idl (negsuc n)) ∙ sym (ap (λ (k : ℕ). neg_ℤ (pos k)) q)

-- ---- floor and ceiling, by the sign of x

-- x is a / d, and not below zero
sat-plus : (a d q : ℕ) → saturate (pos q) ≡ cond (ltb a (0 * d)) (pos 0) (pos (min (min q (2 ^ 64 - 1)) (2 ^ 63 - 1)))
sat-plus a d q = rw (le-ltb a (0 * d) (omega arith)) (sat-pos q ∙ ap pos (omega arith))

-- x is -a / d, and below zero unless a is 0
sat-minus : (a q : ℕ) → (a ≡ 0 → q ≡ 0) → saturate (neg_ℤ (pos q)) ≡ cond (ltb 0 a) (neg_ℤ (pos (min (min q (2 ^ 64 - 1)) (2 ^ 63)))) (pos 0)
sat-minus zero q h = ap (λ (n : ℕ). saturate (neg_ℤ (pos n))) (h refl)
sat-minus (suc a) q h = let c : min (min q (2 ^ 64 - 1)) (2 ^ 63) ≡ min q (2 ^ 63) = omega arith in rw (lt-ltb 0 (suc a) (omega arith), c) (sat-neg q)

pub floor-sign : (x : Float) → floor_i64 x ≡ cond (lt x (fin false 0 (pos 0))) (neg_ℤ (pos (min (ceil_unsigned (neg x)) (2 ^ 63)))) (pos (min (to_unsigned 64 x) (2 ^ 63 - 1)))
unfolding floor_i64 to_unsigned ceil_unsigned lt neg
floor-sign nan = refl
floor-sign (inf true) = refl
floor-sign (inf false) = refl
floor-sign (fin false m e) = sat-plus (m * up e * 1) (down e) (m * up e / down e)
floor-sign (fin true m e) = sat-minus (m * up e * 1 + 0 * down e) ((m * up e + (down e - 1)) / down e) (λ z. div-eq_of_lt (omega (arith, z, down_pos e)))

pub ceil-sign : (x : Float) → ceil_i64 x ≡ cond (lt x (fin false 0 (pos 0))) (neg_ℤ (pos (min (to_unsigned 64 (neg x)) (2 ^ 63)))) (pos (min (ceil_unsigned x) (2 ^ 63 - 1)))
unfolding ceil_i64 to_unsigned ceil_unsigned lt neg
ceil-sign nan = refl
ceil-sign (inf true) = refl
ceil-sign (inf false) = refl
ceil-sign (fin false m e) = sat-plus (m * up e * 1) (down e) ((m * up e + (down e - 1)) / down e)
ceil-sign (fin true m e) = sat-minus (m * up e * 1 + 0 * down e) (m * up e / down e) (λ z. div-eq_of_lt (omega (arith, z, down_pos e)))

-- ---- from zero

plus-nat : (q : ℕ) → to_nat (saturate (pos q)) ≡ min (min q (2 ^ 64 - 1)) (2 ^ 63 - 1)
plus-nat q = ap to_nat (sat-pos q) ∙ omega arith

minus-nat : (q : ℕ) → to_nat (saturate (neg_ℤ (pos q))) ≡ 0
minus-nat q = ap to_nat (sat-neg q) ∙ zero-nat (min q (2 ^ 63))
  where
    zero-nat : (n : ℕ) → to_nat (neg_ℤ (pos n)) ≡ 0
    zero-nat zero = refl
    zero-nat (suc n) = refl

pub floor-nat : (x : Float) → to_nat (floor_i64 x) ≡ min (to_unsigned 64 x) (2 ^ 63 - 1)
unfolding floor_i64 to_unsigned
floor-nat nan = refl
floor-nat (inf true) = refl
floor-nat (inf false) = refl
floor-nat (fin false m e) = plus-nat (m * up e / down e)
floor-nat (fin true m e) = minus-nat ((m * up e + (down e - 1)) / down e)

pub ceil-nat : (x : Float) → to_nat (ceil_i64 x) ≡ min (ceil_unsigned x) (2 ^ 63 - 1)
unfolding ceil_i64 ceil_unsigned
ceil-nat nan = refl
ceil-nat (inf true) = refl
ceil-nat (inf false) = refl
ceil-nat (fin false m e) = plus-nat ((m * up e + (down e - 1)) / down e)
ceil-nat (fin true m e) = minus-nat (m * up e / down e)
