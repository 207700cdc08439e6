-- Bit patterns and the values that they stand for, and values by their sign. Assumes nothing.
use mathlib.Core.Path.{◌≡◌, refl, sym, ap, ◌∙◌, subst}
use mathlib.Core.Logic.{◌⊎◌, inl, inr}
use Prim.Native.Nat.{ℕ, suc, ◌+◌, ◌-◌, ◌*◌, ◌/◌, ◌%◌, ◌^◌, ◌≤◌, ◌<◌}
use native.Mathlib.Nat.{le_refl, le_trans, le_of_eq, lt_of_lt_of_le, lt_of_le_of_lt, lt_irrefl, mul_comm, mul_assoc, mul-le-mul_right, mul-div_cancel, zero-add, suc-mul, eq-or-lt_of_le, mod-eq_of_lt, pow-succ', lt_of_not-le, not-le_of_lt, le_antisymm}
use native.Mathlib.Omega.{arith}
use mathlib.Core.Bool.{Bool, true, false, not, cond}
use lib.Dec.{T, leb, ltb, eqb, ltb→lt, not_T, eqb→eq}
use lib.Pow.{pow-add, pow_pos, pow_mono, pow-lt, shl_lt}
use lib.Arith.{lt→nleb}
use lib.Ieee.{Float, nan, inf, fin, Format, binary64, prec, emax, low, up, down, size, odd, units, fits, hid, ones, top, of_fields, of_bits, to_bits}
use lib.Ieee.Digits.{size-lt, size-le}
use lib.Ieee.Fits.{odd-fits, two, two-le_pos, down_pos, eq→eqb}
use lib.Ieee.Exact.{HasValue, odd_sign, units_val}
use lib.Ieee.Bits.{of_bits-to_bits, is_false, is_true, cond_no}

-- ---- digits
pub size-gt : (n j : ℕ) → 2 ^ j ≤ n → j < size n
size-gt n j h = lt_of_not-le (λ (g : size n ≤ j). not-le_of_lt (lt_of_lt_of_le (size-lt n) (pow_mono g)) h)

pub size_exact : (a n : ℕ) → 2 ^ a ≤ n → n < 2 ^ suc a → size n ≡ suc a
size_exact a n lo hi = le_antisymm (size-le n (suc a) hi) (size-gt n a lo)

-- ---- bits of a value that is y * 2 ^ k units, y having prec digits, or being 2 ^ prec

pub units-fits : (f : Format) (s : Bool) (q k : ℕ) → q ≤ 2 ^ prec f → T (fits f (units f s q k))
unfolding units
units-fits f s q k a = go (ltb (q * 2 ^ k) (2 ^ (low f + suc (emax f)))) (ltb→lt (q * 2 ^ k) (2 ^ (low f + suc (emax f))))
  where
    go : (b : Bool) → (T b → q * 2 ^ k < 2 ^ (low f + suc (emax f))) → T (fits f (cond b (odd (suc (prec f)) s q k (low f)) (inf s)))
    go true h = odd-fits f (suc (prec f)) s q k (lt_of_le_of_lt a (pow-lt (le_refl (suc (prec f))))) a (h tt)
    go false h = unfold fits in tt

pub to_bits_val : (f : Format) (v : Float) (n : ℕ) → HasValue v false n (2 ^ low f) → to_bits f v ≡ (size n - prec f) * hid f + n / 2 ^ (size n - prec f)
unfolding to_bits
to_bits_val f nan n h = absurd h
to_bits_val f (inf s) n h = absurd h
to_bits_val f (fin s m e) n h =
    let w = m * up e * 2 ^ low f / down e in
    ap (λ (b : Bool). cond b (top f) 0 + (size w - prec f) * hid f + w / 2 ^ (size w - prec f)) h.0
    ∙ ap (λ (x : ℕ). 0 + (size x - prec f) * hid f + x / 2 ^ (size x - prec f)) (ap (λ (x : ℕ). x / down e) h.1 ∙ mul-div_cancel n (down_pos e))
    ∙ ap (λ (x : ℕ). x + n / 2 ^ (size n - prec f)) (zero-add ((size n - prec f) * hid f))

drops : (z p k : ℕ) → z ≡ suc (p - 1 + k) → 0 < p → z - p ≡ k
drops z p k e P = omega arith

one_more : (p k : ℕ) → 0 < p → p + k ≡ suc (p - 1 + k)
one_more p k P = omega arith

sizes : (f : Format) (y k : ℕ) → 2 ^ (prec f - 1) ≤ y → y < 2 ^ prec f → size (y * 2 ^ k) - prec f ≡ k
sizes f y k lo hi =
    let P : 0 < prec f = two-le_pos (prec f) (two f) in
    drops (size (y * 2 ^ k)) (prec f) k
    (size_exact (prec f - 1 + k) (y * 2 ^ k)
    (le_trans (le_of_eq (pow-add 2 (prec f - 1) k)) (mul-le-mul_right (2 ^ k) lo))
    (subst (λ (x : ℕ). y * 2 ^ k < 2 ^ x) (one_more (prec f) k P) (shl_lt (prec f) k hi)))
    P

pub pow-pred : (n p : ℕ) → 0 < p → n ^ p ≡ n * n ^ (p - 1)
pow-pred n p P = ap (λ (x : ℕ). n ^ x) (sym (same p P)) ∙ pow-succ' n (p - 1)
  where
    same : (p : ℕ) → 0 < p → suc (p - 1) ≡ p
    same p P = omega arith

carry : (k h : ℕ) → suc k * h + h ≡ k * h + 2 * h
carry k h = ap (λ (x : ℕ). x + h) (suc-mul k h) ∙ twice (k * h) h
  where
    twice : (a h : ℕ) → a + h + h ≡ a + 2 * h
    twice a h = omega arith

bits-low : (f : Format) (y k : ℕ) → 2 ^ (prec f - 1) ≤ y → y < 2 ^ prec f → (size (y * 2 ^ k) - prec f) * hid f + y * 2 ^ k / 2 ^ (size (y * 2 ^ k) - prec f) ≡ k * hid f + y
bits-low f y k lo hi = ap (λ (x : ℕ). x * hid f + y * 2 ^ k / 2 ^ x) (sizes f y k lo hi) ∙ ap (λ (x : ℕ). k * hid f + x) (mul-div_cancel y (pow_pos k))

-- 2 ^ prec at k is 2 ^ (prec - 1) at k + 1
shifted : (f : Format) (k : ℕ) → 2 ^ prec f * 2 ^ k ≡ 2 ^ (prec f - 1) * 2 ^ suc k
shifted f k =
    ap (λ (x : ℕ). x * 2 ^ k) (pow-pred 2 (prec f) (two-le_pos (prec f) (two f)) ∙ mul_comm 2 (2 ^ (prec f - 1)))
    ∙ mul_assoc (2 ^ (prec f - 1)) 2 (2 ^ k)
    ∙ ap (λ (x : ℕ). 2 ^ (prec f - 1) * x) (sym (pow-succ' 2 k))

hid-lt : (f : Format) → 2 ^ (prec f - 1) < 2 ^ prec f
hid-lt f = pow-lt (below (prec f) (two-le_pos (prec f) (two f)))
  where
    below : (p : ℕ) → 0 < p → p - 1 < p
    below p P = omega arith

bits_of : (f : Format) (y k : ℕ) → 2 ^ (prec f - 1) ≤ y → y ≤ 2 ^ prec f → (size (y * 2 ^ k) - prec f) * hid f + y * 2 ^ k / 2 ^ (size (y * 2 ^ k) - prec f) ≡ k * hid f + y
bits_of f y k lo hi = go (eq-or-lt_of_le hi)
  where
    go : (y ≡ 2 ^ prec f) ⊎ (y < 2 ^ prec f) → (size (y * 2 ^ k) - prec f) * hid f + y * 2 ^ k / 2 ^ (size (y * 2 ^ k) - prec f) ≡ k * hid f + y
    go (inr l) = bits-low f y k lo l
    go (inl e) =
        ap (λ (x : ℕ). (size x - prec f) * hid f + x / 2 ^ (size x - prec f)) (ap (λ (x : ℕ). x * 2 ^ k) e ∙ shifted f k)
        ∙ bits-low f (2 ^ (prec f - 1)) (suc k) (le_refl (2 ^ (prec f - 1))) (hid-lt f)
        ∙ carry k (hid f)
        ∙ ap (λ (x : ℕ). k * hid f + x) (sym (pow-pred 2 (prec f) (two-le_pos (prec f) (two f))) ∙ sym e)

pub units-bits : (f : Format) (y k : ℕ) → 2 ^ (prec f - 1) ≤ y → y ≤ 2 ^ prec f → y * 2 ^ k < 2 ^ (low f + suc (emax f)) → of_bits f (k * hid f + y) ≡ units f false y k
units-bits f y k lo hi u =
    ap (of_bits f) (sym (to_bits_val f (units f false y k) (y * 2 ^ k) (units_val f false y k u) ∙ bits_of f y k lo hi))
    ∙ of_bits-to_bits f (units f false y k) (units-fits f false y k hi)

-- ---- the number that a pattern below the infinity's is: m * 2 ^ k units

pub decode : (f : Format) (b : ℕ) → b < top f → of_bits f b ≡ of_fields f false (b / hid f) (b % hid f)
unfolding of_bits
decode f b h =
    ap (λ (s : Bool). of_fields f s (b % top f / hid f) (b % hid f)) (is_false (leb (top f) b) (lt→nleb (top f) b h))
    ∙ ap (λ (x : ℕ). of_fields f false (x / hid f) (b % hid f)) (mod-eq_of_lt h)

pub fields-low : (f : Format) (s : Bool) (t : ℕ) → of_fields f s 0 t ≡ odd (prec f) s t 0 (low f)
unfolding of_fields
fields-low f s t = refl

lt→neqb : (a b : ℕ) → a < b → T (not (eqb a b))
lt→neqb a b h = not_T (eqb a b) (λ t. lt_irrefl b (subst (λ (x : ℕ). x < b) (eqb→eq a b t) h))

pub fields-mid : (f : Format) (s : Bool) (t x : ℕ) → suc x < ones f → of_fields f s (suc x) t ≡ odd (prec f) s (hid f + t) x (low f)
unfolding of_fields
fields-mid f s t x h = cond_no (eqb (suc x) (ones f)) (cond (eqb t 0) (inf s) nan) (odd (prec f) s (hid f + t) x (low f)) (lt→neqb (suc x) (ones f) h)

pub fields-top : (f : Format) (s : Bool) (t x : ℕ) → suc x ≡ ones f → of_fields f s (suc x) t ≡ cond (eqb t 0) (inf s) nan
unfolding of_fields
fields-top f s t x e = ap (λ (b : Bool). cond b (cond (eqb t 0) (inf s) nan) (odd (prec f) s (hid f + t) x (low f))) (is_true (eqb (suc x) (ones f)) (eq→eqb e))

pub value_low : (b t : ℕ) → b < top binary64 → b / 2 ^ 52 ≡ 0 → b % 2 ^ 52 ≡ t → HasValue (of_bits binary64 b) false (t * 2 ^ 0) (2 ^ low binary64)
value_low b t h e r =
    subst (λ (v : Float). HasValue v false (t * 2 ^ 0) (2 ^ low binary64))
    (sym (decode binary64 b h ∙ ap (λ (x : ℕ). of_fields binary64 false x (b % 2 ^ 52)) e ∙ ap (λ (x : ℕ). of_fields binary64 false 0 x) r ∙ fields-low binary64 false t))
    (odd_sign (prec binary64) false t 0 (low binary64))

pub value_mid : (b t x : ℕ) → b < top binary64 → b / 2 ^ 52 ≡ suc x → suc x < 2047 → b % 2 ^ 52 ≡ t → HasValue (of_bits binary64 b) false ((2 ^ 52 + t) * 2 ^ x) (2 ^ low binary64)
value_mid b t x h e l r =
    subst (λ (v : Float). HasValue v false ((2 ^ 52 + t) * 2 ^ x) (2 ^ low binary64))
    (sym (decode binary64 b h ∙ ap (λ (x : ℕ). of_fields binary64 false x (b % 2 ^ 52)) e ∙ ap (λ (z : ℕ). of_fields binary64 false (suc x) z) r ∙ fields-mid binary64 false t x l))
    (odd_sign (prec binary64) false (2 ^ 52 + t) x (low binary64))
