-- The values of a format, in units of its smallest positive value: x is a whole number of units, m * 2 ^ j with an m of at most `prec` digits.
-- Assumes nothing.
use mathlib.Core.Path.{◌≡◌, refl, sym, ap, ◌∙◌, subst}
use Prim.Native.Nat.{ℕ, zero, suc, ◌+◌, ◌-◌, ◌*◌, ◌%◌, ◌^◌, ◌≤◌, ◌<◌}
use native.Mathlib.Nat.{le_of_eq, le_of_suc-le-suc, lt_of_lt_of_le, lt_of_le_of_lt, lt_of_not-le, lt_irrefl, mul-one, zero-mul, mul_comm, mul_assoc, mul_right_comm, mul-lt-mul_of_pos_right, lt_of_mul-lt-mul_right, eq_of_mul-eq-mul_right}
use native.Mathlib.Omega.{arith}
use mathlib.Core.Bool.{Bool, false, ◌&&◌}
use lib.IntN.{ℤ, pos, negsuc}
use lib.Dec.{T, leb, ltb, eqb, ltb→lt, leb→le}
use lib.Pow.{pow-add, pow_pos, pow_mono, pow-lt, shl_lt}
use lib.Ieee.{Float, nan, inf, fin, Format, prec, emax, low, up, down, fits, of_bits}
use lib.Ieee.Fits.{two, two-le_pos, down_pos, and_l, and_r}
use lib.Ieee.Bits.{of_bits-to_bits}
use lib.Ieee.Exact.{HasValue}
use Rattle.base.proofs.Bits.{to_bits_val}

-- ---- the values of a format: from 2 ^ (prec - 1) * 2 ^ k units up they are multiples of 2 ^ k units
pow_lt_back : (i p : ℕ) → 2 ^ i < 2 ^ p → i < p
pow_lt_back i p h = lt_of_not-le (λ (g : p ≤ i). lt_irrefl (2 ^ i) (lt_of_lt_of_le h (pow_mono g)))

pow_le_back : (a l : ℕ) → 2 ^ a ≤ 2 ^ l → a ≤ l
pow_le_back a l h = le_of_suc-le-suc (lt_of_not-le (λ (g : suc l ≤ a). lt_irrefl (2 ^ l) (lt_of_lt_of_le (pow-lt g) h)))

pub pow-split : (a b : ℕ) → b ≤ a → 2 ^ a ≡ 2 ^ (a - b) * 2 ^ b
pow-split a b h = ap (λ (x : ℕ). 2 ^ x) (sym (back a b h)) ∙ pow-add 2 (a - b) b
  where
    back : (a b : ℕ) → b ≤ a → a - b + b ≡ a
    back a b h = omega arith

place : (l m Y : ℕ) (e : ℤ) → down e ≤ 2 ^ l → m * up e * 2 ^ l ≡ Y * down e → (j : ℕ) × (Y ≡ m * 2 ^ j)
place l m Y (pos a) d h = (a + l, sym (mul-one Y) ∙ sym h ∙ mul_assoc m (2 ^ a) (2 ^ l) ∙ ap (λ (x : ℕ). m * x) (sym (pow-add 2 a l)))
place l m Y (negsuc a) d h =
    let le : suc a ≤ l = pow_le_back (suc a) l d in (
      l - suc a,
      eq_of_mul-eq-mul_right (2 ^ suc a) (pow_pos (suc a)) Y (m * 2 ^ (l - suc a))
          (sym h ∙ ap (λ (x : ℕ). x * 2 ^ l) (mul-one m) ∙ ap (λ (x : ℕ). m * x) (pow-split l (suc a) le) ∙ sym (mul_assoc m (2 ^ (l - suc a)) (2 ^ suc a))),
    )

-- ---- what `fits` says of a finite value that is not zero
pub fits-parts : (f : Format) (s : Bool) (m : ℕ) (e : ℤ) → T (fits f (fin s (suc m) e))
    → (suc m < 2 ^ prec f) × ((down e ≤ 2 ^ low f) × (suc m * up e < 2 ^ suc (emax f) * down e))
unfolding fits
fits-parts f s m e t =
    let a = eqb (suc m % 2) 1 in
    let b = ltb (suc m) (2 ^ prec f) in
    let c = leb (down e) (2 ^ low f) in
    let d = ltb (suc m * up e) (2 ^ suc (emax f) * down e) in
    let abc = and_l (a && b && c) d t in
    (ltb→lt (suc m) (2 ^ prec f) (and_r a b (and_l (a && b) c abc)), (leb→le (down e) (2 ^ low f) (and_r (a && b) c abc), ltb→lt (suc m * up e) (2 ^ suc (emax f) * down e) (and_r (a && b && c) d t)))

-- a value of the format is m * 2 ^ j units, m below 2 ^ prec
pub digits : (f : Format) (y : Float) (Y : ℕ) → T (fits f y) → HasValue y false Y (2 ^ low f) → (m : ℕ) × (j : ℕ) × (m < 2 ^ prec f) × (Y ≡ m * 2 ^ j)
digits f nan Y t h = absurd h
digits f (inf s) Y t h = absurd h
digits f (fin s zero e) Y t h =
    (0, 0, pow_pos (prec f), eq_of_mul-eq-mul_right (down e) (down_pos e) Y 0 (sym h.1 ∙ ap (λ (x : ℕ). x * 2 ^ low f) (zero-mul (up e)) ∙ zero-mul (2 ^ low f) ∙ sym (zero-mul (down e))))
digits f (fin s (suc m) e) Y t h =
    let q = fits-parts f s m e t in
    let p = place (low f) (suc m) Y e q.1.0 h.1 in (suc m, p.0, q.0, p.1)

reach-k : (p j k : ℕ) → 0 < p → p - 1 + k < p + j → k ≤ j
reach-k p j k P h = omega arith

multiple : (f : Format) (m j k Y : ℕ) → m < 2 ^ prec f → Y ≡ m * 2 ^ j → 2 ^ (prec f - 1) * 2 ^ k ≤ Y → (c : ℕ) × (Y ≡ c * 2 ^ k)
multiple f m j k Y M e h =
    let K : k ≤ j =
    reach-k (prec f) j k (two-le_pos (prec f) (two f))
    (pow_lt_back (prec f - 1 + k) (prec f + j)
    (lt_of_le_of_lt (le_of_eq (pow-add 2 (prec f - 1) k)) (lt_of_le_of_lt h (subst (λ (y : ℕ). y < 2 ^ (prec f + j)) (sym e) (shl_lt (prec f) j M))))) in
    (m * 2 ^ (j - k), e ∙ ap (λ (x : ℕ). m * x) (pow-split j k K) ∙ sym (mul_assoc m (2 ^ (j - k)) (2 ^ k)))

pub gap : (f : Format) (y : Float) (Y k : ℕ) → T (fits f y) → HasValue y false Y (2 ^ low f) → 2 ^ (prec f - 1) * 2 ^ k ≤ Y → (c : ℕ) × (Y ≡ c * 2 ^ k)
gap f y Y k t h l = let g = digits f y Y t h in multiple f g.0 g.1 k Y g.2 g.3 l

-- ---- a finite value is below 2 ^ (emax + 1)
pub in-range : (f : Format) (x : Float) (n : ℕ) → T (fits f x) → HasValue x false n (2 ^ low f) → n < 2 ^ (low f + suc (emax f))
in-range f nan n t h = absurd h
in-range f (inf s) n t h = absurd h
in-range f (fin s zero e) n t h =
    lt_of_le_of_lt (le_of_eq (eq_of_mul-eq-mul_right (down e) (down_pos e) n 0 (sym h.1 ∙ ap (λ (x : ℕ). x * 2 ^ low f) (zero-mul (up e)) ∙ zero-mul (2 ^ low f) ∙ sym (zero-mul (down e))))) (pow_pos (low f + suc (emax f)))
in-range f (fin s (suc m) e) n t h =
    let u : suc m * up e * 2 ^ low f < 2 ^ suc (emax f) * down e * 2 ^ low f = mul-lt-mul_of_pos_right (fits-parts f s m e t).1.1 (pow_pos (low f)) in
    lt_of_mul-lt-mul_right (down e)
    (subst (λ (y : ℕ). y < 2 ^ (low f + suc (emax f)) * down e) h.1
    (lt_of_lt_of_le u (le_of_eq (mul_right_comm (2 ^ suc (emax f)) (down e) (2 ^ low f) ∙ ap (λ (y : ℕ). y * down e) (mul_comm (2 ^ suc (emax f)) (2 ^ low f) ∙ sym (pow-add 2 (low f) (suc (emax f))))))))

pub same-value : (f : Format) (u v : Float) (n : ℕ) → T (fits f u) → T (fits f v) → HasValue u false n (2 ^ low f) → HasValue v false n (2 ^ low f) → u ≡ v
same-value f u v n fu fv hu hv = sym (of_bits-to_bits f u fu) ∙ ap (of_bits f) (to_bits_val f u n hu ∙ sym (to_bits_val f v n hv)) ∙ of_bits-to_bits f v fv

-- ---- a finite value is a whole number of units
pub in-units : (f : Format) (s : Bool) (m : ℕ) (e : ℤ) → T (fits f (fin s m e)) → (n : ℕ) × HasValue (fin s m e) s n (2 ^ low f)
in-units f s zero e t = (0, (refl, ap (λ (x : ℕ). x * 2 ^ low f) (zero-mul (up e)) ∙ zero-mul (2 ^ low f) ∙ sym (zero-mul (down e))))
in-units f s (suc m) (pos k) t = (suc m * 2 ^ k * 2 ^ low f, (refl, sym (mul-one (suc m * 2 ^ k * 2 ^ low f))))
in-units f s (suc m) (negsuc k) t =
    let h : suc k ≤ low f = pow_le_back (suc k) (low f) (fits-parts f s m (negsuc k) t).1.0 in
    (suc m * 1 * 2 ^ (low f - suc k), (refl, ap (λ (x : ℕ). suc m * 1 * x) (pow-split (low f) (suc k) h) ∙ sym (mul_assoc (suc m * 1) (2 ^ (low f - suc k)) (2 ^ suc k))))
