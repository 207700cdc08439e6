-- One word's share, room × n / total with two roundings. Counted in the format's smallest values and times total, it lies within 6 × n × 2 ^ e + total + 1 of the exact
-- one, where the room is at most 2 ^ (e + 54) of them: each rounding adds the 2 ^ 53-rd part and half of one. Assumes nothing.
use mathlib.Core.Path.{◌≡◌, refl, sym, ap, ap₂, ◌∙◌, subst}
use mathlib.Core.Bool.{Bool, true, false}
use Prim.Native.Nat.{ℕ, suc, ◌+◌, ◌*◌, ◌^◌, ◌≤◌, ◌<◌}
use native.Mathlib.Nat.{le_trans, le_of_eq, le_of_lt, lt_irrefl, zero-mul, one-mul, mul-one, mul_comm, mul_assoc, mul_right_comm, mul-mul-mul_comm, mul-pos, mul-le-mul, mul-le-mul_right, le_of_mul-le-mul_right, le_of_mul-le-mul_left, add-mul, pow-suc}
use native.Mathlib.Omega.{arith}
use borrow.Author.Tests.{ne_eqb}
use lib.IntN.{pos}
use lib.Dec.{lit<}
use lib.Pow.{pow-add, pow_pos}
use lib.Ieee.{Float, nan, inf, fin, Format, prec, emax, low, up, down, unlike, round, mul, div, of_int}
use lib.Ieee.Fits.{down_pos}
use lib.Ieee.Exact.{HasValue}
use lib.Ieee.Positive.{first_pos}
use lib.Ieee.Scale.{grid, round_same}
use Rattle.base.proofs.Values.{Whole, whole-int}
use Rattle.share.proofs.Rounded.{Near, grid-part, grid-most, round-value}

-- ---- a number of either sign times a whole number, or divided by one
unlike-plus : (s : Bool) → unlike s false ≡ s
unlike-plus true = refl
unlike-plus false = refl

module _ (f : Format) (s : Bool) (a c n : ℕ) (C : 0 < c) (y : Float) (w : Whole y n) where
  mul-signed : (x : Float) → HasValue x s a c → mul f x y ≡ round f s (a * n) c
  unfolding mul
  mul-signed nan v = absurd v
  mul-signed (inf t) v = absurd v
  mul-signed (fin t m e) v =
      let Y = w.m * up w.e in
      rw (w.is, v.0, unlike-plus s)
      (round_same f s (m * up e * Y) (down e * down w.e) (a * n) c (mul-pos (down_pos e) (down_pos w.e)) C
      (mul_right_comm (m * up e) Y c ∙ ap₂ ◌*◌ v.1 (sym (mul-one Y) ∙ w.value) ∙ mul-mul-mul_comm a (down e) n (down w.e)))

  div-signed : 0 < n → (x : Float) → HasValue x s a c → div f x y ≡ round f s a (n * c)
  unfolding div
  div-signed N nan v = absurd v
  div-signed N (inf t) v = absurd v
  div-signed N (fin t m e) v =
      rw (w.is, v.0, unlike-plus s, ne_eqb w.m 0 some)
      (round_same f s (m * up e * down w.e) (Y * down e) a (n * c) (mul-pos above (down_pos e)) (mul-pos N C)
      (cross (m * up e) (down e) Y (down w.e) v.1 w.value))
    where
      Y : ℕ
      Y = w.m * up w.e

      above : 0 < Y
      above = first_pos Y 1 (subst (λ (z : ℕ). 0 < z) (sym w.value) (mul-pos N (down_pos w.e)))

      some : w.m ≡ 0 → ⊥
      some z = lt_irrefl 0 (subst (λ (k : ℕ). 0 < k) (ap (λ (k : ℕ). k * up w.e) z ∙ zero-mul (up w.e)) above)

      cross : (X E Y D : ℕ) → X * c ≡ a * E → Y * 1 ≡ n * D → X * D * (n * c) ≡ a * (Y * E)
      cross X E Y D p q =
          mul-mul-mul_comm X D n c ∙ ap (λ (k : ℕ). X * n * k) (mul_comm D c) ∙ mul-mul-mul_comm X n c D ∙ ap₂ ◌*◌ p (sym q ∙ mul-one Y) ∙ mul_assoc a E Y ∙ ap (λ (k : ℕ). a * k) (mul_comm E Y)

-- ---- what the two roundings come to: g is the rounded product, q the rounded quotient, and H half of what the digits reach
module _ (H : ℕ) (P : 0 < H) where
  one-off : (x y d L : ℕ) → 0 < L → Near (H * 2 * (x * L)) (H * 2 * (y * L)) (d * L) → Near (H * 2 * x) (H * 2 * y) d
  one-off x y d L l o = (le_of_mul-le-mul_right {k = L} (omega arith) l, le_of_mul-le-mul_right {k = L} (omega arith) l)

  both-off : (b g q T : ℕ) → Near (H * 2 * g) (H * 2 * b) (b + H) → Near (H * 2 * (q * T)) (H * 2 * g) (g + H * T) → Near (H * 2 * (q * T)) (H * 2 * b) (3 * b + H * 2 * (T + 1))
  both-off b g q T o r = join small
    where
      many : b ≤ H * b
      many = le_trans (le_of_eq (sym (one-mul b))) (mul-le-mul_right b P)

      small : g ≤ 2 * b + 1
      small = le_of_mul-le-mul_left {k = H * 2} (omega (arith, many, o.0)) (mul-pos P (lit< tt))

      join : g ≤ 2 * b + 1 → Near (H * 2 * (q * T)) (H * 2 * b) (3 * b + H * 2 * (T + 1))
      join l = omega arith

most-near : (a n q T E : ℕ) → a ≤ 2 * 2 ^ 53 * E → Near (2 ^ 53 * (q * T)) (2 ^ 53 * (a * n)) (3 * (a * n) + 2 ^ 53 * (T + 1)) → Near (q * T) (a * n) (6 * n * E + T + 1)
most-near a n q T E h o = let l : a * n ≤ 2 * 2 ^ 53 * E * n = mul-le-mul_right n h in omega arith

-- ---- the format has 53 digits, and its end is beyond 2 ^ (e + 107) of its smallest values, of which 2 ^ e are one step
pub record Setting (f : Format) (e : ℕ) : Type 0 where
  pub digits : prec f ≡ 53
  pub wide : suc e + 53 + 53 < low f + suc (emax f)
  pub fine : 8192 ≤ 2 ^ e

module _ (f : Format) (e : ℕ) (set : Setting f e) where
  pub narrow : suc e + prec f < low f + suc (emax f)
  narrow = subst (λ (p : ℕ). suc e + p < low f + suc (emax f)) (sym set.digits) (less (suc e + 53) (low f + suc (emax f)) set.wide)
    where
      less : (x y : ℕ) → x + 53 < y → x < y
      less x y h = omega arith

  pub power : 2 ^ (suc e + 53) ≡ 2 * 2 ^ 53 * 2 ^ e
  power = pow-add 2 (suc e) 53 ∙ ap (λ (z : ℕ). z * 2 ^ 53) (pow-suc 2 e) ∙ arrange (2 ^ e)
    where
      arrange : (z : ℕ) → z * 2 * 2 ^ 53 ≡ 2 * 2 ^ 53 * z
      arrange z = omega arith

  pub top : (k : ℕ) → 2 ^ (suc e + prec f) * k ≡ 2 * 2 ^ 53 * (2 ^ e * k)
  top k = ap (λ (p : ℕ). 2 ^ (suc e + p) * k) set.digits ∙ ap (λ (z : ℕ). z * k) power ∙ mul_assoc (2 * 2 ^ 53) (2 ^ e) k

abbrev pub portion : Format → Float → ℕ → ℕ → Float
portion f room total n = div f (mul f room (of_int f (pos n))) (of_int f (pos total))

module _ (f : Format) (e : ℕ) (set : Setting f e) (room : Float) (s : Bool) (a : ℕ) (v : HasValue room s a (2 ^ low f)) (size : a ≤ 2 * 2 ^ 53 * 2 ^ e) where
  pub portion-near : (total n : ℕ) → 0 < total → total < 2 ^ 53 → n ≤ total → (q : ℕ) × HasValue (portion f room total n) s q (2 ^ low f) × Near (q * total) (a * n) (6 * n * 2 ^ e + total + 1)
  portion-near total n some few h =
      let o₁ = one-off (2 ^ 52) (pow_pos 52) g (a * n) (a * n + 2 ^ 52) L P (rw (add-mul (a * n) (2 ^ 52) L) (grid-part f (a * n) L P 52 set.digits)) in
      let o₂ = one-off (2 ^ 52) (pow_pos 52) (q * total) g (g + 2 ^ 52 * total) L P (rw (add-mul g (2 ^ 52 * total) L, mul_assoc (2 ^ 52) total L, mul_assoc q total L) (grid-part f g (total * L) (mul-pos some P) 52 set.digits)) in
      let o = both-off (2 ^ 52) (pow_pos 52) (a * n) g q total o₁ o₂ in
      (q, subst (λ (x : Float). HasValue x s q L) (sym divided) (round-value f g (total * L) (mul-pos some P) j quotient-under set.wide s), most-near a n q total (2 ^ e) size o)
    where
      L : ℕ
      L = 2 ^ low f

      P : 0 < L
      P = pow_pos (low f)

      j : ℕ
      j = suc e + 53 + 53

      g : ℕ
      g = grid f (a * n) L

      q : ℕ
      q = grid f g (total * L)

      whole : (k : ℕ) → k < 2 ^ 53 → Whole (of_int f (pos k)) k
      whole k l = whole-int f k (le_trans (le_of_lt l) (le_of_eq (ap (λ (d : ℕ). 2 ^ d) (sym set.digits))))

      under : a * n ≤ 2 ^ j
      under = le_trans (mul-le-mul size (le_trans h (le_of_lt few))) (le_of_eq (ap (λ (z : ℕ). z * 2 ^ 53) (sym (power f e set)) ∙ sym (pow-add 2 (suc e + 53) 53)))

      product-under : a * n * L ≤ 2 ^ j * L
      product-under = mul-le-mul_right L under

      quotient-under : g * L ≤ 2 ^ j * (total * L)
      quotient-under = mul-le-mul (grid-most f (a * n) L P j product-under set.wide) (le_trans (le_of_eq (sym (one-mul L))) (mul-le-mul_right L some))

      divided : portion f room total n ≡ round f s g (total * L)
      divided =
          div-signed f s g L total P (of_int f (pos total)) (whole total few) some (mul f room (of_int f (pos n)))
          (subst (λ (x : Float). HasValue x s g L) (sym (mul-signed f s a L n P (of_int f (pos n)) (whole n (few-of h)) room v)) (round-value f (a * n) L P j product-under set.wide s))
        where
          few-of : n ≤ total → n < 2 ^ 53
          few-of l = omega arith
