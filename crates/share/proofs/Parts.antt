-- A number of either sign counted in c-ths: it is `plus` less `minus` of them, and one of the two is 0. What a sum or a difference does to them that is rounded
-- once. Assumes nothing.
use mathlib.Core.Path.{◌≡◌, refl, sym, ap, ap₂, ◌∙◌, subst, subst₂}
use mathlib.Core.Logic.{◌⊎◌, inl, inr}
use mathlib.Core.Bool.{Bool, true, false, not, cond}
use Prim.Native.Nat.{ℕ, suc, ◌+◌, ◌-◌, ◌*◌, ◌/◌, ◌^◌, ◌≤◌, ◌<◌}
use native.Mathlib.Nat.{le_trans, le_of_eq, le_of_lt, mul_comm, mul_assoc, mul_right_comm, add-mul, mul-pos, mul-lt-mul_of_pos_right, le_of_mul-le-mul_right, mul-div_cancel}
use native.Mathlib.Omega.{arith}
use borrow.Author.Tests.{ltb-true, ltb-false}
use lib.Dec.{T, ltb}
use lib.Pow.{pow_pos}
use lib.Ieee.{Float, nan, inf, fin, Format, prec, emax, low, up, down, round, sum, add, neg, sub, fits}
use lib.Ieee.Fits.{down_pos}
use lib.Ieee.Exact.{HasValue}
use lib.Ieee.Scale.{grid, finite, round_same}
use Rattle.base.proofs.Units.{in-units}
use Rattle.js.specs.Js.{negative}
use Rattle.share.specs.Drifts.{amount, plus, minus, Counted}
use Rattle.share.proofs.Rounded.{Near, grid-near, round-value}

pub one_side : (c : ℕ) (x : Float) → (plus c x ≡ 0) ⊎ (minus c x ≡ 0)
one_side c x = go (negative x)
  where
    go : (s : Bool) → (cond s 0 (amount c x) ≡ 0) ⊎ (cond s (amount c x) 0 ≡ 0)
    go true = inl refl
    go false = inr refl

module _ (c : ℕ) (s : Bool) (a : ℕ) where
  sign-is : (x : Float) → HasValue x s a c → negative x ≡ s
  sign-is nan v = absurd v
  sign-is (inf t) v = absurd v
  sign-is (fin t m e) v = v.0

  pub amount-is : (x : Float) → HasValue x s a c → amount c x ≡ a
  amount-is nan v = absurd v
  amount-is (inf t) v = absurd v
  amount-is (fin t m e) v = ap (λ (z : ℕ). z / down e) v.1 ∙ mul-div_cancel a (down_pos e)

  pub plus-is : (x : Float) → HasValue x s a c → plus c x ≡ cond s 0 a
  plus-is x v = ap₂ (λ (t : Bool) (n : ℕ). cond t 0 n) (sign-is x v) (amount-is x v)

  pub minus_is : (x : Float) → HasValue x s a c → minus c x ≡ cond s a 0
  minus_is x v = ap₂ (λ (t : Bool) (n : ℕ). cond t n 0) (sign-is x v) (amount-is x v)

  pub counted : (x : Float) → HasValue x s a c → Counted c x
  counted x v = subst₂ (λ (t : Bool) (n : ℕ). HasValue x t n c) (sym (sign-is x v)) (sym (amount-is x v)) v

  -- in c-ths of which each is cut in k
  pub finer : (k : ℕ) (x : Float) → HasValue x s a c → HasValue x s (a * k) (c * k)
  finer k nan v = v
  finer k (inf t) v = v
  finer k (fin t m e) v = (v.0, sym (mul_assoc (m * up e) c k) ∙ ap (λ (z : ℕ). z * k) v.1 ∙ mul_right_comm a (down e) k)

-- ---- the numbers that the format holds are whole numbers of its smallest one
pub counted-fits : (f : Format) (x : Float) → T (finite x) → T (fits f x) → Counted (2 ^ low f) x
counted-fits f nan h t = absurd h
counted-fits f (inf s) h t = absurd h
counted-fits f (fin s m e) h t = let u = in-units f s m e t in counted (2 ^ low f) s u.0 (fin s m e) u.1

pub counted-finite : (c : ℕ) (x : Float) → Counted c x → T (finite x)
counted-finite c nan v = v
counted-finite c (inf s) v = v
counted-finite c (fin s m e) v = tt

-- ---- w with the sign r is p - n
abbrev Signed : Bool → ℕ → ℕ → ℕ → Type 0
Signed true w p n = w + p ≡ n
Signed false w p n = p ≡ w + n

-- ---- x is (p - n) / c, rounded once
record Rounds (f : Format) (c p n : ℕ) (x : Float) : Type 0 where
  sign : Bool
  size : ℕ
  is : x ≡ round f sign size c
  value : Signed sign size p n

module _ (f : Format) where
  sum-rounds : (s t : Bool) (a b c : ℕ) → Rounds f c (cond s 0 a + cond t 0 b) (cond s a 0 + cond t b 0) (sum f s a t b c)
  unfolding sum
  sum-rounds true true a b c = record { sign = true; size = a + b; is = refl; value = omega arith }
  sum-rounds false false a b c = record { sign = false; size = a + b; is = refl; value = omega arith }
  sum-rounds true false a b c = go (ltb a b) refl (ltb b a) refl
    where
      go : (u : Bool) → ltb a b ≡ u → (v : Bool) → ltb b a ≡ v → Rounds f c (0 + b) (a + 0) (cond u (round f false (b - a) c) (round f v (a - b) c))
      go true u v w = let l = ltb-true a b u in record { sign = false; size = b - a; is = refl; value = omega arith }
      go false u true w = let l = ltb-false a b u in record { sign = true; size = a - b; is = refl; value = omega arith }
      go false u false w = let l = ltb-false a b u in let k = ltb-false b a w in record { sign = false; size = a - b; is = refl; value = omega arith }
  sum-rounds false true a b c = go (ltb a b) refl
    where
      go : (u : Bool) → ltb a b ≡ u → Rounds f c (a + 0) (0 + b) (cond u (round f true (b - a) c) (round f false (a - b) c))
      go true u = let l = ltb-true a b u in record { sign = true; size = b - a; is = refl; value = omega arith }
      go false u = let l = ltb-false a b u in record { sign = false; size = a - b; is = refl; value = omega arith }

  -- the same number as another fraction
  module _ (c d p n q o : ℕ) (C : 0 < c) (D : 0 < d) (hp : p * d ≡ q * c) (hn : n * d ≡ o * c) where
    fraction : (r : Bool) (w : ℕ) → Signed r w p n → (v : ℕ) × (w * d ≡ v * c) × Signed r v q o
    fraction true w h = let l : q ≤ o = le_of_mul-le-mul_right {k = c} (omega (arith, ap (λ (z : ℕ). z * d) h)) C in (o - q, across (o - q) (omega arith), omega arith)
      where
        across : (v : ℕ) → v + q ≡ o → w * d ≡ v * c
        across v e = omega (arith, ap (λ (z : ℕ). z * d) h, ap (λ (z : ℕ). z * c) e)
    fraction false w h = let l : o ≤ q = le_of_mul-le-mul_right {k = c} (omega (arith, ap (λ (z : ℕ). z * d) h)) C in (q - o, across (q - o) (omega arith), omega arith)
      where
        across : (v : ℕ) → q ≡ v + o → w * d ≡ v * c
        across v e = omega (arith, ap (λ (z : ℕ). z * d) h, ap (λ (z : ℕ). z * c) e)

    rounds-same : (x : Float) → Rounds f c p n x → Rounds f d q o x
    rounds-same x r =
        let v = fraction r.sign r.size r.value in
        record { sign = r.sign; size = v.0; is = r.is ∙ round_same f r.sign r.size c v.0 d C D v.1; value = v.2 }

  module _ (c : ℕ) (C : 0 < c) (s t : Bool) (a b : ℕ) where
    add-signed : (x y : Float) → HasValue x s a c → HasValue y t b c → Rounds f c (cond s 0 a + cond t 0 b) (cond s a 0 + cond t b 0) (add f x y)
    unfolding add
    add-signed nan y v w = absurd v
    add-signed (inf r) y v w = absurd v
    add-signed (fin r m e) nan v w = absurd w
    add-signed (fin r m e) (inf z) v w = absurd w
    add-signed (fin r m e) (fin z n d) v w =
        subst₂ (λ (u q : Bool). Rounds f c (cond s 0 a + cond t 0 b) (cond s a 0 + cond t b 0) (sum f u X q Y (down e * down d))) (sym v.0) (sym w.0)
        (rounds-same (down e * down d) c (cond s 0 X + cond t 0 Y) (cond s X 0 + cond t Y 0) (cond s 0 a + cond t 0 b) (cond s a 0 + cond t b 0) (mul-pos (down_pos e) (down_pos d)) C
        (both (cond s 0 X) (cond t 0 Y) (cond s 0 a) (cond t 0 b) (zero_or s X a one) (zero_or t Y b other)) (both (cond s X 0) (cond t Y 0) (cond s a 0) (cond t b 0) (or-zero s X a one) (or-zero t Y b other))
        (sum f s X t Y (down e * down d)) (sum-rounds s t X Y (down e * down d)))
      where
        X : ℕ
        X = m * up e * down d

        Y : ℕ
        Y = n * up d * down e

        one : X * c ≡ a * (down e * down d)
        one = mul_right_comm (m * up e) (down d) c ∙ ap (λ (z : ℕ). z * down d) v.1 ∙ mul_assoc a (down e) (down d)

        other : Y * c ≡ b * (down e * down d)
        other = mul_right_comm (n * up d) (down e) c ∙ ap (λ (z : ℕ). z * down e) w.1 ∙ mul_right_comm b (down d) (down e) ∙ mul_assoc b (down e) (down d)

        zero_or : (s : Bool) (x a : ℕ) → x * c ≡ a * (down e * down d) → cond s 0 x * c ≡ cond s 0 a * (down e * down d)
        zero_or true x a h = omega arith
        zero_or false x a h = h

        or-zero : (s : Bool) (x a : ℕ) → x * c ≡ a * (down e * down d) → cond s x 0 * c ≡ cond s a 0 * (down e * down d)
        or-zero true x a h = h
        or-zero false x a h = omega arith

        both : (x y p q : ℕ) → x * c ≡ p * (down e * down d) → y * c ≡ q * (down e * down d) → (x + y) * c ≡ (p + q) * (down e * down d)
        both x y p q h k = add-mul x y c ∙ ap₂ ◌+◌ h k ∙ sym (add-mul p q (down e * down d))

  module _ (c : ℕ) (C : 0 < c) (x y : Float) (v : Counted c x) (w : Counted c y) where
    add_rounds : Rounds f c (plus c x + plus c y) (minus c x + minus c y) (add f x y)
    add_rounds = add-signed c C (negative x) (negative y) (amount c x) (amount c y) x y v w

    sub-rounds : Rounds f c (plus c x + minus c y) (minus c x + plus c y) (sub f x y)
    unfolding sub neg
    sub-rounds =
        subst₂ (λ (p n : ℕ). Rounds f c (plus c x + p) (minus c x + n) (add f x (neg y))) (first (negative y)) (second (negative y))
        (add-signed c C (negative x) (not (negative y)) (amount c x) (amount c y) x (neg y) v (turned y w))
      where
        first : (t : Bool) → cond (not t) 0 (amount c y) ≡ cond t (amount c y) 0
        first true = refl
        first false = refl

        second : (t : Bool) → cond (not t) (amount c y) 0 ≡ cond t 0 (amount c y)
        second true = refl
        second false = refl

        turned : (y : Float) → Counted c y → HasValue (neg y) (not (negative y)) (amount c y) c
        turned nan h = absurd h
        turned (inf s) h = absurd h
        turned (fin s m e) h = (refl, h.1)

-- ---- x is a whole number of c-ths, and within d of them of p - n
pub record Close (c d p n : ℕ) (x : Float) : Type 0 where
  pub is : Counted c x
  pub above : plus c x + n ≤ p + minus c x + d
  pub below : p + minus c x ≤ plus c x + n + d

-- ---- the law: p - n below 2 ^ (e + prec + 1) is moved by at most 2 ^ e, here in parts of k
module _ (f : Format) (e k : ℕ) (K : 0 < k) (wide : suc e + prec f < low f + suc (emax f)) where
  abbrev c : ℕ
  c = 2 ^ low f * k

  abbrev top : ℕ
  top = 2 ^ (suc e + prec f) * k

  rounds-close : (p n : ℕ) (x : Float) → Rounds f c p n x → p < n + top → n < p + top → Close c (2 ^ e * k) p n x
  rounds-close p n x r h l = go r.sign r.size r.is r.value
    where
      L : ℕ
      L = 2 ^ low f

      C : 0 < c
      C = mul-pos (pow_pos (low f)) K

      small : (r : Bool) (w : ℕ) → Signed r w p n → w < top
      small true w g = omega arith
      small false w g = omega arith

      parts : (r : Bool) (w g a b : ℕ) → Signed r w p n → Near (g * k) w (2 ^ e * k) → a ≡ cond r 0 (g * k) → b ≡ cond r (g * k) 0 → (a + n ≤ p + b + 2 ^ e * k) × (p + b ≤ a + n + 2 ^ e * k)
      parts true w g a b v o u z = omega arith
      parts false w g a b v o u z = omega arith

      go : (r : Bool) (w : ℕ) → x ≡ round f r w c → Signed r w p n → Close c (2 ^ e * k) p n x
      go r w z v =
          let o = grid-near f w c C e (le_trans within (le_of_eq across)) in
          let y : HasValue x r (grid f w c * k) c = subst (λ (q : Float). HasValue q r (grid f w c * k) c) (sym z) (finer L r (grid f w c) k (round f r w c) (round-value f w c C (suc e + prec f) (le_trans (le_of_lt within) (le_of_eq across)) wide r)) in
          let q = parts r w (grid f w c) (plus c x) (minus c x) v (scaled (grid f w c) w (2 ^ e) o) (plus-is c r (grid f w c * k) x y) (minus_is c r (grid f w c * k) x y) in
          record { is = counted c r (grid f w c * k) x y; above = q.0; below = q.1 }
        where
          within : w * L < top * L
          within = mul-lt-mul_of_pos_right (small r w v) (pow_pos (low f))

          across : top * L ≡ 2 ^ (suc e + prec f) * c
          across = mul_assoc (2 ^ (suc e + prec f)) k L ∙ ap (λ (q : ℕ). 2 ^ (suc e + prec f) * q) (mul_comm k L)

          scaled : (g w j : ℕ) → Near (g * (L * k)) (w * L) (L * k * j) → Near (g * k) w (j * k)
          scaled g w j o = (le_of_mul-le-mul_right {k = L} (omega arith) (pow_pos (low f)), le_of_mul-le-mul_right {k = L} (omega arith) (pow_pos (low f)))

  module _ (x y : Float) (v : Counted c x) (w : Counted c y) where
    pub add-close : plus c x + plus c y < minus c x + minus c y + top → minus c x + minus c y < plus c x + plus c y + top
        → Close c (2 ^ e * k) (plus c x + plus c y) (minus c x + minus c y) (add f x y)
    add-close h l = rounds-close (plus c x + plus c y) (minus c x + minus c y) (add f x y) (add_rounds f c (mul-pos (pow_pos (low f)) K) x y v w) h l

    pub sub-close : plus c x + minus c y < minus c x + plus c y + top → minus c x + plus c y < plus c x + minus c y + top
        → Close c (2 ^ e * k) (plus c x + minus c y) (minus c x + plus c y) (sub f x y)
    sub-close h l = rounds-close (plus c x + minus c y) (minus c x + plus c y) (sub f x y) (sub-rounds f c (mul-pos (pow_pos (low f)) K) x y v w) h l
