-- Floats by their values, fractions that are not negative: a product, a quotient or a sum is the fractions', rounded once. Whole numbers are those over 1;
-- a comparison of them is the numbers' own. Assumes nothing.
use Prim.Native.Nat.{ℕ, ◌+◌, ◌*◌, ◌<◌, ◌≤◌, ◌^◌}
use mathlib.Core.Bool.{true, false, true≢false}
use mathlib.Core.Path.{◌≡◌, refl, sym, ap, ap₂, ◌∙◌, subst}
use lib.IntN.{ℤ, pos}
use lib.Dec.{ltb, lit<}
use native.Mathlib.Nat.{lt_irrefl, zero-mul, add-mul, mul-one, mul_assoc, mul_comm, mul_right_comm, mul-mul-mul_comm, mul-pos}
use borrow.Author.Tests.{ne_eqb}
use lib.Ieee.{Float, nan, inf, fin, Format, prec, up, down, round, lt, sum, add, mul, div, of_int}
use lib.Ieee.Exact.{HasValue}
use lib.Ieee.Back.{round_whole}
use lib.Ieee.Fits.{down_pos}
use lib.Ieee.Positive.{first_pos}
use lib.Ieee.Scale.{round_same}
use Rattle.base.proofs.Compare.{ltb-scale}

-- x is a / c
pub record Fraction (x : Float) (a c : ℕ) : Type 0 where
  pub m : ℕ
  pub e : ℤ
  pub is : x ≡ fin false m e
  pub value : m * up e * c ≡ a * down e

pub fraction : (x : Float) (a c : ℕ) → HasValue x false a c → Fraction x a c
fraction nan a c v = absurd v
fraction (inf s) a c v = absurd v
fraction (fin true m e) a c v = absurd (true≢false v.0)
fraction (fin false m e) a c v = record { m = m; e = e; is = refl; value = v.1 }

module _ (f : Format) {x y : Float} {a b c : ℕ} (v : Fraction x a c) where
  module _ {d : ℕ} (w : Fraction y b d) (C : 0 < c) (D : 0 < d) where
    pub mul-fraction : mul f x y ≡ round f false (a * b) (c * d)
    unfolding mul
    mul-fraction =
        rw (v.is, w.is)
        (round_same f false (v.m * up v.e * (w.m * up w.e)) (down v.e * down w.e) (a * b) (c * d) (mul-pos (down_pos v.e) (down_pos w.e)) (mul-pos C D)
        (mul-mul-mul_comm (v.m * up v.e) (w.m * up w.e) c d ∙ ap₂ ◌*◌ v.value w.value ∙ mul-mul-mul_comm a (down v.e) b (down w.e)))

    pub div-fraction : 0 < b → div f x y ≡ round f false (a * d) (b * c)
    unfolding div
    div-fraction B =
        rw (v.is, w.is, ne_eqb w.m 0 some)
        (round_same f false (v.m * up v.e * down w.e) (w.m * up w.e * down v.e) (a * d) (b * c) (mul-pos above (down_pos v.e)) (mul-pos B C)
        (cross (v.m * up v.e) (down v.e) (w.m * up w.e) (down w.e) v.value w.value))
      where
        over : 0 < w.m * up w.e * d
        over = subst (λ (n : ℕ). 0 < n) (sym w.value) (mul-pos B (down_pos w.e))

        above : 0 < w.m * up w.e
        above = first_pos (w.m * up w.e) d over

        some : w.m ≡ 0 → ⊥
        some z = lt_irrefl 0 (subst (λ (n : ℕ). 0 < n) (ap (λ (n : ℕ). n * up w.e) z ∙ zero-mul (up w.e)) above)

        cross : (X D Y E : ℕ) → X * c ≡ a * D → Y * d ≡ b * E → X * E * (b * c) ≡ a * d * (Y * D)
        cross X D Y E p q = ap (λ (n : ℕ). X * E * n) (mul_comm b c) ∙ mul-mul-mul_comm X E c b ∙ ap₂ ◌*◌ p (mul_comm E b ∙ sym q) ∙ ap (λ (n : ℕ). a * D * n) (mul_comm Y d) ∙ mul-mul-mul_comm a D d Y ∙ ap (λ (n : ℕ). a * d * n) (mul_comm D Y)

  module _ (w : Fraction y b c) (C : 0 < c) where
    pub add-fraction : add f x y ≡ round f false (a + b) c
    unfolding add sum
    add-fraction =
        rw (v.is, w.is)
        (round_same f false (v.m * up v.e * down w.e + w.m * up w.e * down v.e) (down v.e * down w.e) (a + b) c (mul-pos (down_pos v.e) (down_pos w.e)) C
        (cross (v.m * up v.e) (down v.e) (w.m * up w.e) (down w.e) v.value w.value))
      where
        cross : (X D Y E : ℕ) → X * c ≡ a * D → Y * c ≡ b * E → (X * E + Y * D) * c ≡ (a + b) * (D * E)
        cross X D Y E p q =
            add-mul (X * E) (Y * D) c
            ∙ ap₂ ◌+◌ (mul_right_comm X E c ∙ ap (λ (n : ℕ). n * E) p ∙ mul_assoc a D E) (mul_right_comm Y D c ∙ ap (λ (n : ℕ). n * D) q ∙ mul_right_comm b E D ∙ mul_assoc b D E)
            ∙ sym (add-mul a b (D * E))

-- ---- x is the number a
abbrev pub Whole : Float → ℕ → Type 0
Whole x a = Fraction x a 1

pub whole-value : (x : Float) (a : ℕ) → HasValue x false a 1 → Whole x a
whole-value x a v = fraction x a 1 v

pub lt-whole : {x : Float} {a : ℕ} → Whole x a → (n : ℕ) (d : ℤ) → lt x (fin false n d) ≡ ltb (a * down d) (n * up d)
unfolding lt
lt-whole {x} {a} v n d = rw (v.is, sym (mul-one (v.m * up v.e)) ∙ v.value, mul_right_comm a (down v.e) (down d)) (ltb-scale (a * down d) (n * up d) (down v.e) (down_pos v.e))

module _ (f : Format) where
  -- f holds the whole numbers up to 2 ^ prec
  pub whole-int : (n : ℕ) → n ≤ 2 ^ prec f → Whole (of_int f (pos n)) n
  unfolding of_int
  whole-int n h = whole-value (round f false n 1) n (round_whole f false n h)

  module _ {x y : Float} {a b : ℕ} (v : Whole x a) (w : Whole y b) where
    pub mul-whole : mul f x y ≡ of_int f (pos (a * b))
    unfolding of_int
    mul-whole = mul-fraction f v w (lit< tt) (lit< tt)

    pub div-whole : 0 < b → div f x y ≡ round f false a b
    div-whole B = div-fraction f v w (lit< tt) (lit< tt) B ∙ ap₂ (round f false) (mul-one a) (mul-one b)

    pub add-whole : add f x y ≡ of_int f (pos (a + b))
    unfolding of_int
    add-whole = add-fraction f v w (lit< tt)
