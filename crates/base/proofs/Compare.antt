-- What `compare` says of two numbers, and what it answers; tests of numbers that are both multiplied. Assumes nothing.
use mathlib.Core.Path.{◌≡◌, refl, ap, subst}
use Prim.Native.Nat.{ℕ, ◌*◌, ◌≤◌, ◌<◌, compare, Ordering}
use native.Mathlib.Nat.{mul-lt-mul_of_pos_right, mul-le-mul_right, eq_of_mul-eq-mul_right}
use native.Mathlib.Omega.{arith}
use borrow.Author.Tests.{ltb-true, ltb-false, lt-ltb, le-ltb, eqb-true, eqb-false, eq-eqb, ne_eqb}
use mathlib.Core.Bool.{Bool, true, false, not}
use lib.Dec.{T, ltb, eqb, is_le, compare_is_eq, leb→le, nleb→lt, eqb→eq, eqb_refl}
use lib.Arith.{lt_of_le-ne}

abbrev pub Compared : Ordering → ℕ → ℕ → Type 0
Compared Ordering.lt a b = a < b
Compared Ordering.eq a b = a ≡ b
Compared Ordering.gt a b = b < a

pub compared : (a b : ℕ) → Compared (compare a b) a b
compared a b = go (compare a b) (leb→le a b) (nleb→lt a b) (eqb→eq a b) (λ e. subst (λ (x : ℕ). T (eqb a x)) e (eqb_refl a))
  where
    go : (o : Ordering) → (T (is_le o) → a ≤ b) → (T (not (is_le o)) → b < a) → (T (compare_is_eq o) → a ≡ b) → (a ≡ b → T (compare_is_eq o)) → Compared o a b
    go Ordering.lt l g e n = lt_of_le-ne (l tt) n
    go Ordering.eq l g e n = e tt
    go Ordering.gt l g e n = g tt

pub compare-is : (a b : ℕ) (o : Ordering) → Compared o a b → compare a b ≡ o
compare-is a b o h = go (compare a b) o (compared a b) h
  where
    go : (p o : Ordering) → Compared p a b → Compared o a b → p ≡ o
    go Ordering.lt Ordering.lt x y = refl
    go Ordering.lt Ordering.eq x y = absurd (omega arith)
    go Ordering.lt Ordering.gt x y = absurd (omega arith)
    go Ordering.eq Ordering.lt x y = absurd (omega arith)
    go Ordering.eq Ordering.eq x y = refl
    go Ordering.eq Ordering.gt x y = absurd (omega arith)
    go Ordering.gt Ordering.lt x y = absurd (omega arith)
    go Ordering.gt Ordering.eq x y = absurd (omega arith)
    go Ordering.gt Ordering.gt x y = refl

-- ---- a factor that both have
pub ltb-scale : (a b d : ℕ) → 0 < d → ltb (a * d) (b * d) ≡ ltb a b
ltb-scale a b d p = go (ltb a b) refl
  where
    go : (t : Bool) → ltb a b ≡ t → ltb (a * d) (b * d) ≡ t
    go true t = lt-ltb (a * d) (b * d) (mul-lt-mul_of_pos_right (ltb-true a b t) p)
    go false t = le-ltb (a * d) (b * d) (mul-le-mul_right d (ltb-false a b t))

pub eqb-scale : (a b d : ℕ) → 0 < d → eqb (a * d) (b * d) ≡ eqb a b
eqb-scale a b d p = go (eqb a b) refl
  where
    go : (t : Bool) → eqb a b ≡ t → eqb (a * d) (b * d) ≡ t
    go true t = eq-eqb (a * d) (b * d) (ap (λ (x : ℕ). x * d) (eqb-true a b t))
    go false t = ne_eqb (a * d) (b * d) (λ (e : a * d ≡ b * d). eqb-false a b t (eq_of_mul-eq-mul_right d p a b e))
