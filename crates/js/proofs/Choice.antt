-- Math.max, case by case as the code has it: by the comparison of the two, and where they compare equal by the sign of the first.
-- Assumes nothing.
use mathlib.Core.Path.{◌≡◌, refl, sym, ◌∙◌, subst}
use mathlib.Core.Bool.{Bool, true, false, cond, not, ◌&&◌, ◌||◌, beq, true≢false}
use Prim.Native.Nat.{ℕ, ◌+◌, ◌*◌, ◌^◌, ◌≤◌, ◌<◌}
use native.Mathlib.Omega.{arith}
use borrow.Author.Tests.{le-ltb, eqb-true, lt-leb, le-leb}
use lib.Dec.{T, eqb}
use lib.Ieee.{Float, nan, inf, fin, binary64, up, down, fits, is_nan, lt, eq, ne, below, level, to_bits}
use lib.Ieee.Bits.{is_false}
use lib.Ieee.Compare.{differs_from_itself}
use Rattle.base.proofs.Signs.{no_nan}
use Rattle.js.specs.Js.{negative, under, js_max}
use Rattle.js.specs.Sizes.{Number}
use Rattle.js.proofs.Patterns.{sign_bit}
use Rattle.js.proofs.Order.{under-total}

-- ---- two that compare equal are numbers, and neither is below the other
pub eq-numbers : (x y : Float) → eq x y ≡ true → T (not (is_nan x)) × T (not (is_nan y))
unfolding eq is_nan
eq-numbers nan y h = absurd (true≢false (sym h))
eq-numbers (inf s) nan h = absurd (true≢false (sym h))
eq-numbers (inf s) (inf t) h = (tt, tt)
eq-numbers (inf s) (fin t n d) h = absurd (true≢false (sym h))
eq-numbers (fin s m e) nan h = absurd (true≢false (sym h))
eq-numbers (fin s m e) (inf t) h = absurd (true≢false (sym h))
eq-numbers (fin s m e) (fin t n d) h = (tt, tt)

and-true : (a b : Bool) → (a && b) ≡ true → (a ≡ true) × (b ≡ true)
and-true true b h = (refl, h)
and-true false b h = absurd (true≢false (sym h))

level-below : (s t : Bool) (a b : ℕ) → level s a t b ≡ true → (below s a t b ≡ false) × (below t b s a ≡ false)
level-below s t a b h =
    let k = and-true (eqb a b) (beq s t || eqb a 0) h in
    let e : a ≡ b = eqb-true a b k.0 in
    go s t e k.1
  where
    go : (s t : Bool) → a ≡ b → (beq s t || eqb a 0) ≡ true → (below s a t b ≡ false) × (below t b s a ≡ false)
    go false false e z = (le-ltb a b (omega arith), le-ltb b a (omega arith))
    go true true e z = (le-ltb b a (omega arith), le-ltb a b (omega arith))
    go true false e z = (le-ltb 0 (a + b) (omega (arith, eqb-true a 0 z)), refl)
    go false true e z = (refl, le-ltb 0 (b + a) (omega (arith, eqb-true a 0 z)))

eq-below : (x y : Float) → eq x y ≡ true → (lt x y ≡ false) × (lt y x ≡ false)
unfolding eq lt
eq-below nan y h = absurd (true≢false (sym h))
eq-below (inf s) nan h = absurd (true≢false (sym h))
eq-below (inf true) (inf true) h = (refl, refl)
eq-below (inf false) (inf false) h = (refl, refl)
eq-below (inf true) (inf false) h = absurd (true≢false (sym h))
eq-below (inf false) (inf true) h = absurd (true≢false (sym h))
eq-below (inf s) (fin t n d) h = absurd (true≢false (sym h))
eq-below (fin s m e) nan h = absurd (true≢false (sym h))
eq-below (fin s m e) (inf t) h = absurd (true≢false (sym h))
eq-below (fin s m e) (fin t n d) h = level-below s t (m * up e * down d) (n * up d * down e) h

-- ---- of two numbers the second is taken where it is the higher
plain : (x y : Float) → Number x → Number y → (is_nan x || is_nan y) ≡ false
plain x y n k = go (is_nan x) (is_nan y) n.1 k.1
  where
    go : (a b : Bool) → T (not a) → T (not b) → (a || b) ≡ false
    go true b p q = absurd p
    go false true p q = absurd q
    go false false p q = refl

max-is : (x y : Float) {t : Bool} → (is_nan x || is_nan y) ≡ false → under x y ≡ t → cond t y x ≡ js_max x y
unfolding js_max
max-is x y p h = rw (p, h)

and_none : (b : Bool) → (b && false) ≡ false
and_none true = refl
and_none false = refl

-- ---- the code's cases: by comparison, and where the two compare equal by the highest bit of x
module _ (x y : Float) (fx : T (fits binary64 x)) (fy : T (fits binary64 y)) (e : eq x y ≡ true) where
  n : Number x
  n = (fx, (eq-numbers x y e).0)

  k : Number y
  k = (fy, (eq-numbers x y e).1)

  pub max-plus : to_bits binary64 x < 2 ^ 63 → x ≡ js_max x y
  max-plus b = max-is x y (plain x y n k) not-under
    where
      plus : negative x ≡ false
      plus = sign_bit binary64 x fx n.1 ∙ lt-leb (2 ^ 63) (to_bits binary64 x) b

      not-under : under x y ≡ false
      not-under = unfold under in rw ((eq-below x y e).0, plus) (and_none (eq x y))

  pub max-minus : 2 ^ 63 ≤ to_bits binary64 x → y ≡ js_max x y
  max-minus b = go (under x y) refl
    where
      minus : negative x ≡ true
      minus = sign_bit binary64 x fx n.1 ∙ le-leb (2 ^ 63) (to_bits binary64 x) b

      not-over : under y x ≡ false
      not-over = unfold under in rw ((eq-below x y e).1, minus, and_none (negative y)) (and_none (eq y x))

      go : (t : Bool) → under x y ≡ t → y ≡ js_max x y
      go true t = max-is x y (plain x y n k) t
      go false t = sym (under-total x y n k t not-over) ∙ max-is x y (plain x y n k) t

pub max-nan : (x y : Float) → ne y y ≡ true → y ≡ js_max x y
max-nan x y h = let e : y ≡ nan = differs_from_itself y (subst T (sym h) tt) in rw e (absorbs x)
  where
    absorbs : (x : Float) → nan ≡ js_max x nan
    absorbs nan = unfold js_max is_nan in refl
    absorbs (inf s) = unfold js_max is_nan in refl
    absorbs (fin s m e) = unfold js_max is_nan in refl

pub max-lt : (x y : Float) → lt x y ≡ true → y ≡ js_max x y
max-lt x y h = max-is x y {t = true} (numbers x y h) (unfold under in rw h)
  where
    numbers : (x y : Float) → lt x y ≡ true → (is_nan x || is_nan y) ≡ false
    numbers nan y h = unfold lt in absurd (true≢false (sym h))
    numbers (inf s) nan h = unfold lt in absurd (true≢false (sym h))
    numbers (inf s) (inf t) h = unfold is_nan in refl
    numbers (inf s) (fin t n d) h = unfold is_nan in refl
    numbers (fin s m e) nan h = unfold lt in absurd (true≢false (sym h))
    numbers (fin s m e) (inf t) h = unfold is_nan in refl
    numbers (fin s m e) (fin t n d) h = unfold is_nan in refl

pub max-other : (x y : Float) → eq x y ≡ false → ne y y ≡ false → lt x y ≡ false → x ≡ js_max x y
max-other x y p q r = go (is_nan x) refl
  where
    second : is_nan y ≡ false
    second = is_false (is_nan y) (no_nan y q)

    go : (t : Bool) → is_nan x ≡ t → x ≡ js_max x y
    go true t = nan-first x t
      where
        nan-first : (x : Float) → is_nan x ≡ true → x ≡ js_max x y
        nan-first nan h = unfold js_max is_nan in refl
        nan-first (inf s) h = unfold is_nan in absurd (true≢false (sym h))
        nan-first (fin s m e) h = unfold is_nan in absurd (true≢false (sym h))
    go false t = max-is x y {t = false} (rw (t, second)) (unfold under in rw (r, p))
