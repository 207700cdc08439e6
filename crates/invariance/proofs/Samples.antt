-- The squares of two samples of which the second is 2 ^ t times the first in size: each is one rounding, and they are a pair (`Twin`), 4 ^ t apart,
-- far above the smallest values of the double and far below its largest. Where the samples are infinite, both squares are +infinity. Assumes nothing.
use mathlib.Core.Path.{◌≡◌, refl, sym, ap, ◌∙◌, subst₂}
use mathlib.Core.Logic.{◌⊎◌, inl, inr}
use mathlib.Core.Bool.{Bool, true, false}
use Prim.Native.Nat.{ℕ, suc, ◌+◌, ◌*◌, ◌^◌, ◌≤◌, ◌<◌}
use native.Mathlib.Nat.{le_trans, le_of_eq, le_of_lt, one-mul, mul-one, mul-mul-mul_comm, mul-le-mul, mul-le-mul_right, mul-pos, eq-zero-or-pos}
use lib.IntN.{pos, negsuc}
use lib.Dec.{lit≤, lit<}
use lib.Pow.{pow-add, pow_pos}
use lib.Ieee.{Float, nan, inf, fin, Format, binary32, binary64, emax, low, up, down, round, mul}
use lib.Ieee.Digits.{Equals}
use lib.Ieee.Fits.{down_pos}
use lib.Ieee.Scale.{overflow, round_same}
use Rattle.invariance.specs.Scaled.{Sampled}
use Rattle.invariance.proofs.Twin.{Between, Range, round-twin}
use Rattle.invariance.proofs.Sizes.{sizes}
use Rattle.invariance.proofs.Infinite.{Infinite}

-- ---- the square of p units of the format f
square-is : (f g : Format) (x : Float) (p : ℕ) → Equals x p (2 ^ low f) → mul g x x ≡ round g false (p * p) (2 ^ low f * 2 ^ low f)
unfolding mul
square-is f g nan p h = absurd h
square-is f g (inf s) p h = absurd h
square-is f g (fin s m e) p h = go s
  where
    L : ℕ
    L = 2 ^ low f

    same : round g false (m * up e * (m * up e)) (down e * down e) ≡ round g false (p * p) (L * L)
    same =
        round_same g false (m * up e * (m * up e)) (down e * down e) (p * p) (L * L) (mul-pos (down_pos e) (down_pos e)) (mul-pos (pow_pos (low f)) (pow_pos (low f)))
        (mul-mul-mul_comm (m * up e) (m * up e) L L ∙ ap (λ (n : ℕ). n * n) h ∙ mul-mul-mul_comm p (down e) p (down e))

    go : (s : Bool) → mul g (fin s m e) (fin s m e) ≡ round g false (p * p) (L * L)
    go true = same
    go false = same

-- ---- the least square of f above 0 is 2 ^ lo units of g, and all are below 2 ^ hi
record Squares (f g : Format) (lo hi : ℕ) : Type 0 where
  least : lo + (low f + low f) ≡ low g
  most : low f + suc (emax f) + (low f + suc (emax f)) + low g ≡ hi + (low f + low f)
  range : Range g lo hi

module _ (f g : Format) (lo hi t : ℕ) (r : Squares f g lo hi) (x y : Float) (p q : ℕ) (e : q ≡ p * 2 ^ t) (i : Equals x p (2 ^ low f)) (j : Equals y q (2 ^ low f)) (u : q < overflow f) where
  square-twin : Between g (t + t) lo hi (mul g x x) (mul g y y)
  square-twin =
      subst₂ (Between g (t + t) lo hi) (sym (square-is f g x p i)) (sym (square-is f g y q j ∙ ap (λ (n : ℕ). round g false n (L * L)) twice))
      (round-twin g (t + t) lo hi (p * p) (L * L) r.range (mul-pos (pow_pos (low f)) (pow_pos (low f))) (wide (eq-zero-or-pos p)) small)
    where
      L : ℕ
      L = 2 ^ low f

      -- 2 ^ n times L * L
      times : (n : ℕ) → 2 ^ n * (L * L) ≡ 2 ^ (n + (low f + low f))
      times n = ap (λ (z : ℕ). 2 ^ n * z) (sym (pow-add 2 (low f) (low f))) ∙ sym (pow-add 2 n (low f + low f))

      twice : q * q ≡ p * p * 2 ^ (t + t)
      twice = ap (λ (n : ℕ). n * n) e ∙ mul-mul-mul_comm p (2 ^ t) p (2 ^ t) ∙ ap (λ (n : ℕ). p * p * n) (sym (pow-add 2 t t))

      wide : (p ≡ 0) ⊎ (0 < p) → (p * p ≡ 0) ⊎ (2 ^ lo * (L * L) ≤ p * p * 2 ^ low g)
      wide (inl z) = inl (rw z)
      wide (inr P) = inr (le_trans (le_of_eq (times lo ∙ ap (λ (n : ℕ). 2 ^ n) r.least ∙ sym (one-mul (2 ^ low g)))) (mul-le-mul_right (2 ^ low g) (mul-pos P P)))

      small : p * p * 2 ^ (t + t) * 2 ^ low g ≤ 2 ^ hi * (L * L)
      small =
          let o = low f + suc (emax f) in
          le_trans (le_of_eq (ap (λ (n : ℕ). n * 2 ^ low g) (sym twice)))
          (le_trans (mul-le-mul_right (2 ^ low g) (mul-le-mul (le_of_lt u) (le_of_lt u)))
          (le_of_eq (ap (λ (n : ℕ). n * 2 ^ low g) (sym (pow-add 2 o o)) ∙ sym (pow-add 2 (o + o) (low g)) ∙ ap (λ (n : ℕ). 2 ^ n) r.most ∙ sym (times hi))))

-- ---- of an f32, in a double: 0, or from 2 ^ 776 units, which are 2 ^ -298, to 2 ^ 1330; or both are +infinity
abbrev pub Squared : ℕ → Float → Float → Type 0
Squared t x y = Between binary64 (t + t) 776 1330 (mul binary64 x x) (mul binary64 y y) ⊎ Infinite (mul binary64 x x) (mul binary64 y y)

double : Squares binary32 binary64 776 1330
double = record { least = refl; most = refl; range = record { normal = lit≤ tt; under = lit< tt } }

square-infinite : (s : Bool) → mul binary64 (inf s) (inf s) ≡ inf false
unfolding mul
square-infinite true = refl
square-infinite false = refl

pub louder : (t : ℕ) (reversed : Bool) (x y : Float) → Sampled (pos t) reversed x y → Squared t x y
louder t reversed nan y h = absurd h.scaled
louder t reversed (inf s) nan h = absurd h.scaled
louder t reversed (inf s) (inf r) h = inr (square-infinite s, square-infinite r)
louder t reversed (inf s) (fin r n d) h = absurd h.scaled
louder t reversed (fin s m e) nan h = absurd h.scaled
louder t reversed (fin s m e) (inf r) h = absurd h.scaled
louder t reversed (fin s m e) (fin r n d) h =
    let z = sizes binary32 (pos t) reversed s r m n e d h.first h.second h.scaled in
    inl (square-twin binary32 binary64 776 1330 t double (fin s m e) (fin r n d) z.p z.q (sym (mul-one z.q) ∙ z.factor) z.first z.second z.second-under)

pub softer : (j : ℕ) (reversed : Bool) (x y : Float) → Sampled (negsuc j) reversed x y → Squared (suc j) y x
softer j reversed nan y h = absurd h.scaled
softer j reversed (inf s) nan h = absurd h.scaled
softer j reversed (inf s) (inf r) h = inr (square-infinite r, square-infinite s)
softer j reversed (inf s) (fin r n d) h = absurd h.scaled
softer j reversed (fin s m e) nan h = absurd h.scaled
softer j reversed (fin s m e) (inf r) h = absurd h.scaled
softer j reversed (fin s m e) (fin r n d) h =
    let z = sizes binary32 (negsuc j) reversed s r m n e d h.first h.second h.scaled in
    inl (square-twin binary32 binary64 776 1330 (suc j) double (fin r n d) (fin s m e) z.q z.p (sym (mul-one z.p) ∙ sym z.factor) z.second z.first z.first_under)
