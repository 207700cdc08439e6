-- `Scaled` in units of a format's smallest positive value: of p and q units the second is 2 ^ k times the first where q * down k is p * up k.
-- Assumes nothing.
use mathlib.Core.Path.{◌≡◌, sym, ap, ◌∙◌}
use mathlib.Core.Logic.{inr}
use mathlib.Core.Bool.{Bool, false, beq, not}
use Prim.Native.Nat.{ℕ, ◌*◌, ◌^◌, ◌<◌}
use native.Mathlib.Nat.{mul_comm, mul_assoc, mul_left_comm, mul_right_comm, mul-pos, eq_of_mul-eq-mul_right}
use lib.IntN.{ℤ}
use lib.Dec.{T}
use lib.Pow.{pow_pos}
use lib.Ieee.{Float, nan, inf, fin, Format, low, up, down, fits, is_nan}
use lib.Ieee.Digits.{Equals}
use lib.Ieee.Fits.{down_pos}
use lib.Ieee.Scale.{overflow}
use Rattle.js.proofs.Order.{has-rank}
use Rattle.invariance.specs.Scaled.{Scaled}
use Rattle.invariance.proofs.Twin.{Holds}

-- ---- with fractions X / D = p / L and Y / E = q / L
module _ (X D Y E L p q K U : ℕ) (x : X * L ≡ p * D) (y : Y * L ≡ q * E) where
  second : Y * (D * K) * L ≡ q * K * (D * E)
  second = mul_right_comm Y (D * K) L ∙ ap (λ (n : ℕ). n * (D * K)) y ∙ simp (mul_assoc, mul_comm, mul_left_comm)

  first : X * U * E * L ≡ p * U * (D * E)
  first = ap (λ (n : ℕ). n * L) (mul_assoc X U E) ∙ mul_right_comm X (U * E) L ∙ ap (λ (n : ℕ). n * (U * E)) x ∙ simp (mul_assoc, mul_comm, mul_left_comm)

  to-units : 0 < D * E → Y * (D * K) ≡ X * U * E → q * K ≡ p * U
  to-units P h = eq_of_mul-eq-mul_right (D * E) P (q * K) (p * U) (sym second ∙ ap (λ (n : ℕ). n * L) h ∙ first)

  from-units : 0 < L → q * K ≡ p * U → Y * (D * K) ≡ X * U * E
  from-units P h = eq_of_mul-eq-mul_right L P (Y * (D * K)) (X * U * E) (second ∙ ap (λ (n : ℕ). n * (D * E)) h ∙ sym first)

-- ---- the sizes of two finite values of the format, whatever their signs
pub record Sizes (f : Format) (k : ℤ) (x y : Float) : Type 0 where
  pub p : ℕ
  pub q : ℕ
  pub first : Equals x p (2 ^ low f)
  pub second : Equals y q (2 ^ low f)
  pub first_under : p < overflow f
  pub second-under : q < overflow f
  pub factor : q * down k ≡ p * up k

pub sizes : (f : Format) (k : ℤ) (reversed s r : Bool) (m n : ℕ) (e d : ℤ) → T (fits f (fin s m e)) → T (fits f (fin r n d)) → Scaled k reversed (fin s m e) (fin r n d) → Sizes f k (fin s m e) (fin r n d)
unfolding is_nan
sizes f k reversed s r m n e d t w h =
    let a = (has-rank f (fin s m e) t tt).1 in
    let b = (has-rank f (fin r n d) w tt).1 in
    record {
      p = a.size;
      q = b.size;
      first = a.at.0.1;
      second = b.at.0.1;
      first_under = a.at.1;
      second-under = b.at.1;
      factor = to-units (m * up e) (down e) (n * up d) (down d) (2 ^ low f) a.size b.size (down k) (up k) a.at.0.1 b.at.0.1 (mul-pos (down_pos e) (down_pos d)) h.0;
    }

-- ---- of two values that are not negative
pub scaled-units : (f : Format) (k : ℤ) (x y : Float) (p q : ℕ) → Holds f x p → Holds f y q → q * down k ≡ p * up k → Scaled k false x y
scaled-units f k nan y p q i j h = absurd i.0
scaled-units f k (inf s) y p q i j h = absurd i.0
scaled-units f k (fin s m e) nan p q i j h = absurd j.0
scaled-units f k (fin s m e) (inf r) p q i j h = absurd j.0
scaled-units f k (fin s m e) (fin r n d) p q i j h =
    (from-units (m * up e) (down e) (n * up d) (down d) (2 ^ low f) p q (down k) (up k) i.0.1 j.0.1 (pow_pos (low f)) h, inr (signs r s j.0.0 i.0.0))
  where
    signs : (r s : Bool) → r ≡ false → s ≡ false → r ≡ not (beq false s)
    signs r s a b = rw (a, b)
