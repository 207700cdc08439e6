-- A fraction that lies less than half a step from a value of the format rounds to that value. Assumes nothing.
use mathlib.Core.Path.{◌≡◌, refl, sym, ap, ◌∙◌, subst}
use Prim.Native.Nat.{Ordering}
use Prim.Native.Nat.{ℕ, zero, suc, ◌+◌, ◌-◌, ◌*◌, ◌/◌, ◌%◌, ◌^◌, ◌≤◌, ◌<◌}
use native.Mathlib.Nat.{div-add-mod', div-eq_of_lt-le, add-mul, one-mul, suc-mul, mul_comm, mul_assoc, mul_left_comm, mul-le-mul_right, le_trans, le_of_eq, lt_of_lt_of_le, lt_of_not-le, le-div_iff_mul-le, div-lt_iff_lt-mul}
use native.Mathlib.Omega.{arith}
use native.Mathlib.Decide.{dec_le}
use mathlib.Core.Bool.{Bool}
use lib.Pow.{pow-add}
use lib.Ieee.{Format, prec, low, units, round}
use lib.Ieee.Fits.{round_is, two, two-le_pos}
use lib.Ieee.Nearest.{closest}
use Rattle.base.proofs.Compare.{compare-is}
use Rattle.base.proofs.Bits.{size_exact}

-- ---- n / u lies less than a half from M
module _ (n u : ℕ) where
  above_half : (q r : ℕ) → n / u ≡ q → n % u ≡ r → r * 2 < u → closest n u ≡ q
  above_half q r a b h = rw (a, b, compare-is (r * 2) u Ordering.lt h)

  below_half : (q r : ℕ) → n / u ≡ q → n % u ≡ r → u < r * 2 → closest n u ≡ suc q
  below_half q r a b h = rw (a, b, compare-is (r * 2) u Ordering.gt h)

  at : (q : ℕ) → q * u ≤ n → n < q * u + u → n / u ≡ q
  at q lo hi = div-eq_of_lt-le u lo (let e : (q + 1) * u ≡ q * u + u = simp (add-mul, one-mul) in omega arith)

  left : (q : ℕ) → n / u ≡ q → q * u + n % u ≡ n
  left q e = subst (λ (x : ℕ). x * u + n % u ≡ n) e (div-add-mod' n u)

  from-above : (q : ℕ) → q * u ≤ n → n * 2 < q * u * 2 + u → closest n u ≡ q
  from-above q l hi = let e = at q l (omega arith) in above_half q (n % u) e refl (omega (arith, left q e))

  pub closest-near : (q : ℕ) → q * u * 2 < n * 2 + u → n * 2 < q * u * 2 + u → closest n u ≡ q
  closest-near zero lo hi = from-above 0 (omega arith) hi
  closest-near (suc q) lo hi = go (dec_le (suc q * u) n)
    where
      one : suc q * u ≡ q * u + u
      one = suc-mul q u

      go : Dec (suc q * u ≤ n) → closest n u ≡ suc q
      go (yes l) = from-above (suc q) l hi
      go (no g) =
          let l : n < suc q * u = lt_of_not-le g in
          let e = at q (omega (arith, one)) (omega (arith, one)) in
          below_half q (n % u) e refl (omega (arith, one, left q e))

-- ---- num / den lies less than half a step from q * 2 ^ j units, and not below 2 ^ (prec - 1) * 2 ^ j of them, where a step becomes shorter
digits_of : (p j : ℕ) → 0 < p → suc (p - 1 + j) - p ≡ j
digits_of p j P = omega arith

module _ (f : Format) (s : Bool) (num den q j : ℕ) (D : 0 < den) where
  abbrev n : ℕ
  n = num * 2 ^ low f

  abbrev u : ℕ
  u = den * 2 ^ j

  pub round-near : q < 2 ^ prec f → 2 ^ (prec f - 1) * u ≤ n → q * u * 2 < n * 2 + u → n * 2 < q * u * 2 + u → round f s num den ≡ units f s q j
  round-near Q lo near far =
      round_is f s num den
      ∙ ap (λ (k : ℕ). units f s (closest n (den * 2 ^ k)) k) (ap (λ (z : ℕ). z - prec f) (size_exact (prec f - 1 + j) (n / den) low_end high_end) ∙ digits_of (prec f) j P)
      ∙ ap (λ (q : ℕ). units f s q j) (closest-near n u q near far)
    where
      P : 0 < prec f
      P = two-le_pos (prec f) (two f)

      low_end : 2 ^ (prec f - 1 + j) ≤ n / den
      low_end = (le-div_iff_mul-le D).1 (le_trans (le_of_eq (ap (λ (x : ℕ). x * den) (pow-add 2 (prec f - 1) j) ∙ simp (mul_assoc, mul_comm, mul_left_comm))) lo)

      full : suc q * u ≤ 2 ^ prec f * u
      full = mul-le-mul_right u Q

      same : 2 ^ suc (prec f - 1 + j) * den ≡ 2 ^ prec f * u
      same = ap (λ (x : ℕ). 2 ^ x * den) (room (prec f) P) ∙ ap (λ (x : ℕ). x * den) (pow-add 2 (prec f) j) ∙ simp (mul_assoc, mul_comm, mul_left_comm)
        where
          room : (p : ℕ) → 0 < p → suc (p - 1 + j) ≡ p + j
          room p P = omega arith

      high_end : n / den < 2 ^ suc (prec f - 1 + j)
      high_end = (div-lt_iff_lt-mul D).1 (lt_of_lt_of_le (under n u (q * u) (suc q * u) (suc-mul q u) far) (le_trans full (le_of_eq (sym same))))
        where
          under : (n u a b : ℕ) → b ≡ a + u → n * 2 < a * 2 + u → n < b
          under n u a b e h = omega arith
