-- An i64 is read back from its bits as itself, and what the machine computes of it is what ℤ says. Assumes nothing.
use Rattle.std.proofs.Common.{◌≡◌, ℕ, zero, suc, ◌+◌, ◌^◌, ◌<◌, Bool, true, false, ℤ, pos, negsuc, ◌-ℤ◌, neg_ℤ, nat_abs, refl, ap, ◌∙◌, true≢false, arith, w64, to_z, of_z, ltb-true, lt-ltb, le-ltb}
use lib.Signed.{mag, lt_z}
use mir.ValLaws.{to_z_pos, to_z-of_z}
use lib.IntN.{+ℤ_idl}
use Rattle.std.specs.Int.{int_max}
use Rattle.base.specs.Whole.{to_nat, max_z}

-- ---- the larger of k and 0
pub max-zero : (k : ℤ) → int_max k (pos 0) ≡ max_z k (pos 0)
max-zero (pos zero) = refl
max-zero (pos (suc n)) = rw (lt-ltb 0 (suc n) (omega arith), le-ltb (suc n) 0 (omega arith))
max-zero (negsuc n) = refl

-- ---- -n, for an n that is an i64
pub minus_is : (n : ℕ) → n < 2 ^ 63 → pos 0 -ℤ to_z w64 n ≡ neg_ℤ (pos n)
minus_is n h = rw (to_z_pos w64 n h) (+ℤ_idl (neg_ℤ (pos n)))

-- ---- the size of z, which is one more than -1 - z where z is negative
less_one : (z : ℤ) → lt_z z (pos 0) ≡ true → negsuc 0 -ℤ z ≡ pos (mag z)
less_one (pos n) t = absurd (omega (arith, ltb-true n 0 t))
less_one (negsuc n) t = rw (le-ltb (suc n) 1 (omega arith)) (ap pos (omega arith))

size-one : (z : ℤ) → lt_z z (pos 0) ≡ true → mag z + 1 ≡ nat_abs z
size-one (pos n) t = absurd (omega (arith, ltb-true n 0 t))
size-one (negsuc n) t = omega arith

module _ (z : ℤ) (h : mag z < 2 ^ 63) where
  pub read_back : to_z w64 (of_z w64 z) ≡ z
  read_back = to_z-of_z w64 z (record { sfits = h })

  pub test_back : {b : Bool} → lt_z (to_z w64 (of_z w64 z)) (pos 0) ≡ b → lt_z z (pos 0) ≡ b
  test_back t = rw read_back at t

  -- the size of z, of which the bits are below zero
  module _ (t : lt_z (to_z w64 (of_z w64 z)) (pos 0) ≡ true) where
    pub size_back : mag z + 1 ≡ nat_abs z
    size_back = size-one z (test_back t)

-- ---- an i64 as an index: where it is not negative it is the number itself
size-nat : (k : ℤ) → lt_z k (pos 0) ≡ false → nat_abs k ≡ to_nat k
size-nat (pos n) t = refl
size-nat (negsuc n) t = absurd (true≢false t)

module _ (k : ℤ) (h : mag k < 2 ^ 63) where
  module _ (t : lt_z (to_z w64 (of_z w64 k)) (pos 0) ≡ false) where
    pub index_is : nat_abs (to_z w64 (of_z w64 k)) ≡ to_nat k
    index_is = ap nat_abs (read_back k h) ∙ size-nat k (test_back k h t)
