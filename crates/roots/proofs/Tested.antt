-- A guess y is √A to the nearest where A lies above y * y - y and not above y * y + y; and that is found in halves of 26 digits: with
-- y = h * 2^26 + l, what y * y leaves of a * 2^52 is ((a - h * h) * 2^25 - h * l) * 2^27 - l * l. Assumes nothing.
use Prim.Native.Nat.{ℕ, zero, suc, ◌+◌, ◌-◌, ◌*◌, ◌/◌, ◌%◌, ◌^◌, ◌≤◌, ◌<◌}
use mathlib.Core.Bool.{Bool, true, false}
use mathlib.Core.Path.{◌≡◌, refl, sym}
use native.Mathlib.Omega.{arith}
use borrow.Author.Tests.{leb-true, leb-false}
use lib.Dec.{leb}
use Rattle.roots.specs.Sqrt.{near_root}
use Rattle.roots.proofs.Root.{near_up, near_down}

-- the square of the number before y
before-sq : (q : ℕ) → suc q * suc q ≡ q * q + 2 * q + 1
before-sq q = omega arith

near-is : (A y : ℕ) → 0 < y → y * y < A + y → A ≤ y * y + y → y ≡ near_root A 1
near-is A zero some low high = absurd (omega arith)
near-is A (suc q) some low high = go (leb (suc q * suc q) A) refl where
  go : (t : Bool) → leb (suc q * suc q) A ≡ t → suc q ≡ near_root A 1
  go true t = let k = leb-true (suc q * suc q) A t in sym (near_down A (suc q) (A - suc q * suc q) (omega arith) (omega arith) (omega arith))
  go false t =
      let k = leb-false (suc q * suc q) A t in
      let s = before-sq q in
      let n = near_up A q (A - q * q) (omega arith) (omega arith) (omega arith) in omega arith

-- y * y in halves
halves-sq : (h l : ℕ) → (h * 2 ^ 26 + l) * (h * 2 ^ 26 + l) ≡ h * h * 2 ^ 52 + h * l * 2 ^ 27 + l * l
halves-sq h l = omega arith

module _ (a y h l c : ℕ) (some : 0 < y) (ey : y ≡ h * 2 ^ 26 + l) (ea : a ≡ h * h + c) where
  root-above : (e : ℕ) → c * 2 ^ 25 ≡ h * l + e → l * l < e * 2 ^ 27 + y → e * 2 ^ 27 ≤ l * l + y → y ≡ near_root (a * 2 ^ 52) 1
  root-above e ec low high =
      let s : y * y ≡ h * h * 2 ^ 52 + h * l * 2 ^ 27 + l * l = rw ey (halves-sq h l) in
      near-is (a * 2 ^ 52) y some (omega arith) (omega arith)

  root_below : (n : ℕ) → h * l ≡ c * 2 ^ 25 + n → l * l + n * 2 ^ 27 < y → y ≡ near_root (a * 2 ^ 52) 1
  root_below n en low =
      let s : y * y ≡ h * h * 2 ^ 52 + h * l * 2 ^ 27 + l * l = rw ey (halves-sq h l) in
      near-is (a * 2 ^ 52) y some (omega arith) (omega arith)

-- ---- the code's tests, of y and a
module _ (a y : ℕ) (some : 0 < y) (high : y / 2 ^ 26 * (y / 2 ^ 26) ≤ a) where
  abbrev left : ℕ
  left = (a - y / 2 ^ 26 * (y / 2 ^ 26)) * 2 ^ 25

  abbrev product : ℕ
  product = y / 2 ^ 26 * (y % 2 ^ 26)

  pub tested-above : product ≤ left → (y % 2 ^ 26 * (y % 2 ^ 26) < (left - product) * 2 ^ 27 + y) × ((left - product) * 2 ^ 27 ≤ y % 2 ^ 26 * (y % 2 ^ 26) + y)
      → y ≡ near_root (a * 2 ^ 52) 1
  tested-above l t = root-above a y (y / 2 ^ 26) (y % 2 ^ 26) (a - y / 2 ^ 26 * (y / 2 ^ 26)) some (omega arith) (omega arith) (left - product) (omega arith) t.0 t.1

  pub tested-below : left < product → y % 2 ^ 26 * (y % 2 ^ 26) + (product - left) * 2 ^ 27 < y → y ≡ near_root (a * 2 ^ 52) 1
  tested-below l t = root_below a y (y / 2 ^ 26) (y % 2 ^ 26) (a - y / 2 ^ 26 * (y / 2 ^ 26)) some (omega arith) (omega arith) (product - left) (omega arith) t
