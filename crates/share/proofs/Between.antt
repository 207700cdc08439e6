-- A share-out stays between its two ends: where neither of from and to is larger than B × 2^-40 s, no boundary after j words is larger than (B + j + 8) × 2^-40 s. So bounds on
-- times do not grow with each other. It holds of any numbers, also of such as no double is: they are counted in parts of the smallest double that are fine enough. Assumes nothing.
use mathlib.Core.Path.{◌≡◌, refl, ap}
use mathlib.Core.List.{List}
use mathlib.Core.Bool.{Bool, true, false}
use Prim.Native.Nat.{ℕ, ◌+◌, ◌-◌, ◌*◌, ◌^◌, ◌≤◌, ◌<◌}
use native.Mathlib.Nat.{le_trans, le_of_eq, mul_comm, mul-pos, mul-le-mul_right, le_of_mul-le-mul_right}
use native.Mathlib.Omega.{arith}
use lib.IntN.{ℤ}
use lib.Pow.{pow_pos}
use lib.ListN.{length, take}
use lib.Ieee.{Float, nan, inf, fin, binary64, low, up, down}
use lib.Ieee.Fits.{down_pos}
use lib.Ieee.Exact.{HasValue}
use Rattle.base.specs.Floats.{◌⊖◌, num, Most}
use Rattle.base.specs.Words.{zero_f}
use Rattle.js.specs.Js.{negative, js_max}
use Rattle.share.specs.Share.{sum, boundary}
use Rattle.share.specs.Drifts.{amount, plus, minus, Counted, farthest}
use Rattle.share.proofs.Sums.{sum-take-most}
use Rattle.share.proofs.Parts.{amount-is, counted}
use Rattle.share.proofs.Steps.{Fair, most-above, most-below}
use Rattle.share.proofs.Rooms.{Ranged, ranged, difference-fair, gap-fair}
use Rattle.share.proofs.Drift.{doubles, boundary-holds}

-- ---- a second has D steps, and a step u smallest numbers: L of these make a second
module _ (L D u : ℕ) (U : 0 < u) (second_is : L ≡ D * u) where
  -- a number of at most B steps, where what it is divided by goes r times into k
  ranged-most : (B : ℕ) (s : Bool) (m : ℕ) (e : ℤ) (k r : ℕ) → k ≡ down e * r → m * up e * D ≤ B * down e → Ranged (L * k) (B * (u * k)) (fin s m e)
  ranged-most B s m e k r split h =
      ranged (L * k) (B * (u * k)) (fin s m e) (counted (L * k) s a (fin s m e) value)
      (le_trans (le_of_eq (amount-is (L * k) s a (fin s m e) value)) (rw (second_is, split) (most (m * up e) (down e) (mul-le-mul_right (u * r) h))))
    where
      a : ℕ
      a = m * up e * (L * r)

      value : HasValue (fin s m e) s a (L * k)
      value = (refl, rw split (arrange (m * up e) (down e)))
        where
          arrange : (x d : ℕ) → x * (L * (d * r)) ≡ x * (L * r) * d
          arrange x d = omega arith

      most : (x d : ℕ) → x * D * (u * r) ≤ B * d * (u * r) → x * (D * u * r) ≤ B * (u * (d * r))
      most x d l = omega arith

  -- and back
  most-ranged : (A k : ℕ) (t : Float) → 0 < k → Counted (L * k) t → plus (L * k) t ≤ minus (L * k) t + A * (u * k) → minus (L * k) t ≤ plus (L * k) t + A * (u * k) → Most (negative t) A D t
  most-ranged A k nan K v h l = v
  most-ranged A k (inf s) K v h l = v
  most-ranged A k (fin s m e) K v h l = (refl, cut (m * up e) (down e) (amount (L * k) (fin s m e)) v.1 (go s h l))
    where
      go : (s : Bool) → plus (L * k) (fin s m e) ≤ minus (L * k) (fin s m e) + A * (u * k) → minus (L * k) (fin s m e) ≤ plus (L * k) (fin s m e) + A * (u * k) → amount (L * k) (fin s m e) ≤ A * (u * k)
      go true h l = omega arith
      go false h l = omega arith

      cut : (x d a : ℕ) → x * (L * k) ≡ a * d → a ≤ A * (u * k) → x * D ≤ A * d
      cut x d a p q =
          let r : a * d ≤ A * (u * k) * d = mul-le-mul_right d q in
          let z : x * (L * k) ≡ x * (D * u * k) = ap (λ (l : ℕ). x * (l * k)) second_is in
          le_of_mul-le-mul_right {k = u * k} (omega arith) (mul-pos U K)

-- ---- the law: both rooms, of letters that are some and few enough
module _ (letters : List ℕ) (some : 0 < sum letters) (small : sum letters < 2 ^ 53) (few : length letters ≤ 4096) (j : ℕ) (h : j ≤ length letters) (B : ℕ) (near : B ≤ farthest) where
  abbrev E : ℕ → ℕ
  E k = 2 ^ 1034 * k

  abbrev c : ℕ → ℕ
  c k = 2 ^ low binary64 * k

  second_is : 2 ^ low binary64 ≡ 2 ^ 40 * 2 ^ 1034
  second_is = refl

  stays : (k : ℕ) → 0 < k → (from room : Float) (gp gn : ℕ) → Fair binary64 1034 k from room (sum letters) gp gn (B * E k)
      → (r : Bool) × Most r (B + j + 8) (2 ^ 40) (boundary letters room (num (sum letters)) from j)
  stays k K from room gp gn fair =
      let t = boundary letters room (num (sum letters)) from j in
      let v = boundary-holds k K letters few from room gp gn (B * E k) fair j h in (
        negative t,
        most-ranged (2 ^ low binary64) (2 ^ 40) (2 ^ 1034) (pow_pos 1034) second_is (B + j + 8) k t K v.is
            (sum-up (plus (c k) t) (minus (c k) t) (E k) (most-above binary64 1034 k K doubles from room (sum letters) gp gn (B * E k) fair (sum (take j letters)) j t v (sum-take-most letters j) (le_trans h few)))
            (sum-up (minus (c k) t) (plus (c k) t) (E k) (most-below binary64 1034 k K doubles from room (sum letters) gp gn (B * E k) fair (sum (take j letters)) j t v (sum-take-most letters j) (le_trans h few))),
      )
    where
      sum-up : (x y E : ℕ) → x ≤ y + (B * E + (j + 8) * E) → x ≤ y + (B + j + 8) * E
      sum-up x y E l = omega arith

  -- the two ends, counted in parts of both
  module _ (s t : Bool) (m n : ℕ) (d e : ℤ) (a : m * up d * 2 ^ 40 ≤ B * down d) (b : n * up e * 2 ^ 40 ≤ B * down e) where
    abbrev k : ℕ
    k = down d * down e

    from-ranged : Ranged (c k) (B * E k) (fin s m d)
    from-ranged = ranged-most (2 ^ low binary64) (2 ^ 40) (2 ^ 1034) (pow_pos 1034) second_is B s m d k (down e) refl a

    to-ranged : Ranged (c k) (B * E k) (fin t n e)
    to-ranged = ranged-most (2 ^ low binary64) (2 ^ 40) (2 ^ 1034) (pow_pos 1034) second_is B t n e k (down d) (mul_comm (down d) (down e)) b

    K : 0 < k
    K = mul-pos (down_pos d) (down_pos e)

    stays-difference : (r : Bool) × Most r (B + j + 8) (2 ^ 40) (boundary letters (fin t n e ⊖ fin s m d) (num (sum letters)) (fin s m d) j)
    stays-difference =
        stays k K (fin s m d) (fin t n e ⊖ fin s m d) (plus (c k) (fin t n e) + minus (c k) (fin s m d)) (minus (c k) (fin t n e) + plus (c k) (fin s m d))
        (difference-fair binary64 1034 k K doubles (sum letters) some small (B * E k) (mul-le-mul_right (E k) near) (fin s m d) (fin t n e) from-ranged to-ranged)

    stays-gap : (r : Bool) × Most r (B + j + 8) (2 ^ 40) (boundary letters (js_max zero_f (fin t n e ⊖ fin s m d)) (num (sum letters)) (fin s m d) j)
    stays-gap =
        stays k K (fin s m d) (js_max zero_f (fin t n e ⊖ fin s m d)) (plus (c k) (fin t n e) + minus (c k) (fin s m d) - (minus (c k) (fin t n e) + plus (c k) (fin s m d))) 0
        (gap-fair binary64 1034 k K doubles (sum letters) some small (B * E k) (mul-le-mul_right (E k) near) (fin s m d) (fin t n e) from-ranged to-ranged)

  -- room = to - from
  pub between : (from to : Float) (s t : Bool) → Most s B (2 ^ 40) from → Most t B (2 ^ 40) to → (r : Bool) × Most r (B + j + 8) (2 ^ 40) (boundary letters (to ⊖ from) (num (sum letters)) from j)
  between nan to s t a b = absurd a
  between (inf q) to s t a b = absurd a
  between (fin q m d) nan s t a b = absurd b
  between (fin q m d) (inf r) s t a b = absurd b
  between (fin q m d) (fin r n e) s t a b = stays-difference q r m n d e a.1 b.1

  -- room = max(0, to - from)
  pub between-forward : (from to : Float) (s t : Bool) → Most s B (2 ^ 40) from → Most t B (2 ^ 40) to → (r : Bool) × Most r (B + j + 8) (2 ^ 40) (boundary letters (js_max zero_f (to ⊖ from)) (num (sum letters)) from j)
  between-forward nan to s t a b = absurd a
  between-forward (inf q) to s t a b = absurd a
  between-forward (fin q m d) nan s t a b = absurd b
  between-forward (fin q m d) (inf r) s t a b = absurd b
  between-forward (fin q m d) (fin r n e) s t a b = stays-gap q r m n d e a.1 b.1
