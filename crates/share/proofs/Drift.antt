-- How far a share-out drifts: the boundary after j words lies within (j + 8) × 2^-40 s of the exact one, from + room × letters of the first j / letters of all, for any two doubles below
-- 2^13 s in size, at most 4,096 words and from 1 to below 2^53 letters in all, whether the room is to - from, of either sign, or max(0, to - from). In whole numbers of the smallest double: a time is `plus` less `minus` of
-- them, a second is 2^1074 and 2^-40 s are 2^1034, and both sides are times the letters of all. Assumes nothing.
use mathlib.Core.Path.{◌≡◌, refl, sym, ap, subst₂}
use mathlib.Core.List.{List}
use Prim.Native.Nat.{ℕ, zero, suc, ◌+◌, ◌-◌, ◌*◌, ◌^◌, ◌≤◌, ◌<◌}
use native.Mathlib.Nat.{le_trans, le_of_eq, lt_of_lt_of_le, mul-le-mul_right, mul_right_comm, mul-lt-mul_of_pos_right, lt_of_mul-lt-mul_right}
use native.Mathlib.Omega.{arith}
use mathlib.Core.Bool.{Bool, true, false}
use borrow.Author.Tests.{ltb-true, ltb-false}
use lib.Dec.{T, ltb, lit<, lit≤}
use lib.Pow.{pow_pos}
use lib.ListN.{length, take, get_or}
use lib.Ieee.{Float, nan, inf, fin, binary64, up, down, fits}
use lib.Ieee.Scale.{finite}
use Rattle.base.specs.Floats.{◌⊖◌, num}
use Rattle.base.specs.Words.{zero_f}
use Rattle.base.proofs.Units.{gap}
use Rattle.js.specs.Js.{js_max}
use Rattle.share.specs.Share.{sum, boundary}
use Rattle.share.specs.Drifts.{amount, plus, minus, Counted, second, Below, Time, Drifts, farthest}
use Rattle.share.proofs.Sums.{sum-nil, sum-take, sum-take-most}
use Rattle.share.proofs.Parts.{counted-fits}
use Rattle.share.proofs.Portion.{Setting}
use Rattle.share.proofs.Steps.{Fair, Holds, begin, step, exact_above, exact_below}
use Rattle.share.proofs.Boundaries.{boundary-first, boundary-next}
use Rattle.share.proofs.Rooms.{Ranged, ranged, difference-fair, gap-fair}

pub doubles : Setting binary64 1034
doubles = record { digits = refl; wide = lit< tt; fine = lit≤ tt }

-- ---- each boundary is a sum of shares
module _ (k : ℕ) (K : 0 < k) (letters : List ℕ) (few : length letters ≤ 4096) (from room : Float) (gp gn H : ℕ) (fair : Fair binary64 1034 k from room (sum letters) gp gn H) where
  pub boundary-holds : (j : ℕ) → j ≤ length letters → Holds binary64 1034 k K doubles from room (sum letters) gp gn H fair (sum (take j letters)) j (boundary letters room (num (sum letters)) from j)
  boundary-holds zero h =
      subst₂ (λ (S : ℕ) (t : Float). Holds binary64 1034 k K doubles from room (sum letters) gp gn H fair S 0 t) (sym sum-nil) (sym (boundary-first letters room (num (sum letters)) from))
      (begin binary64 1034 k K doubles from room (sum letters) gp gn H fair)
  boundary-holds (suc j) h =
      subst₂ (λ (S : ℕ) (t : Float). Holds binary64 1034 k K doubles from room (sum letters) gp gn H fair S (suc j) t) (sym (sum-take letters j h)) (sym (boundary-next letters room (num (sum letters)) from j))
      (step binary64 1034 k K doubles from room (sum letters) gp gn H fair (sum (take j letters)) j (get_or letters j 0) (boundary letters room (num (sum letters)) from j) (boundary-holds j (omega arith))
      (le_trans (le_of_eq (sym (sum-take letters j h))) (sum-take-most letters (suc j))) (omega arith))

below-finite : (n : ℕ) (x : Float) → Below n x → T (finite x)
below-finite n nan h = h
below-finite n (inf s) h = h
below-finite n (fin s m e) h = tt

-- a double below 2^13 s is a step of 2^-40 s below it, or more: from 2^12 s on doubles lie a step apart
counts-below : (n X D a L : ℕ) → 0 < L → X * L ≡ a * D → X < n * D → a < n * L
counts-below n X D a L Q e l = lt_of_mul-lt-mul_right D (le_trans (le_of_eq (ap suc (sym e))) (le_trans (mul-lt-mul_of_pos_right l Q) (le_of_eq (mul_right_comm n D L))))

on-a-step : (E a c : ℕ) → a ≡ c * E → a < 2 ^ 53 * E → a ≤ farthest * E
on-a-step E a c e l =
    let m : c < 2 ^ 53 = lt_of_mul-lt-mul_right E (le_trans (le_of_eq (ap suc (sym e))) l) in le_trans (le_of_eq e) (mul-le-mul_right E (omega arith))

near-zero : (E a : ℕ) → a < 2 ^ 52 * E → a ≤ farthest * E
near-zero E a l = omega arith

below_steps : (x : Float) → T (fits binary64 x) → Below (2 ^ 13) x → Counted second x → amount second x ≤ farthest * (2 ^ 1034 * 1)
below_steps nan g h v = absurd h
below_steps (inf s) g h v = absurd h
below_steps (fin s m e) g h v = go (ltb a (2 ^ 52 * 2 ^ 1034)) refl
  where
    a : ℕ
    a = amount second (fin s m e)

    plain : (s : Bool) → T (fits binary64 (fin s m e)) → T (fits binary64 (fin false m e))
    plain true f = unfold fits in f
    plain false f = f

    below : a < 2 ^ 53 * 2 ^ 1034
    below = lt_of_lt_of_le (counts-below (2 ^ 13) (m * up e) (down e) a second (pow_pos 1074) v.1 h) (lit≤ tt)

    go : (t : Bool) → ltb a (2 ^ 52 * 2 ^ 1034) ≡ t → a ≤ farthest * (2 ^ 1034 * 1)
    go true t = near-zero (2 ^ 1034) a (ltb-true a (2 ^ 52 * 2 ^ 1034) t)
    go false t =
        let c = gap binary64 (fin false m e) a 1034 (plain s g) (refl, v.1) (ltb-false a (2 ^ 52 * 2 ^ 1034) t) in
        on-a-step (2 ^ 1034) a c.0 c.1 below

-- ---- a step below 2^13 s
abbrev H : ℕ
H = farthest * (2 ^ 1034 * 1)

-- ---- the law of drift
module _ (letters : List ℕ) (from to : Float) (a : Time from) (b : Time to) (some : 0 < sum letters) (small : sum letters < 2 ^ 53) (few : length letters ≤ 4096) (j : ℕ) (h : j ≤ length letters) where
  drifts : (room : Float) (gp gn : ℕ) → Fair binary64 1034 1 from room (sum letters) gp gn H → Drifts from gp gn (sum (take j letters)) (sum letters) j (boundary letters room (num (sum letters)) from j)
  drifts room gp gn fair =
      let v = boundary-holds 1 (lit< tt) letters few from room gp gn H fair j h in
      let t = boundary letters room (num (sum letters)) from j in
      record {
        number = v.is;
        above = exact_above binary64 1034 1 (lit< tt) doubles from room (sum letters) gp gn H fair (sum (take j letters)) j t v (sum-take-most letters j) (le_trans h few);
        below = exact_below binary64 1034 1 (lit< tt) doubles from room (sum letters) gp gn H fair (sum (take j letters)) j t v (sum-take-most letters j) (le_trans h few);
      }

  in-range : (x : Float) → Time x → Ranged (second * 1) H x
  in-range x t =
      let v = counted-fits binary64 x (below-finite (2 ^ 13) x t.near) t.double in ranged (second * 1) H x v (below_steps x t.double t.near v)

  -- room = to - from
  pub drift : Drifts from (plus second to + minus second from) (minus second to + plus second from) (sum (take j letters)) (sum letters) j (boundary letters (to ⊖ from) (num (sum letters)) from j)
  drift =
      drifts (to ⊖ from) (plus second to + minus second from) (minus second to + plus second from)
      (difference-fair binary64 1034 1 (lit< tt) doubles (sum letters) some small H (lit< tt) from to (in-range from a) (in-range to b))

  -- room = max(0, to - from): the difference of natural numbers is 0 where it would be negative
  pub drift-forward : Drifts from (plus second to + minus second from - (minus second to + plus second from)) 0 (sum (take j letters)) (sum letters) j (boundary letters (js_max zero_f (to ⊖ from)) (num (sum letters)) from j)
  drift-forward =
      drifts (js_max zero_f (to ⊖ from)) (plus second to + minus second from - (minus second to + plus second from)) 0
      (gap-fair binary64 1034 1 (lit< tt) doubles (sum letters) some small H (lit< tt) from to (in-range from a) (in-range to b))
