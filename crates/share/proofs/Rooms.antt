-- The two rooms that are shared: a difference of either sign, to - from, and its positive part. Each is the exact one but for one rounding, and the share-out of either ends where
-- `from` or `to` is. Assumes nothing.
use mathlib.Core.Path.{◌≡◌, refl, sym, ◌∙◌}
use mathlib.Core.Logic.{◌⊎◌, inl, inr}
use mathlib.Core.Bool.{Bool, true, false, cond, ◌&&◌, ◌||◌}
use Prim.Native.Nat.{ℕ, suc, ◌+◌, ◌-◌, ◌*◌, ◌/◌, ◌^◌, ◌≤◌, ◌<◌}
use native.Mathlib.Nat.{zero-mul, zero-div, mul-pos}
use native.Mathlib.Omega.{arith}
use borrow.Author.Tests.{ltb-false}
use lib.Dec.{ltb}
use lib.Pow.{pow_pos}
use lib.Ieee.{Float, nan, inf, fin, Format, prec, low, up, down, sub, of_bits, lt, eq, is_nan}
use lib.Ieee.Fits.{sub-fits}
use lib.Ieee.Exact.{HasValue}
use Rattle.base.specs.Words.{zero_f}
use Rattle.js.specs.Js.{negative, under, js_max}
use Rattle.share.specs.Drifts.{amount, plus, minus, Counted, farthest}
use Rattle.share.proofs.Parts.{Close, one_side, plus-is, minus_is, counted, counted-fits, counted-finite, sub-close}
use Rattle.share.proofs.Portion.{Setting, narrow, top}
use Rattle.share.proofs.Steps.{Fair}

-- ---- x is a whole number of c-ths, and at most H of them in size
pub record Ranged (c H : ℕ) (x : Float) : Type 0 where
  pub is : Counted c x
  pub above : plus c x ≤ minus c x + H
  pub below : minus c x ≤ plus c x + H

pub ranged : (c H : ℕ) (x : Float) → Counted c x → amount c x ≤ H → Ranged c H x
ranged c H x v h = let r = go (negative x) in record { is = v; above = r.0; below = r.1 }
  where
    go : (s : Bool) → (cond s 0 (amount c x) ≤ cond s (amount c x) 0 + H) × (cond s (amount c x) 0 ≤ cond s 0 (amount c x) + H)
    go true = (omega arith, omega arith)
    go false = (omega arith, omega arith)

-- ---- Math.max(0, x) is x, or 0 where x is not above it
max-zero : (c : ℕ) (x : Float) → Counted c x → ((js_max zero_f x ≡ x) × (minus c x ≡ 0)) ⊎ ((js_max zero_f x ≡ zero_f) × (plus c x ≡ 0))
unfolding js_max under lt eq is_nan of_bits
max-zero c nan v = absurd v
max-zero c (inf s) v = absurd v
max-zero c (fin true m e) v = go (eq zero_f (fin true m e))
  where
    go : (t : Bool) → ((cond (false || (t && false)) (fin true m e) zero_f ≡ fin true m e) × (minus c (fin true m e) ≡ 0)) ⊎ ((cond (false || (t && false)) (fin true m e) zero_f ≡ zero_f) × (plus c (fin true m e) ≡ 0))
    go true = inr (refl, refl)
    go false = inr (refl, refl)
max-zero c (fin false m e) v = go (ltb (0 * down e) (m * up e * 1)) refl (eq zero_f (fin false m e))
  where
    none : m * up e * 1 ≤ 0 * down e → m * up e * c / down e ≡ 0
    none h = let z : m * up e ≡ 0 = omega arith in rw (z, zero-mul c, zero-div)

    go : (t : Bool) → ltb (0 * down e) (m * up e * 1) ≡ t → (u : Bool)
        → ((cond (t || (u && false)) (fin false m e) zero_f ≡ fin false m e) × (minus c (fin false m e) ≡ 0)) ⊎ ((cond (t || (u && false)) (fin false m e) zero_f ≡ zero_f) × (plus c (fin false m e) ≡ 0))
    go true t u = inl (refl, refl)
    go false t true = inr (refl, none (ltb-false (0 * down e) (m * up e * 1) t))
    go false t false = inr (refl, none (ltb-false (0 * down e) (m * up e * 1) t))

zero-counted : (c : ℕ) → HasValue zero_f false 0 c
unfolding of_bits
zero-counted c = (refl, zero-mul c)

-- ---- from and to, both at most H in size, in k-th parts of the format's smallest value
module _ (f : Format) (e k : ℕ) (K : 0 < k) (set : Setting f e) (total : ℕ) (some : 0 < total) (few : total < 2 ^ 53) where
  abbrev c : ℕ
  c = 2 ^ low f * k

  abbrev E : ℕ
  E = 2 ^ e * k

  module _ (H : ℕ) (near : H ≤ farthest * E) (from to : Float) (a : Ranged c H from) (b : Ranged c H to) where
    difference : Close c E (plus c to + minus c from) (minus c to + plus c from) (sub f to from)
    difference =
        sub-close f e k K (narrow f e set) to from b.is a.is (under (plus c to) (minus c to) (minus c from) (plus c from) b.above a.below) (under (minus c to) (plus c to) (plus c from) (minus c from) b.below a.above)
      where
        under : (x y z w : ℕ) → x ≤ y + H → z ≤ w + H → x + z < y + w + 2 ^ (suc e + prec f) * k
        under x y z w h l = rw (top f e set k) (room-left near (mul-pos (pow_pos e) K))
          where
            room-left : H ≤ farthest * E → 0 < E → x + z < y + w + 2 * 2 ^ 53 * E
            room-left u v = omega arith

    held : Counted (2 ^ low f) (sub f to from)
    held = counted-fits f (sub f to from) (counted-finite c (sub f to from) difference.is) (sub-fits f to from)

    -- ---- the difference, of either sign
    pub difference-fair : Fair f e k from (sub f to from) total (plus c to + minus c from) (minus c to + plus c from) H
    difference-fair = record {
      start = a.is;
      held = held;
      close = difference;
      some = some;
      few = few;
      start-above = a.above;
      start-below = a.below;
      end-above = omega (arith, b.above);
      end_below = omega (arith, b.below);
      near = near;
    }

    -- ---- its positive part
    abbrev gap : ℕ
    gap = (plus c to + minus c from) - (minus c to + plus c from)

    clipped : (r : Float) → Counted (2 ^ low f) r → Counted c r → plus c r ≡ plus c (sub f to from) → minus c r ≡ 0 → Fair f e k from r total gap 0 H
    clipped r v w p m = record {
      start = a.is;
      held = v;
      close = record { is = w; above = above (one_side c (sub f to from)); below = omega (arith, difference.below, p, m) };
      some = some;
      few = few;
      start-above = a.above;
      start-below = a.below;
      end-above = omega (arith, a.above, b.above);
      end_below = omega (arith, a.below);
      near = near;
    }
      where
        above : (plus c (sub f to from) ≡ 0) ⊎ (minus c (sub f to from) ≡ 0) → plus c r + 0 ≤ gap + minus c r + E
        above (inl z) = omega (arith, p)
        above (inr z) = omega (arith, p, difference.above)

    pub gap-fair : Fair f e k from (js_max zero_f (sub f to from)) total gap 0 H
    gap-fair = go (max-zero c (sub f to from) difference.is)
      where
        d : Float
        d = sub f to from

        go : ((js_max zero_f d ≡ d) × (minus c d ≡ 0)) ⊎ ((js_max zero_f d ≡ zero_f) × (plus c d ≡ 0)) → Fair f e k from (js_max zero_f d) total gap 0 H
        go (inl (z, m)) = rw z (clipped d held difference.is refl m)
        go (inr (z, p)) =
            rw z (clipped zero_f (counted (2 ^ low f) false 0 zero_f (zero-counted (2 ^ low f))) (counted c false 0 zero_f (zero-counted c))
            (plus-is c false 0 zero_f (zero-counted c) ∙ sym p) (minus_is c false 0 zero_f (zero-counted c)))
