-- Shares added up from a start on, each share and each sum rounded. After i of them the sum lies within (i + 8) × 2 ^ e of the exact one: 2 ^ e for each sum, 6 for the shares
-- in all, 1 for the room that is shared, and what is left is below 1. A sum lies no farther out than the exact one's two ends and this. Assumes nothing.
use mathlib.Core.Path.{◌≡◌, sym, subst}
use mathlib.Core.Logic.{◌⊎◌, inl, inr}
use mathlib.Core.Bool.{Bool, true, false, cond}
use Prim.Native.Nat.{ℕ, suc, ◌+◌, ◌-◌, ◌*◌, ◌^◌, ◌≤◌, ◌<◌}
use native.Mathlib.Nat.{le_trans, le_of_eq, mul-le-mul_left, mul-le-mul_right, le_of_mul-le-mul_left, le_of_mul-le-mul_right, mul_assoc, mul-pos}
use native.Mathlib.Omega.{arith}
use lib.Pow.{pow_pos}
use lib.Ieee.{Float, Format, prec, low, add}
use lib.Ieee.Exact.{HasValue}
use Rattle.js.specs.Js.{negative}
use Rattle.share.specs.Drifts.{amount, plus, minus, Counted, farthest}
use Rattle.share.proofs.Rounded.{Near}
use Rattle.share.proofs.Parts.{Close, one_side, plus-is, minus_is, counted, finer, add-close}
use Rattle.share.proofs.Portion.{Setting, narrow, top, portion, portion-near}

-- ---- After i shares of the weights S of T the sum is tp - tn, from fp - fn on, and gp - gn is to be shared: it is ahead of the exact one by so much at most. It
-- is behind by as much, if the same holds with each pair turned about.
abbrev Ahead : (T E k fp fn gp gn tp tn S i : ℕ) → Type 0
Ahead T E k fp fn gp gn tp tn S i = T * (tp + fn) + S * gn ≤ T * (tn + fp) + S * gp + i * (T * (E + 2 * k)) + 7 * S * E

-- one share more, dp - dn, and the rounded sum, rp - rn
module _ (T E k fp fn gp gn tp tn S i n dp dn : ℕ) (before : Ahead T E k fp fn gp gn tp tn S i) (share : T * dp + n * gn ≤ T * dn + n * gp + 2 * T * k + 7 * n * E) where
  ahead-next : (rp rn : ℕ) → rp + (tn + dn) ≤ tp + dp + rn + E → Ahead T E k fp fn gp gn rp rn (S + n) (suc i)
  ahead-next rp rn h = let l : T * (rp + (tn + dn)) ≤ T * (tp + dp + rn + E) = mul-le-mul_left T h in omega arith

  -- the sum has room before it is rounded
  ahead-room : (H X : ℕ) → 0 < T → T * fp + (S + n) * gp ≤ T * fn + (S + n) * gn + T * H → suc i * (T * (E + 2 * k)) + 7 * (S + n) * E ≤ T * X → tp + dp ≤ tn + dn + (H + X)
  ahead-room H X P between slack = le_of_mul-le-mul_left {k = T} (omega arith) P

-- what the steps come to
slack : (T E k S i : ℕ) → 8192 * k ≤ E → i ≤ 4096 → S ≤ T → i * (T * (E + 2 * k)) + 7 * S * E ≤ T * ((i + 8) * E)
slack T E k S i h l m =
    let x : i * k ≤ 4096 * k = mul-le-mul_right k l in
    let y : T * (2 * (i * k)) ≤ T * E = mul-le-mul_left T (omega arith) in
    let z : S * E ≤ T * E = mul-le-mul_right E m in omega (arith, y, z)

-- the exact sum lies between its two ends
between : (T S fp fn gp gn H : ℕ) → S ≤ T → fp ≤ fn + H → fp + gp ≤ fn + gn + H → T * fp + S * gp ≤ T * fn + S * gn + T * H
between T S fp fn gp gn H h k l = join (T - S) (split T S h) (mul-le-mul_left (T - S) k) (mul-le-mul_left S l)
  where
    split : (t s : ℕ) → s ≤ t → t ≡ t - s + s
    split t s g = omega arith

    join : (R : ℕ) → T ≡ R + S → R * fp ≤ R * (fn + H) → S * (fp + gp) ≤ S * (fn + gn + H) → T * fp + S * gp ≤ T * fn + S * gn + T * H
    join R e x y = subst (λ (t : ℕ). t * fp + S * gp ≤ t * fn + S * gn + t * H) (sym e) (omega arith)

-- a share of either sign
sided : (s : Bool) (T n q a X k : ℕ) → Near (q * T) (a * n) X
    → (T * cond s 0 (q * k) + n * cond s (a * k) 0 ≤ T * cond s (q * k) 0 + n * cond s 0 (a * k) + X * k) × (T * cond s (q * k) 0 + n * cond s 0 (a * k) ≤ T * cond s 0 (q * k) + n * cond s (a * k) 0 + X * k)
sided s T n q a X k o = go s
  where
    x : q * T * k ≤ (a * n + X) * k
    x = mul-le-mul_right k o.0

    y : a * n * k ≤ (q * T + X) * k
    y = mul-le-mul_right k o.1

    go : (s : Bool) → (T * cond s 0 (q * k) + n * cond s (a * k) 0 ≤ T * cond s (q * k) 0 + n * cond s 0 (a * k) + X * k) × (T * cond s (q * k) 0 + n * cond s 0 (a * k) ≤ T * cond s 0 (q * k) + n * cond s (a * k) 0 + X * k)
    go true = (omega (arith, y), omega (arith, x))
    go false = (omega (arith, x), omega (arith, y))

-- and what the room is off
with-room : (T n u k dp dn rp rn gp gn : ℕ) → 0 < T → T * dp + n * rn ≤ T * dn + n * rp + (6 * n * u + T + 1) * k → rp + gn ≤ gp + rn + u * k → T * dp + n * gn ≤ T * dn + n * gp + 2 * T * k + 7 * n * (u * k)
with-room T n u k dp dn rp rn gp gn P h l =
    let x : n * (rp + gn) ≤ n * (gp + rn + u * k) = mul-le-mul_left n l in
    let y : 1 * k ≤ T * k = mul-le-mul_right k P in omega arith

-- ---- From `from` on gp - gn is shared, and `room` is that but for a rounding; neither end is beyond H. All in k-th parts of the format's smallest value.
pub record Fair (f : Format) (e k : ℕ) (from room : Float) (total gp gn H : ℕ) : Type 0 where
  pub start : Counted (2 ^ low f * k) from
  pub held : Counted (2 ^ low f) room
  pub close : Close (2 ^ low f * k) (2 ^ e * k) gp gn room
  pub some : 0 < total
  pub few : total < 2 ^ 53
  pub start-above : plus (2 ^ low f * k) from ≤ minus (2 ^ low f * k) from + H
  pub start-below : minus (2 ^ low f * k) from ≤ plus (2 ^ low f * k) from + H
  pub end-above : plus (2 ^ low f * k) from + gp ≤ minus (2 ^ low f * k) from + gn + H
  pub end_below : minus (2 ^ low f * k) from + gn ≤ plus (2 ^ low f * k) from + gp + H
  pub near : H ≤ farthest * (2 ^ e * k)

module _ (f : Format) (e k : ℕ) (K : 0 < k) (set : Setting f e) (from room : Float) (total gp gn H : ℕ) (fair : Fair f e k from room total gp gn H) where
  abbrev c : ℕ
  c = 2 ^ low f * k

  abbrev E : ℕ
  E = 2 ^ e * k

  abbrev fp : ℕ
  fp = plus c from

  abbrev fn : ℕ
  fn = minus c from

  abbrev a : ℕ
  a = amount (2 ^ low f) room

  room-finer : HasValue room (negative room) (a * k) c
  room-finer = finer (2 ^ low f) (negative room) (amount (2 ^ low f) room) k room fair.held

  fine : 8192 * k ≤ E
  fine = mul-le-mul_right k set.fine

  -- ---- the room is at most 2 ^ 54 × 2 ^ e in size
  part-most : (E fp fn gp gn rp rn H : ℕ) → (rp ≡ 0) ⊎ (rn ≡ 0) → rp + gn ≤ gp + rn + E → fn ≤ fp + H → fp + gp ≤ fn + gn + H → H ≤ farthest * E → rp ≤ 2 * 2 ^ 53 * E
  part-most E fp fn gp gn rp rn H (inl z) h l m n = omega arith
  part-most E fp fn gp gn rp rn H (inr z) h l m n = omega arith

  room_most : a ≤ 2 * 2 ^ 53 * 2 ^ e
  room_most =
      le_of_mul-le-mul_right {k = k}
      (whole (negative room) (subst (λ (z : ℕ). z ≤ 2 * 2 ^ 53 * E) (plus-is c (negative room) (a * k) room room-finer) above) (subst (λ (z : ℕ). z ≤ 2 * 2 ^ 53 * E) (minus_is c (negative room) (a * k) room room-finer) below)) K
    where
      above : plus c room ≤ 2 * 2 ^ 53 * E
      above = part-most E (plus c from) (minus c from) gp gn (plus c room) (minus c room) H (one_side c room) fair.close.above fair.start-below fair.end-above fair.near

      below : minus c room ≤ 2 * 2 ^ 53 * E
      below = part-most E (minus c from) (plus c from) gn gp (minus c room) (plus c room) H (turn (one_side c room)) (omega (arith, fair.close.below)) fair.start-above fair.end_below fair.near
        where
          turn : {X Y : Type 0} → X ⊎ Y → Y ⊎ X
          turn (inl x) = inr x
          turn (inr y) = inl y

      whole : (s : Bool) → cond s 0 (amount (2 ^ low f) room * k) ≤ 2 * 2 ^ 53 * E → cond s (amount (2 ^ low f) room * k) 0 ≤ 2 * 2 ^ 53 * E → amount (2 ^ low f) room * k ≤ 2 * 2 ^ 53 * 2 ^ e * k
      whole true h l = le_trans l (le_of_eq (sym (mul_assoc (2 * 2 ^ 53) (2 ^ e) k)))
      whole false h l = le_trans h (le_of_eq (sym (mul_assoc (2 * 2 ^ 53) (2 ^ e) k)))

  -- ---- one share, in k-th parts
  record Share (n : ℕ) (d : Float) : Type 0 where
    is : Counted c d
    above : total * plus c d + n * gn ≤ total * minus c d + n * gp + 2 * total * k + 7 * n * E
    below : total * minus c d + n * gp ≤ total * plus c d + n * gn + 2 * total * k + 7 * n * E

  share-near : (n : ℕ) → n ≤ total → Share n (portion f room total n)
  share-near n h =
      let s = negative room in
      let v = portion-near f e set room s a fair.held room_most total n fair.some fair.few h in
      let d = portion f room total n in
      let w = finer (2 ^ low f) s v.0 k d v.1 in
      let p = plus-is c s (v.0 * k) d w in
      let m = minus_is c s (v.0 * k) d w in
      let rp = plus-is c s (a * k) room room-finer in
      let rm = minus_is c s (a * k) room room-finer in
      let o = sided s total n v.0 a (6 * n * 2 ^ e + total + 1) k v.2 in
      record {
        is = counted c s (v.0 * k) d w;
        above = with-room total n (2 ^ e) k (plus c d) (minus c d) (plus c room) (minus c room) gp gn fair.some (rw (p, m, rp, rm) o.0) fair.close.above;
        below = with-room total n (2 ^ e) k (minus c d) (plus c d) (minus c room) (plus c room) gn gp fair.some (rw (p, m, rp, rm) o.1) (omega (arith, fair.close.below));
      }

  -- ---- the sum t after i shares, of the weights S
  pub record Holds (S i : ℕ) (t : Float) : Type 0 where
    pub is : Counted c t
    above : Ahead total E k fp fn gp gn (plus c t) (minus c t) S i
    below : Ahead total E k fn fp gn gp (minus c t) (plus c t) S i

  pub begin : Holds 0 0 from
  begin = record { is = fair.start; above = omega arith; below = omega arith }

  -- ---- the exact sum is not beyond H, and a step's error is not beyond the format
  module _ (S i : ℕ) (h : S ≤ total) (l : i ≤ 4096) where
    steps-most : i * (total * (E + 2 * k)) + 7 * S * E ≤ total * ((i + 8) * E)
    steps-most = slack total E k S i fine l h

    high-most : total * fp + S * gp ≤ total * fn + S * gn + total * H
    high-most = between total S fp fn gp gn H h fair.start-above fair.end-above

    low-most : total * fn + S * gn ≤ total * fp + S * gp + total * H
    low-most = between total S fn fp gn gp H h fair.start-below fair.end_below

  -- ---- one share more
  pub step : (S i n : ℕ) (t : Float) → Holds S i t → S + n ≤ total → suc i ≤ 4096 → Holds (S + n) (suc i) (add f t (portion f room total n))
  step S i n t v h l =
      let d = portion f room total n in
      let w = share-near n (omega arith) in
      let X = (suc i + 8) * E in
      let high : plus c t + plus c d ≤ minus c t + minus c d + (H + X) =
      ahead-room total E k fp fn gp gn (plus c t) (minus c t) S i n (plus c d) (minus c d) v.above w.above H X fair.some (high-most (S + n) (suc i) h l) (steps-most (S + n) (suc i) h l) in
      let low : minus c t + minus c d ≤ plus c t + plus c d + (H + X) =
      ahead-room total E k fn fp gn gp (minus c t) (plus c t) S i n (minus c d) (plus c d) v.below w.below H X fair.some (low-most (S + n) (suc i) h l) (steps-most (S + n) (suc i) h l) in
      let r = add-close f e k K (narrow f e set) t d v.is w.is (under (plus c t + plus c d) (minus c t + minus c d) high) (under (minus c t + minus c d) (plus c t + plus c d) low) in
      record {
        is = r.is;
        above = ahead-next total E k fp fn gp gn (plus c t) (minus c t) S i n (plus c d) (minus c d) v.above w.above (plus c (add f t d)) (minus c (add f t d)) r.above;
        below = ahead-next total E k fn fp gn gp (minus c t) (plus c t) S i n (minus c d) (plus c d) v.below w.below (minus c (add f t d)) (plus c (add f t d)) (omega (arith, r.below));
      }
    where
      under : (x y : ℕ) → x ≤ y + (H + (suc i + 8) * E) → x < y + 2 ^ (suc e + prec f) * k
      under x y g = rw (top f e set k) (room-left (mul-le-mul_right E l) fair.near (mul-pos (pow_pos e) K))
        where
          room-left : suc i * E ≤ 4096 * E → H ≤ farthest * E → 0 < E → x < y + 2 * 2 ^ 53 * E
          room-left u v p = omega arith

  -- ---- how far the sum is from the exact one, times total; and how far out it is
  module _ (S i : ℕ) (t : Float) (v : Holds S i t) (h : S ≤ total) (l : i ≤ 4096) where
    pub exact_above : total * (plus c t + fn) + S * gn ≤ total * (minus c t + fp) + S * gp + total * ((i + 8) * E)
    exact_above = omega (arith, v.above, steps-most S i h l)

    pub exact_below : total * (minus c t + fp) + S * gp ≤ total * (plus c t + fn) + S * gn + total * ((i + 8) * E)
    exact_below = omega (arith, v.below, steps-most S i h l)

    pub most-above : plus c t ≤ minus c t + (H + (i + 8) * E)
    most-above = le_of_mul-le-mul_left {k = total} (omega (arith, exact_above, high-most S i h l)) fair.some

    pub most-below : minus c t ≤ plus c t + (H + (i + 8) * E)
    most-below = le_of_mul-le-mul_left {k = total} (omega (arith, exact_below, low-most S i h l)) fair.some
