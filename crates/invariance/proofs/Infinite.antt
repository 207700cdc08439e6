-- Two values that are both +infinity, beside the pairs of `Twin`: their sums with such pairs. Where a level is infinite, so are the peaks and the
-- floors; then no frame is loud, and all are quiet. Assumes nothing.
use mathlib.Core.Path.{◌≡◌, refl, sym, ap, ap₂, ◌∙◌}
use mathlib.Core.Logic.{◌⊎◌, inl, inr, ⊎_elim}
use mathlib.Core.Bool.{Bool, true, false, cond, true≢false}
use mathlib.Core.List.{List}
use Prim.Native.Nat.{ℕ, ◌*◌, ◌^◌}
use lib.Ieee.{Float, nan, inf, fin, binary64, add, mul, lt, eq, le, is_nan, of_bits}
use Rattle.base.specs.Loop.{fold}
use Rattle.js.specs.Js.{under, js_max}
use Rattle.envelope.specs.Envelope.{min_peak, hundredth, peak, floor, loud_row, quiet_row}
use Rattle.invariance.specs.Scaled.{Pairwise, none, next}
use Rattle.invariance.proofs.Lists.{pairwise-tests}
use Rattle.invariance.proofs.Twin.{Holds, Twin}

abbrev pub Infinite : Float → Float → Type 0
Infinite x y = (x ≡ inf false) × (y ≡ inf false)

-- ---- the second is 2 ^ t times the first, also where both are +infinity
abbrev pub Pair : ℕ → Float → Float → Type 0
Pair t x y = Twin binary64 t x y ⊎ Infinite x y

-- ---- sums
pub add-infinite : (x : Float) (a : ℕ) {y : Float} → Holds binary64 x a → y ≡ inf false → add binary64 x y ≡ inf false
unfolding add
add-infinite nan a h e = absurd h.0
add-infinite (inf s) a h e = absurd h.0
add-infinite (fin s m d) a h e = ap (add binary64 (fin s m d)) e

pub infinite-add : {x : Float} (y : Float) (a : ℕ) → x ≡ inf false → Holds binary64 y a → add binary64 x y ≡ inf false
unfolding add
infinite-add nan a e h = absurd h.0
infinite-add (inf s) a e h = absurd h.0
infinite-add (fin s m d) a e h = ap (λ (z : Float). add binary64 z (fin s m d)) e

pub both-infinite : {x y : Float} → x ≡ inf false → y ≡ inf false → add binary64 x y ≡ inf false
unfolding add
both-infinite e d = ap₂ (add binary64) e d

-- ---- neither of a pair is NaN
number : (x : Float) (a : ℕ) → Holds binary64 x a → is_nan x ≡ false
unfolding is_nan
number nan a h = absurd h.0
number (inf s) a h = refl
number (fin s m e) a h = refl

infinite_number : {x : Float} → x ≡ inf false → is_nan x ≡ false
unfolding is_nan
infinite_number e = ap is_nan e

numbers : (t : ℕ) (x y : Float) → Pair t x y → (is_nan x ≡ false) × (is_nan y ≡ false)
numbers t x y (inl p) = (number x p.at p.left, number y (p.at * 2 ^ t) p.right)
numbers t x y (inr p) = (infinite_number p.0, infinite_number p.1)

-- ---- maxima of numbers
max-number : (x y : Float) → is_nan x ≡ false → is_nan y ≡ false → is_nan (js_max x y) ≡ false
unfolding js_max
max-number x y h k = rw (h, k) (go (under x y))
  where
    go : (t : Bool) → is_nan (cond t y x) ≡ false
    go true = k
    go false = h

max-infinite : (x : Float) {y : Float} → is_nan x ≡ false → y ≡ inf false → js_max x y ≡ inf false
unfolding js_max under is_nan lt eq
max-infinite nan h e = absurd (true≢false h)
max-infinite (inf true) h e = ap (js_max (inf true)) e
max-infinite (inf false) h e = ap (js_max (inf false)) e
max-infinite (fin s m d) h e = ap (js_max (fin s m d)) e

infinite-max : {x : Float} (y : Float) → is_nan y ≡ false → x ≡ inf false → js_max x y ≡ inf false
unfolding js_max under is_nan lt eq
infinite-max nan h e = absurd (true≢false h)
infinite-max (inf true) h e = ap (λ (z : Float). js_max z (inf true)) e
infinite-max (inf false) h e = ap (λ (z : Float). js_max z (inf false)) e
infinite-max (fin s m d) h e = ap (λ (z : Float). js_max z (fin s m d)) e

stays : (t : ℕ) {ls ms : List Float} → Pairwise (Pair t) ls ms → (x y : Float) → Infinite x y → Infinite (fold js_max x ls) (fold js_max y ms)
unfolding fold
stays t none x y p = p
stays t (next {x = u} {y = v} q e) x y p =
    let n = numbers t u v q in stays t e (js_max x u) (js_max y v) (infinite-max u n.0 p.0, infinite-max v n.1 p.1)

maxima : (t : ℕ) {ls ms : List Float} → Pairwise (Pair t) ls ms → (x y : Float) → is_nan x ≡ false → is_nan y ≡ false
    → Pairwise (Twin binary64 t) ls ms ⊎ Infinite (fold js_max x ls) (fold js_max y ms)
unfolding fold
maxima t none x y m n = inl none
maxima t (next {x = u} {y = v} (inl q) e) x y m n =
    let o = numbers t u v (inl q) in
    ⊎_elim (λ r. inl (next q r)) inr (maxima t e (js_max x u) (js_max y v) (max-number x u m o.0) (max-number y v n o.1))
maxima t (next {x = u} {y = v} (inr q) e) x y m n = inr (stays t e (js_max x u) (js_max y v) (max-infinite x m q.0, max-infinite y n q.1))

-- ---- all levels are finite, or both floors are infinite
floor-infinite : {x : Float} → x ≡ inf false → mul binary64 x hundredth ≡ inf false
unfolding mul of_bits
floor-infinite e = ap (λ (z : Float). mul binary64 z hundredth) e

pub finite-or-not : (t : ℕ) {ls ms : List Float} → Pairwise (Pair t) ls ms → Pairwise (Twin binary64 t) ls ms ⊎ Infinite (floor ls) (floor ms)
unfolding floor peak is_nan of_bits
finite-or-not t e = ⊎_elim inl (λ p. inr (floor-infinite p.0, floor-infinite p.1)) (maxima t e min_peak min_peak refl refl)

-- ---- under an infinite floor no frame is loud, and all are quiet
not-above : {f : Float} (x : Float) → f ≡ inf false → lt f x ≡ false
unfolding lt
not-above nan e = ap (λ (z : Float). lt z nan) e
not-above (inf s) e = ap (λ (z : Float). lt z (inf s)) e
not-above (fin s m d) e = ap (λ (z : Float). lt z (fin s m d)) e

at_most : {f : Float} (x : Float) → is_nan x ≡ false → f ≡ inf false → le x f ≡ true
unfolding is_nan le lt eq
at_most nan h e = absurd (true≢false h)
at_most (inf true) h e = ap (le (inf true)) e
at_most (inf false) h e = ap (le (inf false)) e
at_most (fin s m d) h e = ap (le (fin s m d)) e

pub rows-infinite : (t : ℕ) {ls ms : List Float} (f g : Float) → Pairwise (Pair t) ls ms → Infinite f g → (loud_row f ls ≡ loud_row g ms) × (quiet_row f ls ≡ quiet_row g ms)
unfolding loud_row quiet_row
rows-infinite t f g e p = (
  pairwise-tests (λ v. lt f v) (λ v. lt g v) (λ x y q. not-above x p.0 ∙ sym (not-above y p.1)) e,
  pairwise-tests (λ v. le v f) (λ v. le v g) (λ x y q. let n = numbers t x y q in at_most x n.0 p.0 ∙ sym (at_most y n.1 p.1)) e,
)
