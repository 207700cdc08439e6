-- The floors under two rows of levels, of which the second is 2 ^ t times the first place by place: where some level of each row is at least 1e-9, the
-- peaks are such a pair, and so are the floors. The peaks' 1e-9 is not scaled, but then it lies under a level. Assumes nothing.
use mathlib.Core.Path.{◌≡◌, refl, sym, ap, ◌∙◌, subst}
use mathlib.Core.List.{List, ◌∷◌}
use Prim.Native.Nat.{ℕ, zero, suc, ◌*◌, ◌^◌, ◌≤◌, ◌<◌, max}
use native.Mathlib.Nat.{le_trans, le_refl, le_of_suc-le-suc, not-suc-le-zero, le-max_left, le-max_right, max-eq_left, max-eq_right, max-zero, mul-le-mul_right, zero-mul}
use native.Mathlib.Omega.{arith}
use native.Mathlib.Decide.{dec_le}
use lib.Dec.{T, lit≤, lit<}
use lib.ListN.{length, get_or}
use lib.Ieee.{Float, binary64, le, of_bits}
use lib.Ieee.Bits.{of_bits-fits}
use Rattle.base.specs.Loop.{fold}
use Rattle.base.proofs.Values.{fraction}
use Rattle.js.specs.Js.{js_max}
use Rattle.envelope.specs.Envelope.{zero_f, min_peak, hundredth, peak, floor}
use Rattle.invariance.specs.Scaled.{Pairwise, none, next, LimitReached}
use Rattle.invariance.proofs.Twin.{Holds, Twin, twin-mul}
use Rattle.invariance.proofs.Compare.{le-units, max-holds}

max-mul : (a b k : ℕ) → max (a * k) (b * k) ≡ max a b * k
max-mul a b k = go (dec_le a b)
  where
    go : Dec (a ≤ b) → max (a * k) (b * k) ≡ max a b * k
    go (yes h) = max-eq_right (mul-le-mul_right k h) ∙ ap (λ (n : ℕ). n * k) (sym (max-eq_right h))
    go (no h) = let l : b ≤ a = omega arith in max-eq_left (mul-le-mul_right k l) ∙ ap (λ (n : ℕ). n * k) (sym (max-eq_left l))

max-turn : (a b c : ℕ) → max (max c a) b ≡ max c (max a b)
max-turn a b c = omega arith

-- ---- with 1e-9 being c units
module _ (t c : ℕ) (limit : Holds binary64 min_peak c) where
  -- the maxima so far, of c units and of values that are 2 ^ t times as large in the second row
  record Peak (x y : Float) : Type 0 where
    at : ℕ
    left : Holds binary64 x (max c at)
    right : Holds binary64 y (max c (at * 2 ^ t))

  step : (x y u v : Float) → Peak x y → Twin binary64 t u v → Peak (js_max x u) (js_max y v)
  step x y u v p q =
      let a = p.at in
      let b = q.at in
      record {
        at = max a b;
        left = subst (Holds binary64 (js_max x u)) (max-turn a b c) (max-holds binary64 x u (max c a) b p.left q.left);
        right =
            subst (Holds binary64 (js_max y v)) (max-turn (a * 2 ^ t) (b * 2 ^ t) c ∙ ap (max c) (max-mul a b (2 ^ t)))
            (max-holds binary64 y v (max c (a * 2 ^ t)) (b * 2 ^ t) p.right q.right);
      }

  -- the maxima at the end: no level is above them
  record Top (x y : Float) (ls ms : List Float) (from : ℕ) : Type 0 where
    peaks : Peak (fold js_max x ls) (fold js_max y ms)
    grown : from ≤ peaks.at
    first : LimitReached ls → c ≤ peaks.at
    second : LimitReached ms → c ≤ peaks.at * 2 ^ t

  -- one level more in front
  longer : (x y u v : Float) (ls ms : List Float) (p : Peak x y) (q : Twin binary64 t u v) → Top (js_max x u) (js_max y v) ls ms (max p.at q.at) → Top x y (u ∷ ls) (v ∷ ms) p.at
  unfolding fold
  longer x y u v ls ms p q r =
      record {
        peaks = r.peaks;
        grown = le_trans (le-max_left p.at q.at) r.grown;
        first = λ h. first h.0 h.1 h.2;
        second = λ h. second h.0 h.1 h.2;
      }
    where
      above : q.at ≤ r.peaks.at
      above = le_trans (le-max_right p.at q.at) r.grown

      first : (i : ℕ) → i < suc (length ls) → T (le min_peak (get_or (u ∷ ls) i zero_f)) → c ≤ r.peaks.at
      first zero l h = le_trans (le-units binary64 min_peak u c q.at limit q.left h) above
      first (suc i) l h = r.first (i, le_of_suc-le-suc l, h)

      second : (i : ℕ) → i < suc (length ms) → T (le min_peak (get_or (v ∷ ms) i zero_f)) → c ≤ r.peaks.at * 2 ^ t
      second zero l h = le_trans (le-units binary64 min_peak v c (q.at * 2 ^ t) limit q.right h) (mul-le-mul_right (2 ^ t) above)
      second (suc i) l h = r.second (i, le_of_suc-le-suc l, h)

  top : {ls ms : List Float} → Pairwise (Twin binary64 t) ls ms → (x y : Float) (p : Peak x y) → Top x y ls ms p.at
  unfolding fold step
  top none x y p = record { peaks = p; grown = le_refl p.at; first = λ h. absurd (not-suc-le-zero h.1); second = λ h. absurd (not-suc-le-zero h.1) }
  top (next {x = u} {y = v} {xs = ls} {ys = ms} q e) x y p = longer x y u v ls ms p q (top e (js_max x u) (js_max y v) (step x y u v p q))

  peak-twin : {ls ms : List Float} → Pairwise (Twin binary64 t) ls ms → LimitReached ls → LimitReached ms → (p : Twin binary64 t (peak ls) (peak ms)) × (c ≤ p.at)
  unfolding peak
  peak-twin {ls} {ms} e h g =
      let start : Peak min_peak min_peak = record {
        at = 0;
        left = subst (Holds binary64 min_peak) (sym (max-zero c)) limit;
        right = subst (Holds binary64 min_peak) (sym (ap (max c) (zero-mul (2 ^ t)) ∙ max-zero c)) limit;
      } in
      let r = top e min_peak min_peak start in (
        record {
          at = r.peaks.at;
          left = subst (Holds binary64 (fold js_max min_peak ls)) (max-eq_right (r.first h)) r.peaks.left;
          right = subst (Holds binary64 (fold js_max min_peak ms)) (max-eq_right (r.second g)) r.peaks.right;
        },
        r.first h,
      )

-- ---- the doubles 1e-9, in units, and 0.01, times 2 ^ 59
abbrev limit_units : ℕ
limit_units = 4835703278458517 * 2 ^ 992

abbrev hundredth_part : ℕ
hundredth_part = 5764607523034235

limit-value : Holds binary64 min_peak limit_units
unfolding of_bits
limit-value = ((refl, refl), of_bits-fits binary64 0x3e11_2e0b_e826_d695)

pub floor-twin : (t : ℕ) {ls ms : List Float} → Pairwise (Twin binary64 t) ls ms → LimitReached ls → LimitReached ms → Twin binary64 t (floor ls) (floor ms)
unfolding floor of_bits
floor-twin t {ls} {ms} e h g =
    let p = peak-twin t limit_units limit-value e h g in
    twin-mul binary64 t (peak ls) (peak ms) hundredth hundredth_part (2 ^ 59) (fraction hundredth hundredth_part (2 ^ 59) (refl, refl)) (lit< tt) (lit≤ tt) p.0
    (le_trans (lit≤ tt) (mul-le-mul_right hundredth_part p.1))
