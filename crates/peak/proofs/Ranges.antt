-- The largest magnitude in a range of samples, by where the range begins. Before sample 0 the first turn gives NaN, which stays;
-- from sample 0 on the range ends at a sample. Assumes nothing.
use Rattle.std.proofs.Common.{◌≡◌, ℕ, zero, suc, ◌+◌, ◌-◌, min, Bool, true, false, cond, ltb, List, length, ℤ, pos, negsuc, sym, refl, ap, ◌∙◌, ap₂, true≢false, arith, ltb-false, ltb-true}
use lib.IntN.{suc_ℤ}
use lib.Signed.{lt_z}
use lib.Ieee.{Float, nan, inf, fin, binary64, is_nan, mul, of_bits}
use Rattle.base.specs.Whole.{to_nat, min_z}
use Rattle.base.specs.Loop.{on, run, range}
use Rattle.base.proofs.Loops.{subℕ-nat, lt_z-nat, min-nat, run-done, range-pos, range-end}
use Rattle.js.specs.Js.{js_max}
use Rattle.frames.specs.Frames.{rate, floor_i64, ceil_i64}
use Rattle.peak.specs.Peak.{sample_at, peak_turn, word_peak}

pub max-nan : (x : Float) → js_max x nan ≡ nan
unfolding js_max is_nan
max-nan nan = refl
max-nan (inf s) = refl
max-nan (fin s m e) = refl

pub nan-max : (x : Float) → js_max nan x ≡ nan
unfolding js_max is_nan
nan-max x = refl

-- a range that begins before sample 0 is empty whatever the number of samples, or never
lt_z-min : (n : ℕ) (a c : ℤ) → lt_z a (pos 0) ≡ true → lt_z a (min_z (pos n) c) ≡ lt_z a c
lt_z-min n (pos k) c h = absurd (omega (arith, ltb-true k 0 h))
lt_z-min n (negsuc k) (pos m) h = go (ltb m n)
  where
    go : (t : Bool) → lt_z (negsuc k) (cond t (pos m) (pos n)) ≡ true
    go true = refl
    go false = refl
lt_z-min n (negsuc k) (negsuc m) h = refl

pos-nat : (a : ℤ) → lt_z a (pos 0) ≡ false → pos (to_nat a) ≡ a
pos-nat (pos n) h = refl
pos-nat (negsuc n) h = absurd (true≢false h)

module _ (samples : List Float) where
  pub nan-stays : (n : ℕ) (k : ℤ) → run (peak_turn samples) n k (on nan) ≡ nan
  unfolding run
  nan-stays zero k = refl
  nan-stays (suc n) k = ap (λ (q : Float). run (peak_turn samples) n (suc_ℤ k) (on q)) (nan-max (sample_at samples k)) ∙ nan-stays n (suc_ℤ k)

  -- a turn before sample 0
  nan-turn : (n j : ℕ) (p : Float) → run (peak_turn samples) (suc n) (negsuc j) (on p) ≡ nan
  unfolding run
  nan-turn n j p = ap (λ (q : Float). run (peak_turn samples) n (suc_ℤ (negsuc j)) (on q)) (max-nan p) ∙ nan-stays n (suc_ℤ (negsuc j))

  pub before : (a b : ℤ) (p : Float) → lt_z a (pos 0) ≡ true → lt_z a b ≡ true → range (peak_turn samples) a b p ≡ nan
  before (pos k) b p h t = absurd (omega (arith, ltb-true k 0 h))
  before (negsuc j) (pos m) p h t = let z : m + suc j ≡ suc (m + j) = omega arith in rw z (nan-turn (m + j) j p)
  before (negsuc j) (negsuc m) p h t =
      let z : suc j - suc m ≡ suc (j - suc m) = omega (arith, ltb-true m j t) in
      rw (subℕ-nat (suc j) (suc m), z) (nan-turn (j - suc m) j p)

  pub none : (a b : ℤ) (p : Float) → lt_z a b ≡ false → range (peak_turn samples) a b p ≡ p
  none (pos k) b p h = range-end (peak_turn samples) k b p ∙ run-done (peak_turn samples) (to_nat b) k p (ltb-false k (to_nat b) (sym (lt_z-nat k b) ∙ h))
  none (negsuc j) (pos m) p h = absurd (true≢false h)
  none (negsuc j) (negsuc m) p h =
      let z : suc j - suc m ≡ 0 = omega (arith, ltb-false m j h) in
      rw (subℕ-nat (suc j) (suc m), z) (unfold run in refl)

  -- from sample 0 on
  from : (a : ℕ) (c : ℤ) (p : Float) → range (peak_turn samples) (pos a) (pos (min (length samples) (to_nat c))) p ≡ range (peak_turn samples) (pos a) (min_z (pos (length samples)) c) p
  from a c p = range-pos (peak_turn samples) a (min (length samples) (to_nat c)) p ∙ sym (range-end (peak_turn samples) a (min_z (pos (length samples)) c) p ∙ rw (min-nat (length samples) c))

-- ---- the code's cases, by the first sample a and the sample c that the end rounds up to
module _ (samples : List Float) (start end : Float) {a c : ℤ} (ea : a ≡ floor_i64 (mul binary64 start rate)) (ec : c ≡ ceil_i64 (mul binary64 end rate)) where
  peak-is : range (peak_turn samples) a (min_z (pos (length samples)) c) (of_bits binary64 0) ≡ word_peak samples start end
  unfolding word_peak
  peak-is = ap₂ (λ (x y : ℤ). range (peak_turn samples) x (min_z (pos (length samples)) y) (of_bits binary64 0)) ea ec

  pub peak-before : lt_z a (pos 0) ≡ true → lt_z a c ≡ true → nan ≡ word_peak samples start end
  peak-before h t = sym (before samples a (min_z (pos (length samples)) c) (of_bits binary64 0) h (lt_z-min (length samples) a c h ∙ t)) ∙ peak-is

  pub peak-none : lt_z a (pos 0) ≡ true → lt_z a c ≡ false → of_bits binary64 0 ≡ word_peak samples start end
  peak-none h t = sym (none samples a (min_z (pos (length samples)) c) (of_bits binary64 0) (lt_z-min (length samples) a c h ∙ t)) ∙ peak-is

  pub peak-from : {i j : ℕ} {r : Float} → lt_z a (pos 0) ≡ false → i ≡ to_nat a → j ≡ min (length samples) (to_nat c) → r ≡ range (peak_turn samples) (pos i) (pos j) (of_bits binary64 0) → r ≡ word_peak samples start end
  peak-from h p q e =
      rw (p, q) at e
      ∙ from samples (to_nat a) c (of_bits binary64 0)
      ∙ ap (λ (x : ℤ). range (peak_turn samples) x (min_z (pos (length samples)) c) (of_bits binary64 0)) (pos-nat a h)
      ∙ peak-is
