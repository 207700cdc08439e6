-- The call `peak` in plain words: accepted exactly when all is within the limits, refused exactly with the first refusal that applies.
-- And its answer: NaN exactly when, +infinity exactly when; this for all times. Assumes nothing.
use Rattle.std.proofs.Common.{◌≡◌, ℕ, ◌≤◌, Bool, false, ◌⊎◌, ◌↔◌, List, [], ◌∷◌, length, get_or, pos, ◌≤ℤ◌, ◌<ℤ◌, refl, inl, inr, arith, ltb-false, le-ltb, Ok, Err}
use lib.Ieee.{Float, nan, inf, binary64, is_nan, of_bits}
use Rattle.base.specs.Refusals.{first, NoneApplies, First, accepts, refuses, Judged, says_of, Listed, Rule, says}
use Rattle.base.proofs.First.{judged}
use Rattle.limits.proofs.Joined.{neither, both-not}
use Rattle.word_calls.specs.Within.{Within}
use Rattle.word_calls.proofs.Within.{within-fine, fine-within}
use Rattle.peak.specs.Peak.{first_sample, end_sample, word_peak, Spanned, tests, by_rule, peak_call}
use Rattle.peak.proofs.Extremes.{range-nan, nan-range, range-top, top-range}

module _ (samples : List Float) (start end : Float) where
  -- no test applies exactly when all is within the limits
  within-exactly : ((length samples ≤ 57600000) × (Within start × Within end)) ↔ NoneApplies (tests samples start end)
  unfolding tests
  within-exactly = (
    λ h. (le-ltb 57600000 (length samples) h.0, (both-not (within-fine start h.1.0) (within-fine end h.1.1), tt)),
    λ n. (let t = neither _ _ n.1.0 in (ltb-false 57600000 (length samples) n.0, (fine-within start t.0, fine-within end t.1))),
  )

  listed : Listed (4 ∷ 1 ∷ []) (tests samples start end)
  unfolding tests
  listed = (inr (inl refl), (inr (inr (inl refl)), tt))

  -- what is said, by what the tests find
  rule-says : (r : Rule) → says (by_rule r samples start end) ≡ says_of (word_peak samples start end) r
  rule-says (Ok u) = refl
  rule-says (Err r) = refl

  -- ---- accepted, with the peak, exactly when the samples and both times are within the limits; refused with n exactly when n is the first that applies, of 4, 1
  pub answers : Judged ((length samples ≤ 57600000) × (Within start × Within end)) (4 ∷ 1 ∷ []) (tests samples start end) (word_peak samples start end) (says (peak_call samples start end))
  unfolding peak_call
  answers = judged (word_peak samples start end) within-exactly listed (rule-says (first (tests samples start end)))

  pub accepted-exactly : ((length samples ≤ 57600000) × (Within start × Within end)) ↔ (says (peak_call samples start end) ≡ accepts (word_peak samples start end))
  accepted-exactly = answers.accepted-exactly

  pub refused-exactly : (n : ℕ) → First n (tests samples start end) ↔ (says (peak_call samples start end) ≡ refuses n)
  refused-exactly = answers.refused-exactly

  -- ---- NaN exactly when the range begins before sample 0 and isn't empty, or a sample in it is NaN
  pub nan-exactly :
      (((first_sample start <ℤ pos 0) × (first_sample start <ℤ end_sample samples end)) ⊎ ((i : ℕ) × (Spanned samples start end i × (get_or samples i nan ≡ nan))))
      ↔ (word_peak samples start end ≡ nan)
  unfolding word_peak of_bits is_nan
  nan-exactly = (λ h. range-nan samples (first_sample start) (end_sample samples end) (of_bits binary64 0) h, nan-range samples (first_sample start) (end_sample samples end) (of_bits binary64 0) refl)

  -- ---- +infinity exactly when the range begins at sample 0 or later, no sample in it is NaN, and one is an infinity, of either sign
  pub infinite-exactly :
      ((pos 0 ≤ℤ first_sample start) × (((i : ℕ) → Spanned samples start end i → get_or samples i nan ≡ nan → ⊥) × ((i : ℕ) × (Spanned samples start end i × ((s : Bool) × (get_or samples i nan ≡ inf s))))))
      ↔ (word_peak samples start end ≡ inf false)
  unfolding word_peak of_bits is_nan
  infinite-exactly = (
    λ h. range-top samples (first_sample start) (end_sample samples end) (of_bits binary64 0) refl h.0 h.1.0 h.1.1,
    top-range samples (first_sample start) (end_sample samples end) (of_bits binary64 0) (λ e. let z : ◌≡◌ {A = ℕ} 0 1 = cc in omega arith),
  )
