-- The call `envelope` in plain words: accepted exactly when all is within the limits, refused exactly with the first refusal that applies, and a refusal changes nothing.
-- And `own_floor`: yes exactly when the floor is the levels' own. Assumes nothing.
use Rattle.std.proofs.Common.{◌≡◌, ℕ, ◌≤◌, true, T, ◌↔◌, List, [], ◌∷◌, length, sym, refl, inl, inr, ltb-false, le-ltb, Ok, Err}
use lib.Ieee.{Float, binary64, fits}
use Rattle.base.specs.Refusals.{first, NoneApplies, First, accepts, refuses, Judged, says_of, Listed, Rule, says}
use Rattle.base.proofs.First.{apart, judged}
use Rattle.envelope.proofs.Floors.{alike_same, alike_self, floor-fits}
use Rattle.envelope.specs.Envelope.{frames, levels, floor, own_floor, tests, by_rule, accepted, envelope_call}

module _ (samples places : List Float) where
  -- no test applies exactly when all is within the limits
  within-exactly : ((length samples ≤ 57600000) × (frames samples ≤ length places)) ↔ NoneApplies (tests samples places)
  unfolding tests
  within-exactly = (
    λ h. (le-ltb 57600000 (length samples) h.0, (le-ltb (length places) (frames samples) h.1, tt)),
    λ n. (ltb-false 57600000 (length samples) n.0, ltb-false (length places) (frames samples) n.1.0),
  )

  listed : Listed (4 ∷ 6 ∷ []) (tests samples places)
  unfolding tests
  listed = (inr (inl refl), (inr (inr (inl refl)), tt))

  -- what is said, by what the tests find
  rule-says : (r : Rule) → says (by_rule r samples places).answer ≡ says_of (floor (levels samples)) r
  unfolding accepted
  rule-says (Ok u) = refl
  rule-says (Err r) = refl

  -- ---- accepted, with the floor, exactly when the samples are within the limit and every frame has a place; refused with n exactly when n is the first that applies, of 4, 6
  pub answers : Judged ((length samples ≤ 57600000) × (frames samples ≤ length places)) (4 ∷ 6 ∷ []) (tests samples places) (floor (levels samples)) (says (envelope_call samples places).answer)
  unfolding envelope_call
  answers = judged (floor (levels samples)) within-exactly listed (rule-says (first (tests samples places)))

  pub accepted-exactly : ((length samples ≤ 57600000) × (frames samples ≤ length places)) ↔ (says (envelope_call samples places).answer ≡ accepts (floor (levels samples)))
  accepted-exactly = answers.accepted-exactly

  pub refused-exactly : (n : ℕ) → First n (tests samples places) ↔ (says (envelope_call samples places).answer ≡ refuses n)
  refused-exactly = answers.refused-exactly

  -- ---- a refusal changes nothing
  pub refusal-keeps : (n : ℕ) → says (envelope_call samples places).answer ≡ refuses n → (envelope_call samples places).places ≡ places
  unfolding envelope_call accepted
  refusal-keeps n = go (first (tests samples places))
    where
      go : (r : Rule) → says (by_rule r samples places).answer ≡ refuses n → (by_rule r samples places).places ≡ places
      go (Ok u) h = apart h
      go (Err r) h = refl

-- ---- a floor is the levels' own exactly when it is the floor that they give
pub own-exactly : (ls : List Float) (f : Float) → T (fits binary64 f) → (own_floor ls f ≡ true) ↔ (f ≡ floor ls)
unfolding own_floor
own-exactly ls f ff = (λ h. sym (alike_same (floor ls) f (floor-fits ls) ff h), λ e. rw e (alike_self (floor ls)))
