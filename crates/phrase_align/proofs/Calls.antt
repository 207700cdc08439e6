-- The call `align_phrases` in plain words: accepted exactly when all is within the limits and the places suffice, refused exactly with the first refusal
-- that applies, and that a refusal changes nothing; and for the code what its tests found. By reading what the tests find. Assumes nothing.
use Rattle.std.specs.Prelude.{Result, Ok, Err}
use Prim.Native.Nat.{ℕ}
use mathlib.Core.Path.{◌≡◌, refl, sym, ap, ◌∙◌}
use mathlib.Core.Logic.{◌↔◌}
use mathlib.Core.List.{List, [], ◌∷◌}
use lib.ListN.{length}
use Rattle.base.specs.Words.{Words, Spans, count}
use Rattle.base.specs.Refusals.{NoneApplies, First, Says, accepts, refuses, Judged, says_of, Rule, says}
use Rattle.base.specs.declared.Refusal.{Refusal}
use Rattle.base.proofs.First.{apart, none-fine, judged}
use Rattle.limits.specs.Order.{in_order, chain}
use Rattle.word_calls.specs.Calls.{spans_applies, spans_rule}
use Rattle.word_calls.proofs.Moved.{within-spans, listed-spans, spans-fine}
use Rattle.phrase_align.specs.PhraseAlign.{align_phrases, PlacesWithin, Output, output, accepted, by_rule, align_call}

module _ (ws : Words) (spans : Spans) (phrases : List ℕ) where
  abbrev rule : Rule
  rule = spans_rule ws spans (length phrases) (count ws)

  call_by : {r : Rule} → rule ≡ r → align_call ws spans phrases ≡ by_rule r ws spans phrases
  unfolding align_call
  call_by e = ap (λ (r : Rule). by_rule r ws spans phrases) e

  -- what is said, by what the tests find
  rule-says : (r : Rule) → says (by_rule r ws spans phrases).answer ≡ says_of (count (align_phrases ws spans).words) r
  rule-says (Ok u) = refl
  rule-says (Err why) = refl

  said-fine : (n : ℕ) → says (align_call ws spans phrases).answer ≡ accepts n → rule ≡ Ok tt
  unfolding align_call
  said-fine n = go rule where
    go : (r : Rule) → says (by_rule r ws spans phrases).answer ≡ accepts n → r ≡ Ok tt
    go (Ok u) h = refl
    go (Err why) h = apart (sym h)

  -- no test applies exactly when all is within the limits
  within : rule ≡ Ok tt → PlacesWithin ws spans phrases
  within h = let w = spans-fine ws spans (length phrases) (count ws) h in record { words-within = w.0; spans-within = w.1.0; enough = w.1.1 }

  within-exactly : PlacesWithin ws spans phrases ↔ NoneApplies (in_order (spans_applies ws spans (length phrases) (count ws)))
  within-exactly =
      let e = within-spans ws spans (length phrases) (count ws) in
      (λ w. e.0 (w.words-within, (w.spans-within, w.enough)), λ n. (let w = e.1 n in record { words-within = w.0; spans-within = w.1.0; enough = w.1.1 }))

  fine : PlacesWithin ws spans phrases → rule ≡ Ok tt
  unfolding spans_rule chain
  fine w = none-fine (in_order (spans_applies ws spans (length phrases) (count ws))) (within-exactly.0 w)

  -- ---- Accepted, with the number of words placed, exactly when words and spans are within the limits and there is a phrase place for every word; refused with n exactly when n is
  -- the first that applies, of 3, 4, 1, 2, 6.
  pub answers : Judged (PlacesWithin ws spans phrases) (3 ∷ 4 ∷ 1 ∷ 2 ∷ 6 ∷ []) (in_order (spans_applies ws spans (length phrases) (count ws))) (count (align_phrases ws spans).words) (says (align_call ws spans phrases).answer)
  unfolding align_call spans_rule chain
  answers = judged (count (align_phrases ws spans).words) within-exactly (listed-spans ws spans (length phrases) (count ws)) (rule-says rule)

  pub accepted-exactly : PlacesWithin ws spans phrases ↔ (says (align_call ws spans phrases).answer ≡ accepts (count (align_phrases ws spans).words))
  accepted-exactly = answers.accepted-exactly

  pub refused-exactly : (n : ℕ) → First n (in_order (spans_applies ws spans (length phrases) (count ws))) ↔ (says (align_call ws spans phrases).answer ≡ refuses n)
  refused-exactly = answers.refused-exactly

  -- ---- Accepted, the words are placed.
  pub accepted-leaves : PlacesWithin ws spans phrases → align_call ws spans phrases ≡ accepted (align_phrases ws spans) (count ws) phrases
  accepted-leaves w = call_by (fine w)

  -- ---- And whatever is answered as accepted is that.
  pub accepted-answer : (n : ℕ) → says (align_call ws spans phrases).answer ≡ accepts n
      → PlacesWithin ws spans phrases × ((n ≡ count (align_phrases ws spans).words) × (align_call ws spans phrases ≡ accepted (align_phrases ws spans) (count ws) phrases))
  accepted-answer n h =
      let w = within (said-fine n h) in
      let same : ◌≡◌ {A = Says ℕ} (accepts n) (accepts (count (align_phrases ws spans).words)) = sym h ∙ accepted-exactly.0 w in
      (w, (cc, accepted-leaves w))

  -- ---- A refusal changes nothing.
  pub refusal-keeps : (n : ℕ) → says (align_call ws spans phrases).answer ≡ refuses n → ((align_call ws spans phrases).words ≡ ws) × ((align_call ws spans phrases).phrases ≡ phrases)
  unfolding align_call
  refusal-keeps n = go rule where
    go : (r : Rule) → says (by_rule r ws spans phrases).answer ≡ refuses n → ((by_rule r ws spans phrases).words ≡ ws) × ((by_rule r ws spans phrases).phrases ≡ phrases)
    go (Ok u) h = apart h
    go (Err why) h = (refl, refl)

  -- for the code
  module _ {found : Rule} (is : found ≡ rule) where
    pub refused-made : (why : Refusal) → found ≡ Err why → output (Err why) ws phrases ≡ align_call ws spans phrases
    refused-made why e = sym (call_by (sym is ∙ e))

    pub accepted-made : {o : Output} → found ≡ Ok tt → o ≡ accepted (align_phrases ws spans) (count ws) phrases → o ≡ align_call ws spans phrases
    accepted-made f m = m ∙ sym (call_by (sym is ∙ f))

-- ---- what is left, by equal words
pub left-alike : {answer : Result ℕ Refusal} {ws ws' : Words} {phrases : List ℕ} → ws ≡ ws' → output answer ws phrases ≡ output answer ws' phrases
left-alike e = rw e
