-- The call `tally` in plain words, and for the code what its tests found. By reading what the tests find. Assumes nothing.
use Rattle.std.specs.Prelude.{Ok, Err}
use Prim.Native.Nat.{ℕ, ◌≤◌, ◌^◌}
use mathlib.Core.Path.{◌≡◌, refl, sym, ◌∙◌}
use mathlib.Core.Logic.{◌↔◌}
use mathlib.Core.List.{List, [], ◌∷◌, ◌++◌}
use lib.ListN.{length, drop}
use lib.Ieee.{Float}
use Rattle.base.specs.Words.{Words, Spans, edges}
use Rattle.base.specs.declared.Refusal.{Refusal}
use Rattle.base.specs.Refusals.{First, accepts, refuses, Judged, says_of, Rule, says}
use Rattle.base.proofs.First.{apart, judged}
use Rattle.limits.specs.Order.{in_order, chain}
use Rattle.word_calls.specs.Within.{PhrasesWithin}
use Rattle.word_calls.specs.Calls.{phrases_applies, phrases_rule}
use Rattle.word_calls.proofs.Moved.{within-phrases, listed-phrases, phrases-fine, few-levels}
use Rattle.envelope.specs.Envelope.{loud_row}
use Rattle.tally.specs.Tally.{tallies, output, by_rule, tally_call}

module _ (ws : Words) (phrases : List ℕ) (spans : Spans) (levels : List Float) (floor : Float) (samples : ℕ) (places : List ℕ) where
  -- how many spans there are, and their tallies
  abbrev many : ℕ
  many = length spans.starts

  abbrev given : List ℕ
  given = tallies (loud_row floor levels) phrases (edges ws.starts ws.ends) many

  abbrev rule : Rule
  rule = phrases_rule ws (length phrases) spans (length levels) samples (length places) many

  -- what is said, by what the tests find
  rule-says : (r : Rule) → says (by_rule r given many places).answer ≡ says_of tt r
  rule-says (Ok u) = refl
  rule-says (Err q) = refl

  -- ---- accepted exactly when words, samples and levels and spans are within the limits, each word has a phrase number, and each span a place; refused with n exactly when n is
  -- the first that applies, of 3, 4, 1, 2, 7, 6
  pub answers : Judged (PhrasesWithin ws (length phrases) spans (length levels) samples (length places) many) (3 ∷ 4 ∷ 1 ∷ 2 ∷ 7 ∷ 6 ∷ [])
      (in_order (phrases_applies ws (length phrases) spans (length levels) samples (length places) many)) tt (says (tally_call ws phrases spans levels floor samples places).answer)
  unfolding tally_call phrases_rule chain
  answers =
      judged tt (within-phrases ws (length phrases) spans (length levels) samples (length places) many) (listed-phrases ws (length phrases) spans (length levels) samples (length places) many)
      (rule-says rule)

  pub accepted-exactly : PhrasesWithin ws (length phrases) spans (length levels) samples (length places) many ↔ (says (tally_call ws phrases spans levels floor samples places).answer ≡ accepts tt)
  accepted-exactly = answers.accepted-exactly

  pub refused-exactly : (n : ℕ)
      → First n (in_order (phrases_applies ws (length phrases) spans (length levels) samples (length places) many)) ↔ (says (tally_call ws phrases spans levels floor samples places).answer ≡ refuses n)
  refused-exactly = answers.refused-exactly

  -- ---- accepted, the places hold the tallies, and behind them what they held
  pub accepted-places : says (tally_call ws phrases spans levels floor samples places).answer ≡ accepts tt → (tally_call ws phrases spans levels floor samples places).places ≡ given ++ drop many places
  unfolding tally_call
  accepted-places = go rule where
    go : (r : Rule) → says (by_rule r given many places).answer ≡ accepts tt → (by_rule r given many places).places ≡ given ++ drop many places
    go (Ok u) h = refl
    go (Err q) h = apart (sym h)

  -- ---- a refusal changes nothing
  pub refusal-keeps : (n : ℕ) → says (tally_call ws phrases spans levels floor samples places).answer ≡ refuses n → (tally_call ws phrases spans levels floor samples places).places ≡ places
  unfolding tally_call
  refusal-keeps n = go rule where
    go : (r : Rule) → says (by_rule r given many places).answer ≡ refuses n → (by_rule r given many places).places ≡ places
    go (Ok u) h = apart h
    go (Err q) h = refl

-- ---- for the code: what it needs where the tests find nothing
module _ (ws : Words) (phrases : ℕ) (spans : Spans) (levels samples places : ℕ) {found : Rule}
    (is : found ≡ phrases_rule ws phrases spans levels samples places (length spans.starts)) (fine : found ≡ Ok tt) where
  within : PhrasesWithin ws phrases spans levels samples places (length spans.starts)
  within = phrases-fine ws phrases spans levels samples places (length spans.starts) (sym is ∙ fine)

  pub enough : length spans.starts ≤ places
  enough = within.1.1.1

  pub ready : (levels ≤ 2 ^ 40) × ((length ws.starts ≤ 4096) × ((length ws.ends ≡ length ws.starts) × (phrases ≡ length ws.starts)))
  ready = let w = within.0.0 in (few-levels within.0.1, (w.few, (w.ends-as-long, within.1.0)))

-- ---- and what it answers and leaves
module _ (ws : Words) (phrases : List ℕ) (spans : Spans) (levels : List Float) (floor : Float) (samples : ℕ) (places : List ℕ) {found : Rule}
    (is : found ≡ phrases_rule ws (length phrases) spans (length levels) samples (length places) (length spans.starts)) where
  pub refused-made : (r : Refusal) → found ≡ Err r → output (Err r) places ≡ tally_call ws phrases spans levels floor samples places
  unfolding tally_call
  refused-made r e = rw (← is, e)

  pub accepted-made : {mid : List ℕ} → found ≡ Ok tt
      → mid ≡ tallies (loud_row floor levels) phrases (edges ws.starts ws.ends) (length spans.starts)
      → output (Ok tt) (mid ++ drop (length spans.starts) places) ≡ tally_call ws phrases spans levels floor samples places
  unfolding tally_call
  accepted-made fine e = rw (← is, fine, e)
