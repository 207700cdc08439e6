-- The public call in plain words: accepted exactly when the words are within the limits, refused exactly with the first refusal that applies; what is counted and said,
-- and that a refusal changes nothing. By reading what the checks found. Assumes nothing.
use Rattle.loops.specs.declared.Left.{Left}
use Rattle.std.specs.Prelude.{Ok, Err}
use Prim.Native.Nat.{ℕ, ◌≤◌}
use mathlib.Core.Path.{◌≡◌, refl, sym, ap, ◌∙◌}
use mathlib.Core.Bool.{Bool}
use mathlib.Core.Logic.{◌↔◌, inl, inr}
use mathlib.Core.List.{[], ◌∷◌}
use native.Mathlib.Omega.{arith}
use lib.Dec.{ltb}
use Rattle.base.specs.Words.{Words, count}
use Rattle.base.specs.Parts.{first_words}
use Rattle.base.specs.Refusals.{First, Says, accepts, refuses, Judged, says_of, Listed, Rule, says}
use Rattle.base.proofs.First.{apart, none-fine, fine-none, judged}
use Rattle.limits.specs.Order.{when, also, in_order, chain}
use Rattle.word_calls.specs.Within.{WordsWithin}
use Rattle.word_calls.specs.Calls.{of_words}
use Rattle.word_calls.proofs.Within.{words-exactly}
use Rattle.loops.specs.Loops.{collapse_loops, accepted, by_rule, collapse_call, left}
use Rattle.loops.proofs.Whole.{left-even, first-places}
use Rattle.loops.proofs.Rules.{fine-even}
use Rattle.loops.proofs.Found.{found-fewer, never-more}

module _ (ws : Words) where
  call_by : {rule : Rule} → chain (of_words ws) ≡ rule → collapse_call ws ≡ by_rule rule ws
  unfolding collapse_call
  call_by e = ap (λ (r : Rule). by_rule r ws) e

  -- what is said, by what the checks find
  rule-says : (r : Rule) → says (by_rule r ws).answer ≡ says_of (left (count (collapse_loops ws).words) (collapse_loops ws).found) r
  rule-says (Ok u) = refl
  rule-says (Err why) = refl

  listed : Listed (3 ∷ 4 ∷ 1 ∷ 2 ∷ []) (in_order (of_words ws))
  unfolding in_order also when of_words
  listed = (inr (inl refl), (inr (inr (inl refl)), (inr (inr (inr (inl refl))), (inr (inr (inr (inr (inl refl)))), (inl refl, (inl refl, (inl refl, tt)))))))

  -- ---- Accepted, with the count of the words left and whether a loop was found, exactly when the words are within the limits; refused with n exactly when n is the first that
  -- applies, of 3, 4, 1, 2.
  pub answers : Judged (WordsWithin ws) (3 ∷ 4 ∷ 1 ∷ 2 ∷ []) (in_order (of_words ws)) (left (count (collapse_loops ws).words) (collapse_loops ws).found) (says (collapse_call ws).answer)
  unfolding collapse_call chain
  answers = judged _ (words-exactly ws) listed (rule-says (chain (of_words ws)))

  pub accepted-exactly : WordsWithin ws ↔ (says (collapse_call ws).answer ≡ accepts (left (count (collapse_loops ws).words) (collapse_loops ws).found))
  accepted-exactly = answers.accepted-exactly

  pub refused-exactly : (n : ℕ) → First n (in_order (of_words ws)) ↔ (says (collapse_call ws).answer ≡ refuses n)
  refused-exactly = answers.refused-exactly

  -- what was found where something is accepted
  said-fine : (n : ℕ) (f : Bool) → says (collapse_call ws).answer ≡ accepts (left n f) → chain (of_words ws) ≡ Ok tt
  unfolding collapse_call
  said-fine n f = go (chain (of_words ws)) where
    go : (r : Rule) → says (by_rule r ws).answer ≡ accepts (left n f) → r ≡ Ok tt
    go (Ok u) h = refl
    go (Err why) h = apart (sym h)

  within-fine : WordsWithin ws → chain (of_words ws) ≡ Ok tt
  unfolding chain
  within-fine w = none-fine (in_order (of_words ws)) ((words-exactly ws).0 w)

  fine-within : chain (of_words ws) ≡ Ok tt → WordsWithin ws
  unfolding chain
  fine-within h = (words-exactly ws).1 (fine-none (in_order (of_words ws)) h)

  -- ---- Accepted, the words left stand in their places, and the places past them become zero.
  pub accepted-leaves : WordsWithin ws → collapse_call ws ≡ accepted (collapse_loops ws) (count ws)
  accepted-leaves w = call_by (within-fine w)

  -- ---- And whatever is answered as accepted is that: the count is that of the words left and never more than before, and the yes is said exactly
  -- when it is smaller.
  pub accepted-answer : (n : ℕ) (f : Bool) → says (collapse_call ws).answer ≡ accepts (left n f)
      → WordsWithin ws × ((n ≡ count (collapse_loops ws).words) × ((n ≤ count ws) × (f ≡ ltb n (count ws))))
  accepted-answer n f h =
      let w = fine-within (said-fine n f h) in
      let same : ◌≡◌ {A = Says Left} (accepts (left n f)) (accepts (left (count (collapse_loops ws).words) (collapse_loops ws).found)) = sym h ∙ accepted-exactly.0 w in
      let pair : left n f ≡ left (count (collapse_loops ws).words) (collapse_loops ws).found = cc in
      let e : n ≡ count (collapse_loops ws).words = ap (λ (l : Left). l.count) pair in
      let b : f ≡ (collapse_loops ws).found = ap (λ (l : Left). l.found) pair in
      (w, (e, (omega (arith, never-more ws), b ∙ rw e (found-fewer ws))))

  -- ---- The first places then hold the words left.
  pub accepted-words : (n : ℕ) (f : Bool) → says (collapse_call ws).answer ≡ accepts (left n f) → first_words n (collapse_call ws).words ≡ (collapse_loops ws).words
  accepted-words n f h =
      let fine = said-fine n f h in
      let e = (accepted-answer n f h).1.0 in
      rw (call_by fine, e) (first-places (count ws) (count (collapse_loops ws).words) (collapse_loops ws).words (left-even ws (fine-even ws fine)))

  -- ---- A refusal changes nothing.
  pub refusal-keeps : (n : ℕ) → says (collapse_call ws).answer ≡ refuses n → (collapse_call ws).words ≡ ws
  unfolding collapse_call
  refusal-keeps n = go (chain (of_words ws)) where
    go : (r : Rule) → says (by_rule r ws).answer ≡ refuses n → (by_rule r ws).words ≡ ws
    go (Ok u) h = apart h
    go (Err why) h = refl
