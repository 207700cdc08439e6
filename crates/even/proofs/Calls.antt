-- The call `even_out` in plain words, and for the code what its tests found. By the laws of calls that move only times. Assumes nothing.
use Rattle.std.specs.Prelude.{Ok, Err, IsErrAnd}
use Prim.Native.Nat.{ℕ}
use mathlib.Core.Path.{◌≡◌}
use mathlib.Core.Logic.{◌↔◌}
use mathlib.Core.List.{List, [], ◌∷◌}
use lib.Ieee.{Float}
use Rattle.base.specs.Words.{Words, words, Edges, edges}
use Rattle.base.specs.declared.Refusal.{Refusal}
use Rattle.base.specs.Refusals.{First, accepts, refuses, Judged, Rule, says}
use Rattle.limits.specs.Order.{in_order}
use Rattle.word_calls.specs.Within.{LimitWithin, WordsWithin}
use Rattle.word_calls.specs.Calls.{limit_applies, limit_rule, output, Keeps}
use Rattle.word_calls.proofs.Moved as moves
use Rattle.even.specs.Even.{even_out, even_call}

module _ (ws : Words) (limit : Float) where
  -- the edges that the stage gives
  abbrev given : Edges
  given = even_out ws.letters limit (edges ws.starts ws.ends)

  -- ---- accepted exactly when the words are within the limits, and the limit is a time from -7,200 to 7,200 or +infinity;
  -- refused with n exactly when n is the first that applies, of 3, 4, 1, 2
  pub answers : Judged (WordsWithin ws × LimitWithin limit) (3 ∷ 4 ∷ 1 ∷ 2 ∷ []) (in_order (limit_applies ws limit)) tt (says (even_call ws limit).answer)
  unfolding even_call
  answers = moves.limit-judged ws limit given

  pub accepted-exactly : (WordsWithin ws × LimitWithin limit) ↔ (says (even_call ws limit).answer ≡ accepts tt)
  accepted-exactly = answers.accepted-exactly

  pub refused-exactly : (n : ℕ) → First n (in_order (limit_applies ws limit)) ↔ (says (even_call ws limit).answer ≡ refuses n)
  refused-exactly = answers.refused-exactly

  -- ---- accepted, the words have the edges that the stage gives
  pub accepted-words : says (even_call ws limit).answer ≡ accepts tt → (even_call ws limit).words ≡ words given.starts given.ends ws.letters ws.units ws.keys
  unfolding even_call
  accepted-words h = moves.accepted-words given ws (limit_rule ws limit) h

  -- ---- a refusal changes nothing
  pub refusal-keeps : (n : ℕ) → says (even_call ws limit).answer ≡ refuses n → (even_call ws limit).words ≡ ws
  unfolding even_call
  refusal-keeps n h = moves.refusal-keeps given ws n (limit_rule ws limit) h

  -- ---- letters, units and keys stay, accepted or refused
  pub others-stay : Keeps ws (even_call ws limit).words
  unfolding even_call
  others-stay = moves.moved_keeps given ws (limit_rule ws limit)

  -- for the code
  pub refused-made : {out : Rule} {why : Refusal} → IsErrAnd out (λ (x : Refusal). x ≡ why) → Err why ≡ limit_rule ws limit → output out ws ≡ even_call ws limit
  unfolding even_call
  refused-made h f = moves.refused-made (limit_rule ws limit) given ws h f

  pub accepted-made : (s e : List Float) → Ok tt ≡ limit_rule ws limit → edges s e ≡ given → output (Ok tt) (words s e ws.letters ws.units ws.keys) ≡ even_call ws limit
  unfolding even_call
  accepted-made s e f m = moves.moved_made (limit_rule ws limit) given ws s e f m
