-- The call `hand_back_tails` in plain words, and for the code what its tests found. By the laws of calls that move only times. Assumes nothing.
use Rattle.std.specs.Prelude.{Ok, Err, IsErrAnd}
use Prim.Native.Nat.{ℕ}
use mathlib.Core.Path.{◌≡◌}
use mathlib.Core.Logic.{◌↔◌}
use mathlib.Core.List.{List, [], ◌∷◌}
use lib.ListN.{length}
use lib.Ieee.{Float}
use Rattle.base.specs.Words.{Words, words, Edges, edges}
use Rattle.base.specs.declared.Refusal.{Refusal}
use Rattle.base.specs.Refusals.{First, accepts, refuses, Judged, Rule, says}
use Rattle.limits.specs.Order.{in_order}
use Rattle.word_calls.specs.Within.{SoundWithin}
use Rattle.word_calls.specs.Calls.{sound_applies, sound_rule, output, Keeps}
use Rattle.word_calls.proofs.Moved as moves
use Rattle.envelope.specs.Envelope.{loud_row}
use Rattle.tails.specs.Tails.{hand_back_tails, tails_call}

module _ (ws : Words) (levels : List Float) (floor : Float) (count : ℕ) where
  -- the edges that the stage gives
  abbrev given : Edges
  given = hand_back_tails (loud_row floor levels) ws.letters (edges ws.starts ws.ends)

  -- ---- accepted exactly when words, samples and levels are within the limits;
  -- refused with n exactly when n is the first that applies, of 3, 4, 1, 2, 7
  pub answers : Judged (SoundWithin ws (length levels) count) (3 ∷ 4 ∷ 1 ∷ 2 ∷ 7 ∷ []) (in_order (sound_applies ws (length levels) count)) tt (says (tails_call ws levels floor count).answer)
  unfolding tails_call
  answers = moves.sound-judged ws (length levels) count given

  pub accepted-exactly : SoundWithin ws (length levels) count ↔ (says (tails_call ws levels floor count).answer ≡ accepts tt)
  accepted-exactly = answers.accepted-exactly

  pub refused-exactly : (n : ℕ) → First n (in_order (sound_applies ws (length levels) count)) ↔ (says (tails_call ws levels floor count).answer ≡ refuses n)
  refused-exactly = answers.refused-exactly

  -- ---- accepted, the words have the edges that the stage gives
  pub accepted-words : says (tails_call ws levels floor count).answer ≡ accepts tt → (tails_call ws levels floor count).words ≡ words given.starts given.ends ws.letters ws.units ws.keys
  unfolding tails_call
  accepted-words h = moves.accepted-words given ws (sound_rule ws (length levels) count) h

  -- ---- a refusal changes nothing
  pub refusal-keeps : (n : ℕ) → says (tails_call ws levels floor count).answer ≡ refuses n → (tails_call ws levels floor count).words ≡ ws
  unfolding tails_call
  refusal-keeps n h = moves.refusal-keeps given ws n (sound_rule ws (length levels) count) h

  -- ---- letters, units and keys stay, accepted or refused
  pub others-stay : Keeps ws (tails_call ws levels floor count).words
  unfolding tails_call
  others-stay = moves.moved_keeps given ws (sound_rule ws (length levels) count)

  -- for the code
  pub refused-made : {out : Rule} {why : Refusal} → IsErrAnd out (λ (x : Refusal). x ≡ why) → Err why ≡ sound_rule ws (length levels) count → output out ws ≡ tails_call ws levels floor count
  unfolding tails_call
  refused-made h f = moves.refused-made (sound_rule ws (length levels) count) given ws h f

  pub accepted-made : (s e : List Float) → Ok tt ≡ sound_rule ws (length levels) count → edges s e ≡ given → output (Ok tt) (words s e ws.letters ws.units ws.keys) ≡ tails_call ws levels floor count
  unfolding tails_call
  accepted-made s e f m = moves.moved_made (sound_rule ws (length levels) count) given ws s e f m
