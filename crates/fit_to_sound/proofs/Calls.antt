-- The call `fit_to_sound` in plain words, and for the code what its tests found. By the laws of calls that move only times. Assumes nothing.
use Rattle.std.specs.Prelude.{Ok, Err, IsErrAnd}
use Prim.Native.Nat.{ℕ}
use mathlib.Core.Path.{◌≡◌}
use mathlib.Core.Logic.{◌↔◌}
use mathlib.Core.List.{List, [], ◌∷◌}
use lib.ListN.{length}
use lib.Ieee.{Float}
use Rattle.base.specs.Words.{Words, words, Edges, edges}
use Rattle.base.specs.declared.Refusal.{Refusal}
use Rattle.base.specs.Refusals.{First, accepts, refuses, Judged, Rule, says}
use Rattle.limits.specs.Order.{in_order}
use Rattle.word_calls.specs.Within.{Within, SoundWithin}
use Rattle.word_calls.specs.Calls.{timed_applies, timed_rule, output, Keeps}
use Rattle.word_calls.proofs.Moved as moves
use Rattle.envelope.specs.Envelope.{loud_row}
use Rattle.fit_to_sound.specs.FitToSound.{fit_to_sound, fit_call}

module _ (ws : Words) (levels : List Float) (floor : Float) (count : ℕ) (duration : Float) where
  -- the edges that the stage gives
  abbrev given : Edges
  given = fit_to_sound (loud_row floor levels) duration ws.letters (edges ws.starts ws.ends)

  -- ---- accepted exactly when words, samples and levels and the duration are within the limits;
  -- refused with n exactly when n is the first that applies, of 3, 4, 1, 2, 7
  pub answers : Judged (SoundWithin ws (length levels) count × Within duration) (3 ∷ 4 ∷ 1 ∷ 2 ∷ 7 ∷ []) (in_order (timed_applies ws (length levels) count duration)) tt (says (fit_call ws levels floor count duration).answer)
  unfolding fit_call
  answers = moves.timed-judged ws (length levels) count given duration

  pub accepted-exactly : (SoundWithin ws (length levels) count × Within duration) ↔ (says (fit_call ws levels floor count duration).answer ≡ accepts tt)
  accepted-exactly = answers.accepted-exactly

  pub refused-exactly : (n : ℕ) → First n (in_order (timed_applies ws (length levels) count duration)) ↔ (says (fit_call ws levels floor count duration).answer ≡ refuses n)
  refused-exactly = answers.refused-exactly

  -- ---- accepted, the words have the edges that the stage gives
  pub accepted-words : says (fit_call ws levels floor count duration).answer ≡ accepts tt → (fit_call ws levels floor count duration).words ≡ words given.starts given.ends ws.letters ws.units ws.keys
  unfolding fit_call
  accepted-words h = moves.accepted-words given ws (timed_rule ws (length levels) count duration) h

  -- ---- a refusal changes nothing
  pub refusal-keeps : (n : ℕ) → says (fit_call ws levels floor count duration).answer ≡ refuses n → (fit_call ws levels floor count duration).words ≡ ws
  unfolding fit_call
  refusal-keeps n h = moves.refusal-keeps given ws n (timed_rule ws (length levels) count duration) h

  -- ---- letters, units and keys stay, accepted or refused
  pub others-stay : Keeps ws (fit_call ws levels floor count duration).words
  unfolding fit_call
  others-stay = moves.moved_keeps given ws (timed_rule ws (length levels) count duration)

  -- for the code
  pub refused-made : {out : Rule} {why : Refusal} → IsErrAnd out (λ (x : Refusal). x ≡ why) → Err why ≡ timed_rule ws (length levels) count duration → output out ws ≡ fit_call ws levels floor count duration
  unfolding fit_call
  refused-made h f = moves.refused-made (timed_rule ws (length levels) count duration) given ws h f

  pub accepted-made : (s e : List Float) → Ok tt ≡ timed_rule ws (length levels) count duration → edges s e ≡ given → output (Ok tt) (words s e ws.letters ws.units ws.keys) ≡ fit_call ws levels floor count duration
  unfolding fit_call
  accepted-made s e f m = moves.moved_made (timed_rule ws (length levels) count duration) given ws s e f m
