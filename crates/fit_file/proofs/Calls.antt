-- The call `fit_file` in plain words, and for the code what its tests found. By the laws of calls that move only times. Assumes nothing.
use Rattle.std.specs.Prelude.{Ok, Err, IsErrAnd}
use Prim.Native.Nat.{ℕ, ◌≤◌, min}
use mathlib.Core.Path.{◌≡◌, sym, ◌∙◌}
use mathlib.Core.Logic.{◌↔◌}
use mathlib.Core.List.{List, [], ◌∷◌}
use native.Mathlib.Omega.{arith}
use lib.ListN.{length}
use lib.Ieee.{Float}
use Rattle.base.specs.Words.{Words, words, Spans, Edges, edges, count}
use Rattle.base.specs.declared.Refusal.{Refusal}
use Rattle.base.specs.Refusals.{First, accepts, refuses, Judged, Rule, says}
use Rattle.limits.specs.Order.{in_order}
use Rattle.word_calls.specs.Within.{PhrasesWithin}
use Rattle.word_calls.specs.Calls.{phrases_applies, phrases_rule, output, Keeps}
use Rattle.word_calls.proofs.Moved as moves
use Rattle.envelope.specs.Envelope.{loud_row}
use Rattle.fit_file.specs.FitFile.{fit_file, duration_of, work_places, fit_file_call}

module _ (ws : Words) (phrases : List ℕ) (spans : Spans) (levels : List Float) (floor : Float) (samples places : ℕ) where
  -- the edges that the fit gives
  abbrev given : Edges
  given = fit_file (loud_row floor levels) (duration_of samples) ws.letters phrases (edges spans.starts spans.ends) (edges ws.starts ws.ends)

  -- ---- accepted exactly when words, samples and levels and spans are within the limits, each word has a phrase number, and the work space has a place for each;
  -- refused with n exactly when n is the first that applies, of 3, 4, 1, 2, 7, 6
  pub answers : Judged (PhrasesWithin ws (length phrases) spans (length levels) samples places (count ws)) (3 ∷ 4 ∷ 1 ∷ 2 ∷ 7 ∷ 6 ∷ []) (in_order (phrases_applies ws (length phrases) spans (length levels) samples places (count ws))) tt (says (fit_file_call ws phrases spans levels floor samples places).answer)
  unfolding fit_file_call
  answers = moves.phrases-judged ws (length phrases) spans (length levels) samples places (count ws) given

  pub accepted-exactly : PhrasesWithin ws (length phrases) spans (length levels) samples places (count ws) ↔ (says (fit_file_call ws phrases spans levels floor samples places).answer ≡ accepts tt)
  accepted-exactly = answers.accepted-exactly

  pub refused-exactly : (n : ℕ) → First n (in_order (phrases_applies ws (length phrases) spans (length levels) samples places (count ws))) ↔ (says (fit_file_call ws phrases spans levels floor samples places).answer ≡ refuses n)
  refused-exactly = answers.refused-exactly

  -- ---- accepted, the words have the edges that the fit gives
  pub accepted-words : says (fit_file_call ws phrases spans levels floor samples places).answer ≡ accepts tt
      → (fit_file_call ws phrases spans levels floor samples places).words ≡ words given.starts given.ends ws.letters ws.units ws.keys
  unfolding fit_file_call
  accepted-words h = moves.accepted-words given ws (phrases_rule ws (length phrases) spans (length levels) samples places (count ws)) h

  -- ---- a refusal changes nothing
  pub refusal-keeps : (n : ℕ) → says (fit_file_call ws phrases spans levels floor samples places).answer ≡ refuses n → (fit_file_call ws phrases spans levels floor samples places).words ≡ ws
  unfolding fit_file_call
  refusal-keeps n h = moves.refusal-keeps given ws n (phrases_rule ws (length phrases) spans (length levels) samples places (count ws)) h

  -- ---- letters, units and keys stay, accepted or refused
  pub others-stay : Keeps ws (fit_file_call ws phrases spans levels floor samples places).words
  unfolding fit_file_call
  others-stay = moves.moved_keeps given ws (phrases_rule ws (length phrases) spans (length levels) samples places (count ws))

-- ---- for the code: what it needs where the tests find nothing, with work space of lists so long
module _ (ws : Words) (phrases : ℕ) (spans : Spans) (levels samples starts ends letters : ℕ) {found : Rule} {inner places : ℕ}
    (is-inner : inner ≡ min starts ends) (is-places : places ≡ min inner letters)
    (is : found ≡ phrases_rule ws phrases spans levels samples places (count ws)) (fine : found ≡ Ok tt) where
  within : PhrasesWithin ws phrases spans levels samples places (count ws)
  within = moves.phrases-fine ws phrases spans levels samples places (count ws) (sym is ∙ fine)

  pub short : samples ≤ 57600000
  short = within.0.1.0

  pub lent : ((length ws.ends ≡ length ws.starts) × ((length ws.letters ≡ length ws.starts) × (phrases ≡ length ws.starts)))
      × ((length ws.starts ≤ 4096) × (length ws.starts ≤ work_places starts ends letters))
  lent =
      let w = within.0.0 in
      let k = w.keys-as-long in
      let n = within.1.1.1 in
      ((w.ends-as-long, (w.letters-as-long, within.1.0)), (w.few, omega arith))

  pub ready : (length spans.ends ≡ length spans.starts) × (length spans.starts ≤ 4096)
  ready = let s = within.1.1.0 in (s.ends-as-long, s.few)

-- ---- and what it answers and leaves
module _ (ws : Words) (phrases : List ℕ) (spans : Spans) (levels : List Float) (floor : Float) (samples starts ends letters : ℕ) {found : Rule} {inner places : ℕ}
    (is-inner : inner ≡ min starts ends) (is-places : places ≡ min inner letters)
    (is : found ≡ phrases_rule ws (length phrases) spans (length levels) samples places (count ws)) where
  is-rule : found ≡ phrases_rule ws (length phrases) spans (length levels) samples (work_places starts ends letters) (count ws)
  is-rule = let all : places ≡ work_places starts ends letters = omega arith in is ∙ rw all

  pub refused-made : {out : Rule} {why : Refusal} → IsErrAnd out (λ (x : Refusal). x ≡ why) → found ≡ Err why → output out ws ≡ fit_file_call ws phrases spans levels floor samples (work_places starts ends letters)
  unfolding fit_file_call
  refused-made h e = moves.refused-made (phrases_rule ws (length phrases) spans (length levels) samples (work_places starts ends letters) (count ws)) (given ws phrases spans levels floor samples places) ws h (sym e ∙ is-rule)

  pub accepted-made : {duration : Float} (s e : List Float) → found ≡ Ok tt → duration ≡ duration_of samples
      → edges s e ≡ fit_file (loud_row floor levels) duration ws.letters phrases (edges spans.starts spans.ends) (edges ws.starts ws.ends)
      → output (Ok tt) (words s e ws.letters ws.units ws.keys) ≡ fit_file_call ws phrases spans levels floor samples (work_places starts ends letters)
  unfolding fit_file_call
  accepted-made s e fine d m =
      moves.moved_made (phrases_rule ws (length phrases) spans (length levels) samples (work_places starts ends letters) (count ws)) (given ws phrases spans levels floor samples places) ws s e (sym fine ∙ is-rule) (m ∙ rw d)
