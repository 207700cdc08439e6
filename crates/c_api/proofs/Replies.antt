-- What a call answers and leaves, as numbers. Assumes nothing.
use Rattle.std.specs.Prelude.{Ok, Err, Result}
use Prim.Native.Nat.{ℕ}
use mathlib.Core.Path.{◌≡◌, ap, ◌∙◌}
use mathlib.Core.List.{List}
use lib.Ieee.{Float}
use Rattle.base.specs.Words.{Words}
use Rattle.base.specs.Refusals.{Rule}
use Rattle.base.specs.Refusals as refusals
use Rattle.base.specs.declared.Refusal.{Refusal}
use Rattle.loops.specs.declared.Left.{Left}
use Rattle.full_run.specs.declared.Report.{Report}
use Rattle.phrase_align.specs.PhraseAlign as phrases
use Rattle.loops.specs.Loops as loops
use Rattle.word_calls.specs.Calls.{Output, output}
use Rattle.tally.specs.Tally as tally
use Rattle.full_run.specs.FullRun as full
use Rattle.c_api.specs.Answers.{left_of, leaves, leaves_of, moved_of, reply, reply_of, placed_of, placement, placement_of, tallied, tallied_of, report_of, full_run_with, full_run_of, Unchanged}
use Rattle.c_api.specs.declared.QiluvraitLeft.{QiluvraitLeft}
use Rattle.c_api.specs.declared.QiluvraitPlaced.{QiluvraitPlaced}
use Rattle.c_api.specs.declared.QiluvraitReport.{QiluvraitReport}

pub reply-made : {n : ℕ} {a : Rule} {o : Output} (ws : Words) → n ≡ moved_of a → output a ws ≡ o → reply n ws ≡ reply_of o
unfolding reply_of
reply-made ws p q = ap (λ (m : ℕ). reply m ws) p ∙ ap reply_of q

pub tallied-made : {n : ℕ} {a : Rule} {o : tally.Output} (places : List ℕ) → n ≡ moved_of a → tally.output a places ≡ o → tallied n places ≡ tallied_of o
unfolding tallied_of
tallied-made places p q = ap (λ (m : ℕ). tallied m places) p ∙ ap tallied_of q

pub leaves-made : {l : QiluvraitLeft} {a : Result Left Refusal} {o : loops.Output} (ws : Words) → l ≡ left_of a → loops.output a ws ≡ o → leaves l ws ≡ leaves_of o
unfolding leaves_of
leaves-made ws p q = ap (λ (m : QiluvraitLeft). leaves m ws) p ∙ ap leaves_of q

pub placement-made : {l : QiluvraitPlaced} {a : Result ℕ Refusal} {o : phrases.Output} (ws : Words) (f : List ℕ) → l ≡ placed_of a → phrases.output a ws f ≡ o → placement l ws f ≡ placement_of o
unfolding placement_of
placement-made ws f p q = ap (λ (m : QiluvraitPlaced). placement m ws f) p ∙ ap placement_of q

-- ---- work space that a refusal leaves as it was
pub kept-made : {A : Type 0} {n : ℕ} {before after : List A} (a : Rule) → n ≡ moved_of a → refusals.Unchanged a before after → Unchanged n before after
unfolding refusals.Unchanged
kept-made (Ok u) p k = λ no. absurd (no p)
kept-made (Err r) p k = λ _. k

pub full-run-made : {l : QiluvraitReport} {a : Result Report Refusal} {o : full.Output} (ws : Words) (phrases : List ℕ) (ls : List Float) (s e : List ℕ) → l ≡ report_of a → full.output a ws phrases ls s e ≡ o
    → full_run_with l ws phrases ls s e ≡ full_run_of o
unfolding full_run_of
full-run-made ws phrases ls s e p q = ap (λ (m : QiluvraitReport). full_run_with m ws phrases ls s e) p ∙ ap full_run_of q

pub left-made : {A : Type 0} {l : QiluvraitReport} {before after : List A} (a : Result Report Refusal) → l ≡ report_of a → refusals.Unchanged a before after → Unchanged l.refusal before after
unfolding refusals.Unchanged
left-made (Ok r) p k = λ no. absurd (no (ap (λ (m : QiluvraitReport). m.refusal) p))
left-made (Err r) p k = λ _. k
