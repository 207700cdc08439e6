-- What the code makes: the tests as the definition has them, the levels in the first places, and the answer of a run. Assumes nothing.
use Rattle.full_run.specs.declared.Report.{Report}
use Rattle.base.specs.Refusals.{Rule}
use Rattle.std.specs.Prelude.{Ok, Err, Result}
use Prim.Native.Nat.{ℕ, ◌≤◌, min}
use mathlib.Core.Path.{◌≡◌, refl, sym, ap, subst, ◌∙◌}
use mathlib.Core.List.{List, ◌++◌}
use native.Mathlib.Omega.{arith}
use native.Mathlib.Nat.{sub-zero}
use lib.ListN.{length, drop}
use lib.Ieee.{Float}
use Rattle.base.specs.Words.{Words, Spans, spans, count, part}
use Rattle.base.specs.declared.Refusal.{Refusal}
use Rattle.limits.specs.Order.{chain}
use Rattle.word_calls.proofs.Within.{one-length, letters-most}
use Rattle.envelope.specs.Envelope.{frames, levels, floor, loud_row, quiet_row}
use Rattle.envelope.proofs.Places.{length-levels, front-levels}
use Rattle.pieces.specs.Pieces.{Ready as PiecesReady}
use Rattle.pieces.specs.Parts.{starts_over, ends_over}
use Rattle.fit_file.specs.FitFile.{work_places}
use Rattle.full_run.specs.Parts.{applies_to}
use Rattle.run_stages.specs.Parts.{Ready, FewLetters, Running}
use Rattle.run_stages.specs.Stages.{run_on}
use Rattle.run_stages.specs.declared.Outcome.{Outcome}
use Rattle.full_run.specs.FullRun.{Input, input, run_of, run_applies, output, accepted, full_run}
use Rattle.full_run.proofs.Promises.{within, run_by}

-- ---- the tests as the definition has them
pub applies-are : (samples : List Float) (ws : Words) (spans : Spans) (phrases : List ℕ) (ls : List Float) (s e : List ℕ) (work : ℕ)
    → applies_to (length samples) ws spans (length phrases) (length ls) (min (length s) (length e)) work ≡ run_applies (input samples ws spans phrases ls s e work)
unfolding applies_to run_applies
applies-are samples ws spans phrases ls s e work = refl

module _ (samples : List Float) (ws : Words) (spans : Spans) (phrases : List ℕ) (places : List Float) (s e : List ℕ) (a b d : ℕ) where
  abbrev given : Input
  given = input samples ws spans phrases places s e (work_places a b d)

  -- ---- what an accepted run has
  pub hear-ready : chain (run_applies given) ≡ Ok tt → frames samples ≤ length places
  hear-ready h = (within given h).level-places

  pub spans-tested : chain (run_applies given) ≡ Ok tt → ((length spans.ends ≡ length spans.starts) × (length spans.counts ≡ length spans.starts)) × (length spans.starts ≤ 4096)
  spans-tested h = let q = (within given h).spans-within in ((q.ends-as-long, q.counts-as-long), q.few)

  pub after-ready : {ls : List Float} → chain (run_applies given) ≡ Ok tt → ls ≡ levels samples ++ drop (frames samples) places
      → Ready ws (length phrases) a b d
      × (FewLetters ws.letters × PiecesReady (length (part 0 (frames samples) ls)) (length samples) (length s) (length e))
  after-ready {ls} h k =
      let w = within given h in
      let v = w.words-within in
      let long : length (part 0 (frames samples) ls) ≡ frames samples = rw (sub-zero, front-levels samples places ls k) (length-levels samples) in
      rw long (
        (
          one-length v,
          (
            omega (arith, v.keys-as-long, v.few),
            (w.phrase-places, (omega (arith, w.work-places), (omega (arith, w.work-places), omega (arith, w.work-places)))),
          ),
        ),
        (letters-most v, record { few = w.few-samples; all = refl; from = w.start-places; to = w.end-places }),
      )

  -- ---- the answer, and what the lent places hold
  pub accept-is : {ls : List Float} {f : Float} {out : Outcome} {after : Words} {numbers starts ends : List ℕ} → (ls ≡ levels samples ++ drop (frames samples) places) × (f ≡ floor (levels samples))
      → Running (run_on (loud_row f (part 0 (frames samples) ls)) (quiet_row f (part 0 (frames samples) ls)) (length samples) spans phrases ws) (count ws) out after numbers s e starts ends
      → output (Ok (record { floor = f; pieces = out.pieces; words = out.words; found = out.found })) after numbers ls starts ends ≡ accepted given (run_of given)
  unfolding run_of starts_over ends_over
  accept-is {ls} {f} {out} {after} {numbers} {starts} {ends} (h, k) running =
      let front : part 0 (frames samples) ls ≡ levels samples = rw (sub-zero, front-levels samples places ls h) in
      let r : Running (run_on (loud_row (floor (levels samples)) (levels samples)) (quiet_row (floor (levels samples)) (levels samples)) (length samples) spans phrases ws) (count ws) out after numbers s e starts ends
      = subst (λ (g : Float). Running (run_on (loud_row g (levels samples)) (quiet_row g (levels samples)) (length samples) spans phrases ws) (count ws) out after numbers s e starts ends) k
      (subst (λ (l : List Float). Running (run_on (loud_row f l) (quiet_row f l) (length samples) spans phrases ws) (count ws) out after numbers s e starts ends) front running) in
      rw (r.words, r.phrases, h, k, r.pieces, r.count, r.found, r.piece-starts, r.piece-ends, length-levels samples)

  module _ {p w₀ w : ℕ} {rule : Rule} (ep : p ≡ min (length s) (length e)) (e₀ : w₀ ≡ min b d) (ew : w ≡ min a w₀)
      (judged : rule ≡ chain (applies_to (length samples) ws spans (length phrases) (length places) p w)) where
    rule-is : rule ≡ chain (run_applies given)
    rule-is = judged ∙ ap chain (rw (ep, ew, e₀) (applies-are samples ws spans phrases places s e (work_places a b d)))

    -- ---- refused, by what the tests found
    pub refused-made : {why : Refusal} → rule ≡ Err why → output (Err why) ws phrases places s e ≡ full_run given
    refused-made h = sym (run_by given (sym rule-is ∙ h))

    -- ---- accepted, by what the tests found
    pub all-fine : rule ≡ Ok tt → chain (run_applies given) ≡ Ok tt
    all-fine h = sym rule-is ∙ h

    pub accepted-made : {r : Result Report Refusal} {after : Words} {numbers starts ends : List ℕ} {ls : List Float} → rule ≡ Ok tt → output r after numbers ls starts ends ≡ accepted given (run_of given)
        → output r after numbers ls starts ends ≡ full_run given
    accepted-made h k = k ∙ sym (run_by given (all-fine h))
