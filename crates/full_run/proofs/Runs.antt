-- What the code makes: what an accepted run has, and the answer by what the tests found. The tests look at how many samples there are, and at no
-- sample: a recording of silence stands for any other of its length. Assumes nothing.
use Rattle.base.specs.Refusals.{Rule}
use Rattle.std.specs.Prelude.{Ok, Err}
use Prim.Native.Nat.{ℕ, ◌/◌, ◌≤◌, min}
use mathlib.Core.Path.{◌≡◌, refl, sym, ap, ◌∙◌, subst}
use mathlib.Core.List.{List}
use native.Mathlib.Omega.{arith}
use lib.ListN.{length, replicate, length-replicate}
use lib.Ieee.{Float}
use Rattle.base.specs.Words.{Words, Spans, count, zero_f}
use Rattle.base.specs.declared.Refusal.{Refusal}
use Rattle.limits.specs.Order.{chain}
use Rattle.word_calls.proofs.Within.{one-length, letters-most}
use Rattle.envelope.specs.Envelope.{floor, loud_row, quiet_row}
use Rattle.pieces.specs.Pieces.{Ready as PiecesReady}
use Rattle.full_run.specs.Parts.{applies_to, Heard}
use Rattle.run_stages.specs.Parts.{Ready, FewLetters, Running}
use Rattle.run_stages.specs.Stages.{Run, run_on}
use Rattle.run_stages.specs.declared.Outcome.{Outcome}
use Rattle.full_run.specs.FullRun.{Input, input, run_applies, RunWithin}
use Rattle.full_run.proofs.Promises.{within}
use Rattle.full_run.proofs.Made.{applies-are}

module _ (ls : List Float) (samples : ℕ) (ws : Words) (spans : Spans) (phrases : List ℕ) (starts ends : List ℕ) (work : ℕ) where
  abbrev silent : Input
  silent = input (replicate samples zero_f) ws spans phrases ls starts ends work

  pub run-within : length ends ≡ length starts → chain (applies_to samples ws spans (length phrases) (length ls) (length starts) work) ≡ Ok tt → RunWithin silent
  run-within e h = within silent (sym (ap chain same) ∙ h) where
    same : applies_to samples ws spans (length phrases) (length ls) (length starts) work ≡ run_applies silent
    same =
        let n : length (replicate samples zero_f) ≡ samples = length-replicate samples zero_f in
        let m : min (length starts) (length ends) ≡ length starts = omega arith in
        rw (m, n) at (applies-are (replicate samples zero_f) ws spans phrases ls starts ends work)

  -- ---- the spans that have passed the tests
  pub spans-tested : length ends ≡ length starts → chain (applies_to samples ws spans (length phrases) (length ls) (length starts) work) ≡ Ok tt
      → ((length spans.ends ≡ length spans.starts) × (length spans.counts ≡ length spans.starts)) × (length spans.starts ≤ 4096)
  spans-tested e h = let q = (run-within e h).spans-within in ((q.ends-as-long, q.counts-as-long), q.few)

  -- ---- what an accepted run has
  pub stages-ready : {b d : ℕ} → (length ls ≡ samples / 160) × ((length ends ≡ length starts) × ((b ≡ work) × (d ≡ work)))
      → chain (applies_to samples ws spans (length phrases) (length ls) (length starts) work) ≡ Ok tt
      → Ready ws (length phrases) work b d × (FewLetters ws.letters × PiecesReady (length ls) samples (length starts) (length ends))
  stages-ready (own, (two, (eb, ed))) h =
      let w = run-within two h in
      let v = w.words-within in
      let n : length (replicate samples zero_f) ≡ samples = length-replicate samples zero_f in
      let few : samples ≤ 57600000 = rw n at w.few-samples in
      let from = rw n at w.start-places in
      let to = rw n at w.end-places in (
        (
          one-length v,
          (
            omega (arith, v.keys-as-long, v.few),
            (w.phrase-places, (w.work-places, (omega (arith, w.work-places, eb), omega (arith, w.work-places, ed)))),
          ),
        ),
        (letters-most v, record { few = few; all = own; from = rw own from; to = rw own to }),
      )

  abbrev rule : Rule
  rule = chain (applies_to samples ws spans (length phrases) (length ls) (length starts) work)

  abbrev run : Float → Run
  run f = run_on (loud_row f ls) (quiet_row f ls) samples spans phrases ws

  -- ---- the answer, by what the tests found
  pub heard-refused : (f : Float) (after : Words) (numbers s e : List ℕ) {found : Rule} {why : Refusal} → found ≡ rule → found ≡ Err why
      → Heard rule f (run f) (Err why) ws after numbers starts ends s e
  unfolding Heard
  heard-refused f after numbers s e {found} {why} same h = rw (sym same ∙ h) refl

  pub heard-accepted : {found : Rule} {f : Float} {out : Outcome} {after : Words} {numbers s e : List ℕ} → found ≡ rule → found ≡ Ok tt → f ≡ floor ls
      → Running (run f) (count ws) out after numbers starts ends s e
      → Heard rule (floor ls) (run (floor ls)) (Ok (record { floor = f; pieces = out.pieces; words = out.words; found = out.found })) ws after numbers starts ends s e
  unfolding Heard
  heard-accepted {found} {f} {out} {after} {numbers} {s} {e} same h k running =
      let r = subst (λ (g : Float). Running (run g) (count ws) out after numbers starts ends s e) k running in
      rw (sym same ∙ h) (rw (k, r.pieces, r.count, r.found), (r.words, (r.phrases, (r.piece-starts, r.piece-ends))))
