-- A file that is laid out is refused with 4, 1 or 2 alone: its lists are as long as each other, and every place that the full run needs is there. By reading the tests in
-- their order. Assumes nothing.
use Rattle.base.specs.declared.Refusal.{Refusal}
use Rattle.full_run.specs.declared.Report.{Report}
use Rattle.std.specs.Prelude.{Ok, Err, Result}
use Prim.Native.Nat.{ℕ, ◌+◌, min}
use mathlib.Core.Bool.{false}
use mathlib.Core.List.{List, [], ◌∷◌}
use mathlib.Core.Logic.{inl, inr}
use mathlib.Core.Path.{◌≡◌, refl, ap, ◌∙◌}
use native.Mathlib.Omega.{arith}
use borrow.Author.Tests.{le-ltb, eq-eqb}
use lib.ListN.{length, length-replicate}
use lib.Ieee.{Float}
use Rattle.base.specs.Refusals.{number, refuses, Among, NoneApplies, Listed, says}
use Rattle.base.specs.Words.{count, zero_f}
use Rattle.base.proofs.First.{apart, first_says, judged}
use Rattle.base.proofs.Loops.{length-table}
use Rattle.limits.specs.Order.{when, also, in_order}
use Rattle.word_calls.specs.Calls.{uneven, of_words, of_samples, uneven_spans, of_spans, of_places}
use Rattle.envelope.specs.Envelope.{frames}
use Rattle.pieces.specs.Pieces.{need}
use Rattle.job_text.specs.Text.{refused_line}
use Rattle.job_layout.specs.Layout.{contents, u32_at, f64_at, column, words_from, spans_from, job_words, job_spans, job_samples}
use Rattle.full_run.specs.FullRun.{Input, run_applies}
use Rattle.full_run.proofs.Promises.{refused-exactly}
use Rattle.job.specs.Printed.{job_input, job_run, answer_text, output_text, printed, LaidOut}
use Rattle.job.proofs.Promises.{laid_out, samples-few, five-suffice}

-- ---- the text of an answer that refuses with n
refused-text : (n spans : ℕ) (a : Result Report Refusal) (starts ends : List Float) (phrases firsts lasts : List ℕ) → says a ≡ refuses n → answer_text spans a starts ends phrases firsts lasts ≡ refused_line n
unfolding answer_text
refused-text n spans (Ok r) starts ends phrases firsts lasts h = apart h
refused-text n spans (Err why) starts ends phrases firsts lasts h = ap refused_line (let m : number why ≡ n = cc in m)

column-long : {A : Type 0} (read : List ℕ → ℕ → A) (file : List ℕ) (at size n : ℕ) → length (column read file at size n) ≡ n
unfolding column
column-long read file at size n = length-table _ n 0

module _ (file : List ℕ) where
  abbrev given : Input
  given = job_input (job_samples file) (job_words file) (job_spans file)

  -- ---- the lists are as long as each other
  even : (run_applies given).lengths ≡ false
  unfolding run_applies also when of_words of_spans of_samples of_places uneven uneven_spans words_from spans_from
  even =
      let at = (contents file).words_at in
      let n = (contents file).words in
      let sat = (contents file).spans_at in
      let s = (contents file).spans in
      rw (
        column-long f64_at file at 28 n,
        column-long f64_at file (at + 8) 28 n,
        column-long u32_at file (at + 16) 28 n,
        column-long u32_at file (at + 20) 28 n,
        column-long u32_at file (at + 24) 28 n,
        column-long f64_at file sat 20 s,
        column-long f64_at file (sat + 8) 20 s,
        column-long u32_at file (sat + 16) 20 s,
        eq-eqb n n refl,
        eq-eqb s s refl,
      )

  -- ---- the places suffice
  enough : LaidOut file → (run_applies given).places ≡ false
  unfolding run_applies also when of_words of_spans of_samples of_places
  enough l =
      let few = samples-few file l in
      let five = five-suffice file (frames (job_samples file)) (omega arith) in
      rw (
        le-ltb (length given.levels) (frames (job_samples file)) (rw (length-replicate (frames (job_samples file)) zero_f) (omega arith)),
        le-ltb (min (length given.piece_starts) (length given.piece_ends)) (need (frames (job_samples file))) five,
        le-ltb (length given.phrases) (count (job_words file)) (rw (length-replicate {A = ℕ} (count (job_words file)) 0) (omega arith)),
        le-ltb (count (job_words file)) (count (job_words file)) (omega arith),
      )

  no-levels : (run_applies given).levels ≡ false
  unfolding run_applies also when of_words of_spans of_samples of_places
  no-levels = refl

  no_cut : (run_applies given).cut ≡ false
  unfolding run_applies also when of_words of_spans of_samples of_places
  no_cut = refl

  listed : LaidOut file → Listed (4 ∷ 1 ∷ 2 ∷ []) (in_order (run_applies given))
  unfolding in_order
  listed l = (inl even, (inr (inl refl), (inr (inr (inl refl)), (inr (inr (inr (inl refl))), (inl no-levels, (inl (enough l), (inl no_cut, tt)))))))

  -- ---- A file that is laid out and refused: the line has the refusal's number, and that is 4, 1 or 2.
  pub refused-laid-out : LaidOut file → (n : ℕ) → says (job_run file).answer ≡ refuses n → (printed file ≡ refused_line n) × Among n (4 ∷ 1 ∷ 2 ∷ [])
  unfolding job_run output_text
  refused-laid-out l n h =
      let ts = in_order (run_applies given) in
      let same : NoneApplies ts → NoneApplies ts = λ k. k in (
        laid_out file l ∙ refused-text n (contents file).spans (job_run file).answer _ _ _ _ _ h,
        (judged {A = ℕ} {numbers = 4 ∷ 1 ∷ 2 ∷ []} {ts = ts} 0 (same, same) (listed l) refl).refused-among n (first_says {A = ℕ} 0 n ts ((refused-exactly given n).1 h)),
      )
