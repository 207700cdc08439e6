-- What is printed for a file, in plain words: which files are refused for their layout and with which number, and that every other gets the text of its full run, which is
-- accepted exactly when its words and spans are within document 01's limits. By reading what the tests find. Assumes nothing.
use Prim.Native.Nat.{ℕ, ◌+◌, ◌-◌, ◌/◌, ◌≤◌, ◌<◌}
use mathlib.Core.Bool.{Bool, true, false, cond, ◌&&◌, ◌||◌}
use mathlib.Core.List.{List}
use mathlib.Core.Logic.{◌↔◌, ◌⊎◌, inl, inr}
use mathlib.Core.Path.{◌≡◌, refl}
use native.Mathlib.Omega.{arith}
use borrow.Author.Tests.{lt-ltb, le-ltb, eq-eqb, ne_eqb, ltb-false}
use lib.Dec.{eqb, ltb}
use lib.ListN.{length, length-replicate}
use Rattle.base.specs.Refusals.{accepts, says}
use Rattle.base.specs.Words.{count, zero_f}
use Rattle.base.proofs.Loops.{length-table}
use Rattle.word_calls.specs.Within.{WordsWithin, SpansWithin}
use Rattle.envelope.specs.Envelope.{frames}
use Rattle.pieces.specs.Pieces.{need}
use Rattle.job_text.specs.Text.{refused_line}
use Rattle.job_layout.specs.Layout.{contents, too_many, gapless, file_size, column, samples_from, job_words, job_spans, job_samples}
use Rattle.std.proofs.lemmas.Bool.{or_parts}
use Rattle.full_run.specs.declared.Report.{Report}
use Rattle.full_run.specs.FullRun.{RunWithin}
use Rattle.full_run.proofs.Promises.{accepted-answer}
use Rattle.job.specs.Printed.{job_input, job_run, output_text, printed, LaidOut}

module _ (file : List ℕ) where
  -- ---- "whole table (5)"
  pub refused-table : length file < 24 → printed file ≡ refused_line 5
  unfolding printed
  refused-table h = rw (lt-ltb (length file) 24 h)

  -- ---- "numbers (4)"
  pub refused-numbers : 24 ≤ length file → too_many (contents file) ≡ true → printed file ≡ refused_line 4
  unfolding printed
  refused-numbers h t = rw (le-ltb (length file) 24 h, t)

  -- ---- "offsets and length (5)"
  pub refused-layout : 24 ≤ length file → too_many (contents file) ≡ false → (gapless (contents file) ≡ false) ⊎ (length file ≡ file_size (contents file) → ⊥)
      → printed file ≡ refused_line 5
  unfolding printed
  refused-layout h t (inl g) = rw (le-ltb (length file) 24 h, t, g)
  refused-layout h t (inr l) = rw (le-ltb (length file) 24 h, t, ne_eqb (length file) (file_size (contents file)) l) (go (gapless (contents file)))
    where
      go : (g : Bool) → cond (g && false) (output_text (contents file).spans (job_run file)) (refused_line 5) ≡ refused_line 5
      go true = refl
      go false = refl

  -- ---- "then the order above": every other file gets the text of its full run.
  pub laid_out : LaidOut file → printed file ≡ output_text (contents file).spans (job_run file)
  unfolding printed
  laid_out l = rw (le-ltb (length file) 24 l.table, l.few, l.placed, eq-eqb (length file) (file_size (contents file)) l.ends)

  -- ---- And that is accepted exactly when words and spans are within the limits: the places always suffice.
  pub samples-few : LaidOut file → length (job_samples file) ≤ 960159
  unfolding too_many samples_from column
  samples-few l =
      let a = or_parts (ltb 512 (contents file).words) (ltb 64 (contents file).spans || ltb 960159 (contents file).samples) l.few in
      let b = or_parts (ltb 64 (contents file).spans) (ltb 960159 (contents file).samples) a.1 in
      rw (length-table _ (contents file).samples 0) (ltb-false 960159 (contents file).samples b.1)

  pub five-suffice : (n : ℕ) → n ≤ 6000 → need n ≤ 5
  unfolding need
  five-suffice n h = go (eqb n 0)
    where
      go : (b : Bool) → cond b 0 ((n - 1) / 1203 + 1) ≤ 5
      go true = omega arith
      go false = omega arith

  pub accepted-exactly : LaidOut file → (WordsWithin (job_words file) × SpansWithin (job_spans file)) ↔ ((r : Report) × (says (job_run file).answer ≡ accepts r))
  unfolding job_run
  accepted-exactly l = (
    λ w. (accepted-answer (job_input (job_samples file) (job_words file) (job_spans file))).1 (ready w),
    λ a. (let w = (accepted-answer (job_input (job_samples file) (job_words file) (job_spans file))).0 a in (w.words-within, w.spans-within)),
  )
    where
      ready : WordsWithin (job_words file) × SpansWithin (job_spans file) → RunWithin (job_input (job_samples file) (job_words file) (job_spans file))
      ready (w, s) =
          let few = samples-few l in
          let five = five-suffice (frames (job_samples file)) (omega arith) in
          record {
            words-within = w;
            spans-within = s;
            few-samples = omega arith;
            level-places = rw (length-replicate (frames (job_samples file)) zero_f) (omega arith);
            start-places = five;
            end-places = five;
            phrase-places = rw (length-replicate {A = ℕ} (count (job_words file)) 0) (omega arith);
            work-places = omega arith;
          }
