-- What the program prints for a job file, byte for byte (document 01, "Tally, peak, job file"). Assumes nothing.
use Rattle.base.specs.declared.Refusal.{Refusal}
use Rattle.full_run.specs.declared.Report.{Report}
use Rattle.std.specs.Prelude.{ℕ, ◌≤◌, ◌≡◌, true, false, cond, ◌&&◌, List, ◌++◌, eqb, ltb, length, replicate, Float, Ok, Err, Result}
use Rattle.base.specs.Refusals.{number}
use Rattle.base.specs.Words.{Words, Spans, count, zero_f}
use Rattle.base.specs.declared.Refusal.TheVariants.{Counts, Layout}
use Rattle.envelope.specs.Envelope.{frames}
use Rattle.job_text.specs.Text.{refused_line, piece_lines, word_lines}
use Rattle.job_layout.specs.Layout.{contents, table_size, too_many, gapless, file_size, job_words, job_spans, job_samples}
use Rattle.full_run.specs.FullRun.{Input, input, Output, full_run}

-- ---- Places for the pieces of 960,159 samples, which have 6,000 frames.
abbrev pub piece_places : ℕ
piece_places = 5

-- ---- The full run of a job. It is lent a place for every level, and a phrase number and a work place for every word; all hold zero.
abbrev pub job_input : List Float → Words → Spans → Input
job_input samples ws spans =
    input samples ws spans (replicate (count ws) 0) (replicate (frames samples) zero_f) (replicate piece_places 0) (replicate piece_places 0) (count ws)

unfoldable pub job_run : List ℕ → Output
job_run file = full_run (job_input (job_samples file) (job_words file) (job_spans file))

-- ---- "It prints `refused` and the number, or the pieces .., then the words": of an answer, where there are so many spans.
unfoldable pub answer_text : ℕ → Result Report Refusal → List Float → List Float → List ℕ → List ℕ → List ℕ → List ℕ
answer_text spans (Err why) starts ends phrases firsts lasts = refused_line (number why)
answer_text spans (Ok report) starts ends phrases firsts lasts =
    piece_lines firsts lasts report.pieces ++ word_lines spans starts ends phrases report.words

unfoldable pub output_text : ℕ → Output → List ℕ
output_text spans o = answer_text spans o.answer o.words.starts o.words.ends o.phrases o.piece_starts o.piece_ends

-- ---- "It checks: whole table (5), numbers (4), offsets and length (5), then the order above."
unfoldable pub printed : List ℕ → List ℕ
printed file =
    let c = contents file in
    cond (ltb (length file) table_size) (refused_line (number Layout))
    (cond (too_many c) (refused_line (number Counts))
    (cond (gapless c && eqb (length file) (file_size c)) (output_text c.spans (job_run file))
    (refused_line (number Layout))))

-- ---- "a table .. bodies follow in that order from byte 24 without gaps to the file's end"; "at most 512 words, 64 spans, 960,159 samples"
pub record LaidOut (file : List ℕ) : Type 0 where
  pub table : 24 ≤ length file
  pub few : too_many (contents file) ≡ false
  pub placed : gapless (contents file) ≡ true
  pub ends : length file ≡ file_size (contents file)
