-- What came of a job file, by what is kept of it: its table, the bytes of its words and spans, and the levels of its samples (document 01, "Tally,
-- peak, job file"). Assumes nothing.
use Rattle.std.specs.Prelude.{ℕ, ◌+◌, ◌*◌, ◌/◌, ◌≤◌, cond, ◌≡◌, List, ◌++◌, length, take, Float}
use Rattle.envelope.specs.Envelope.{levels}
use Rattle.job_layout.specs.Layout.{Contents, contents, table_size, word_size, span_size, sample_size, too_many, gapless, file_size, samples_from}

-- ---- How many bytes words and spans have.
abbrev pub body_size : Contents → ℕ
body_size c = word_size * c.words + span_size * c.spans

-- ---- The file is the `came` bytes that came: the table, words and spans as they stand in `bodies`, then the samples, and what came after them.
-- Where the samples came, `ls` begins with their levels; the samples themselves are not kept.
pub record Came (came : ℕ) (table bodies : List ℕ) (ls : List Float) (file : List ℕ) : Type 0 where
  pub samples : List ℕ
  pub more : List ℕ
  pub file-is : file ≡ take came (table ++ (take (body_size (contents table)) bodies ++ (samples ++ more)))
  pub long : length file ≡ came
  pub whole-samples : file_size (contents table) ≤ came → length samples ≡ sample_size * (contents table).samples
  pub levels-are : file_size (contents table) ≤ came → take ((contents table).samples / 160) ls ≡ levels (samples_from samples 0 (contents table).samples)

-- ---- How many bytes decide what is printed: the table where it is refused, and else the file's length by its table, and one byte more.
unfoldable pub wanted : Contents → ℕ
wanted c = cond (too_many c) table_size (cond (gapless c) (file_size c + 1) table_size)
