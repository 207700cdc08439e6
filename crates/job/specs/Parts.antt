-- What only the contracts of unchecked parts cite; a reader of the printed text may skip it. Assumes nothing.
use Rattle.base.specs.declared.Refusal.{Refusal}
use Rattle.full_run.specs.declared.Report.{Report}
use Rattle.std.specs.Prelude.{ℕ, ◌+◌, ◌*◌, ◌/◌, ◌≤◌, ◌≡◌, Ok, List, length, take, drop, Float, Err, Result}
use Rattle.envelope.specs.Envelope.{levels}
use Rattle.job_text.specs.Parts.{NoNans}
use Rattle.job_layout.specs.Layout.{contents, table_size, word_size, span_size, sample_size, file_size, job_samples}
use Rattle.job_layout.specs.Parts.{plan_of}
use Rattle.job_layout.specs.declared.Numbers.{Numbers}

-- ---- A file that holds so many words, spans and samples, with these bytes of words and spans, and these levels of its samples.
pub record Holding (file bodies : List ℕ) (ls : List Float) (words spans samples : ℕ) : Type 0 where
  pub table : plan_of (contents file) ≡ Ok (record { words = words; spans = spans; samples = samples })
  pub long : length file ≡ file_size (contents file)
  pub bodies-are : bodies ≡ take (word_size * words + span_size * spans) (drop table_size file)
  pub levels-are : ls ≡ levels (job_samples file)

-- ---- A whole table that holds, and so many bytes in all as it says.
pub record Whole (came : ℕ) (table : List ℕ) (numbers : Numbers) : Type 0 where
  pub table-came : table_size ≤ came
  pub holds : plan_of (contents table) ≡ Ok numbers
  pub words-few : numbers.words ≤ 512
  pub spans-few : numbers.spans ≤ 64
  pub samples-few : numbers.samples ≤ 960159
  pub came-all : came ≡ table_size + (word_size * numbers.words + span_size * numbers.spans) + sample_size * numbers.samples

-- ---- What an answer prints is there, and finds room: 64 bytes for each line.
unfoldable pub Printable : Result Report Refusal → List Float → List Float → List ℕ → List ℕ → List ℕ → ℕ → Type 0
Printable (Err why) starts ends phrases firsts lasts room = 64 ≤ room
Printable (Ok report) starts ends phrases firsts lasts room =
    (report.pieces ≤ length firsts)
    × ((report.pieces ≤ length lasts)
    × ((report.words ≤ length starts)
    × ((report.words ≤ length ends)
    × ((report.words ≤ length phrases)
    × ((64 * (report.pieces + report.words) ≤ room)
    × (NoNans report.words starts × NoNans report.words ends))))))

-- ---- Lists that belong together are as long as each other, the bodies are there, and what is printed finds room.
pub record Sized
    (bodies levels count starts ends letters units keys span_starts span_ends counts phrases piece_starts piece_ends work_starts work_ends work_letters room : ℕ)
    : Type 0 where
  pub whole : word_size * starts + span_size * span_starts ≤ bodies
  pub own : levels ≡ count / 160
  pub few : starts ≤ 512
  pub ends-as-long : ends ≡ starts
  pub letters-as-long : letters ≡ starts
  pub units-as-long : units ≡ starts
  pub keys-as-long : keys ≡ starts
  pub span-ends-as-long : span_ends ≡ span_starts
  pub counts-as-long : counts ≡ span_starts
  pub phrases-as-long : phrases ≡ starts
  pub piece-starts-five : piece_starts ≡ 5
  pub piece-ends-five : piece_ends ≡ 5
  pub work-starts-as-long : work_starts ≡ starts
  pub work-ends-as-long : work_ends ≡ starts
  pub work-letters-as-long : work_letters ≡ starts
  pub lines_fit : 33088 ≤ room
