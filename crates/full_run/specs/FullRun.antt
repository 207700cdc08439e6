-- Document 01, "Full run". Assumes nothing.
use Rattle.base.specs.declared.Refusal.{Refusal}
use Rattle.std.specs.Prelude.{ℕ, ◌≤◌, min, List, ◌++◌, map, length, drop, Float, Ok, Err, Result}
use Rattle.base.specs.Words.{Words, Spans, count, words_in_places}
use Rattle.base.specs.Refusals.{Rule}
use Rattle.limits.specs.declared.Applies.{Applies}
use Rattle.limits.specs.Order.{also, chain}
use Rattle.word_calls.specs.Within.{WordsWithin, SpansWithin}
use Rattle.word_calls.specs.Calls.{of_words, of_samples, of_spans, of_places}
use Rattle.envelope.specs.Envelope.{frames, levels, floor, loud_row, quiet_row}
use Rattle.pieces.specs.Pieces.{need, over}
use Rattle.run_stages.specs.Stages.{Run, run_on}
use Rattle.full_run.specs.declared.Report.{Report}

-- ---- What a call is given: the recording, words and spans, what the lent places hold, and how many words find place in the work space.
pub record Input : Type 0 where
  pub samples : List Float
  pub words : Words
  pub spans : Spans
  pub phrases : List ℕ
  pub levels : List Float
  pub piece_starts : List ℕ
  pub piece_ends : List ℕ
  pub work : ℕ

abbrev pub input : List Float → Words → Spans → List ℕ → List Float → List ℕ → List ℕ → ℕ → Input
input samples ws spans phrases ls s e work =
    record { samples = samples; words = ws; spans = spans; phrases = phrases; levels = ls; piece_starts = s; piece_ends = e; work = work }

-- ---- "Levels, ..": the run on the recording's own levels and their floor.
unfoldable pub run_of : Input → Run
run_of i =
    let ls = levels i.samples in
    run_on (loud_row (floor ls) ls) (quiet_row (floor ls) ls) (length i.samples) i.spans i.phrases i.words

-- ---- Refusals 3, 4, 1, 2, 6: "It needs the places of its levels and pieces, and a phrase number and a work place for every word."
unfoldable pub run_applies : Input → Applies
run_applies i =
    also (also (of_words i.words) (also (of_spans i.spans) (of_samples (length i.samples))))
    (also (of_places (length i.levels) (frames i.samples))
    (also (of_places (min (length i.piece_starts) (length i.piece_ends)) (need (frames i.samples)))
    (also (of_places (length i.phrases) (count i.words))
    (of_places i.work (count i.words)))))

-- ---- The same in plain words, with "How much is taken": words, spans and samples within the limits, and the places that are needed.
pub record RunWithin (i : Input) : Type 0 where
  pub words-within : WordsWithin i.words
  pub spans-within : SpansWithin i.spans
  pub few-samples : length i.samples ≤ 57600000
  pub level-places : frames i.samples ≤ length i.levels
  pub start-places : need (frames i.samples) ≤ length i.piece_starts
  pub end-places : need (frames i.samples) ≤ length i.piece_ends
  pub phrase-places : count i.words ≤ length i.phrases
  pub work-places : count i.words ≤ i.work

-- ---- What a call gives back, and what the lent places hold afterwards.
pub record Output : Type 0 where
  pub answer : Result Report Refusal
  pub words : Words
  pub phrases : List ℕ
  pub levels : List Float
  pub piece_starts : List ℕ
  pub piece_ends : List ℕ

abbrev pub output : Result Report Refusal → Words → List ℕ → List Float → List ℕ → List ℕ → Output
output a ws phrases ls s e = record { answer = a; words = ws; phrases = phrases; levels = ls; piece_starts = s; piece_ends = e }

-- ---- "Given back: the floor, the piece count, the final word count and `found`."
abbrev pub report_of : Float → Run → Report
report_of f run = record { floor = f; pieces = length run.pieces; words = count run.words; found = run.found }

-- ---- The words in their places: "Places past it become all zero." The levels and the pieces in theirs: "further places stay".
abbrev pub accepted : Input → Run → Output
accepted i run =
    let ls = levels i.samples in
    output (Ok (report_of (floor ls) run)) (words_in_places (count i.words) run.words) run.phrases
    (ls ++ drop (length ls) i.levels) (over (map (λ p. p.start) run.pieces) i.piece_starts) (over (map (λ p. p.end) run.pieces) i.piece_ends)

abbrev pub by_rule : Rule → Input → Output
by_rule (Ok u) i = accepted i (run_of i)
by_rule (Err r) i = output (Err r) i.words i.phrases i.levels i.piece_starts i.piece_ends

unfoldable pub full_run : Input → Output
full_run i = by_rule (chain (run_applies i)) i
