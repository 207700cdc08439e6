-- Document 01, "Tally": the loud frames under each span's words, and the call. A `row` says which frames are loud. Assumes nothing.
use Rattle.base.specs.Refusals.{Rule}
use Rattle.std.specs.Prelude.{ℕ, suc, ◌+◌, Bool, false, cond, ◌&&◌, List, ◌++◌, leb, ltb, eqb, length, get_or, drop, Float, Ok, Err}
use Rattle.base.specs.Whole.{to_nat}
use Rattle.base.specs.Loop.{each, table}
use Rattle.base.specs.Words.{Words, Spans, Edges, edges, times_at}
use Rattle.base.specs.declared.Times.{Times}
use Rattle.frames.specs.Frames.{frame_from_zero}
use Rattle.envelope.specs.Envelope.{loud_row}
use Rattle.word_calls.specs.Calls.{phrases_rule}

-- ---- "the loud frames from start's frame to before end's frame, both from zero": these two frames, and whether a word lies over frame k.
abbrev pub start_frame : Times → ℕ
start_frame w = to_nat (frame_from_zero w.start)

abbrev pub end_frame : Times → ℕ
end_frame w = to_nat (frame_from_zero w.end)

unfoldable pub covers : Times → ℕ → Bool
covers w k = leb (start_frame w) k && ltb k (end_frame w)

-- ---- How many loud frames of the row a word covers.
unfoldable pub cover_turn : List Bool → Times → ℕ → ℕ → ℕ
cover_turn row w k n = cond (get_or row k false && covers w k) (suc n) n

unfoldable pub loud_under : List Bool → Times → ℕ
loud_under row w = each (cover_turn row w) (length row) 0 0

-- ---- "the sum over its words"; "A span's words are those with its number"
unfoldable pub span_turn : List Bool → List ℕ → Edges → ℕ → ℕ → ℕ → ℕ
span_turn row phrases es p i n = cond (eqb (get_or phrases i 0) p) (n + loud_under row (times_at es i)) n

unfoldable pub span_tally : List Bool → List ℕ → Edges → ℕ → ℕ
span_tally row phrases es p = each (span_turn row phrases es p) (length es.starts) 0 0

-- ---- "for each span": of so many spans
unfoldable pub tallies : List Bool → List ℕ → Edges → ℕ → List ℕ
tallies row phrases es spans = table (span_tally row phrases es) spans 0

-- ---- What the call gives back, and what the lent places hold afterwards.
pub record Output : Type 0 where
  pub answer : Rule
  pub places : List ℕ

abbrev pub output : Rule → List ℕ → Output
output a p = record { answer = a; places = p }

-- ---- By what its tests find: the tallies of so many spans, and "further places stay"; or the places as they are.
abbrev pub by_rule : Rule → List ℕ → ℕ → List ℕ → Output
by_rule (Ok u) given spans places = output (Ok tt) (given ++ drop spans places)
by_rule (Err r) given spans places = output (Err r) places

-- ---- Refusals 3, 4, 1, 2, 7, 6, in this order. "Needs one place per span".
unfoldable pub tally_call : Words → List ℕ → Spans → List Float → Float → ℕ → List ℕ → Output
tally_call ws phrases spans levels floor samples places =
    by_rule (phrases_rule ws (length phrases) spans (length levels) samples (length places) (length spans.starts))
    (tallies (loud_row floor levels) phrases (edges ws.starts ws.ends) (length spans.starts)) (length spans.starts) places
