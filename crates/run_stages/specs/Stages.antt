-- Document 01, "Full run", after the levels. A `row` says which frames are loud. Assumes nothing.
use Rattle.std.specs.Prelude.{ℕ, Bool, cond, List, eqb, length, Float}
use Rattle.base.specs.Words.{Words, Spans, edges, with_edges, count}
use Rattle.tails.specs.Tails.{hand_back_tails}
use Rattle.onsets.specs.Onsets.{snap_onsets}
use Rattle.ends.specs.Ends.{snap_ends}
use Rattle.phrase_align.specs.PhraseAlign.{align_phrases, in_their_places}
use Rattle.fit_to_sound.specs.FitToSound.{fit_to_sound}
use Rattle.fit_file.specs.FitFile.{fit_file, duration_of}
use Rattle.pieces.specs.Pieces.{Piece, pieces}
use Rattle.loops.specs.Loops.{collapse_loops}

-- ======== The stages on the words that loops left, in their order.

-- ---- "tails, onsets, ends"
unfoldable pub snapped : List Bool → Float → Words → Words
snapped row duration ws =
    let tails = hand_back_tails row ws.letters (edges ws.starts ws.ends) in
    let onsets = snap_onsets row tails in
    with_edges (snap_ends row duration ws.units onsets) ws

-- ---- The final words, and what the phrase places hold.
pub record Settled : Type 0 where
  pub words : Words
  pub phrases : List ℕ

-- ---- "placing, fit by phrase". "Placing starts from the count that loops left; phrase places past that count stay."
unfoldable pub by_phrase : List Bool → Float → Spans → List ℕ → Words → Settled
by_phrase row duration spans phrases ws =
    let placed = align_phrases ws spans in
    let all = placed.words in
    record {
      words = with_edges (fit_file row duration all.letters placed.phrases (edges spans.starts spans.ends) (edges all.starts all.ends)) all;
      phrases = (in_their_places placed (count ws) phrases).phrases;
    }

-- ---- "no placing, the phrase places stay, and the fit is over the whole recording"
unfoldable pub as_one : List Bool → Float → List ℕ → Words → Settled
as_one row duration phrases ws =
    record { words = with_edges (fit_to_sound row duration ws.letters (edges ws.starts ws.ends)) ws; phrases = phrases }

-- ---- "Without spans", or with them.
unfoldable pub settled : List Bool → Float → Spans → List ℕ → Words → Settled
settled row duration spans phrases ws =
    cond (eqb (length spans.starts) 0) (as_one row duration phrases ws) (by_phrase row duration spans phrases ws)

-- ======== The pieces, and the words through all stages.

-- ---- What is made of a recording: its pieces, the final words, what the phrase places hold, and whether a loop was found.
pub record Run : Type 0 where
  pub pieces : List Piece
  pub words : Words
  pub phrases : List ℕ
  pub found : Bool

-- ---- "pieces, loops, tails, onsets, ends (duration samples / 16000), placing, fit by phrase", from the rows of loud and of quiet frames.
unfoldable pub run_on : List Bool → List Bool → ℕ → Spans → List ℕ → Words → Run
run_on loud quiet samples spans phrases ws =
    let duration = duration_of samples in
    let left = collapse_loops ws in
    let last = settled loud duration spans phrases (snapped loud duration left.words) in
    record { pieces = pieces quiet samples; words = last.words; phrases = last.phrases; found = left.found }
