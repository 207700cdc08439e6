-- pieces.rs, and document 01's "Pieces". A `row` says which frames are quiet. Assumes nothing.
use Rattle.base.specs.declared.Refusal.{Refusal}
use Rattle.std.specs.Prelude.{ℕ, ◌+◌, ◌-◌, ◌/◌, ◌*◌, ◌<◌, ◌≤◌, ◌≡◌, Bool, true, false, cond, ◌&&◌, ◌||◌, List, [], ◌∷◌, ◌++◌, map, get_or, length, drop, leb, ltb, eqb, ℤ, pos, Float, Ok, Err, Result}
use Rattle.base.specs.Loop.{each, run, Turn, on, out}
use Rattle.base.specs.Refusals.{Test, test, first, Rule}
use Rattle.base.specs.declared.Refusal.TheVariants.{Counts, Levels, Places, Cut}
use Rattle.limits.specs.Limits.{many_samples, other_levels, few_places}
use Rattle.envelope.specs.Envelope.{hop, quiet_row}

-- ======== The search for a cut.

-- ---- MAX_FRAMES, the most frames in one piece; SEARCH_FRAMES, in which a cut is searched; MIN_QUIET, the least silence that can hold one.
abbrev pub max_frames : ℕ
max_frames = 2000

abbrev pub search_frames : ℕ
search_frames = 800

abbrev pub min_quiet : ℕ
min_quiet = 8

-- ---- let mut best: Option<(usize, usize)>: the longest quiet run so far, and the frame in its middle.
pub data Best : Type 0 where
  none : Best
  some : ℕ → ℕ → Best

pub record Search : Type 0 where
  pub best : Best
  pub run : ℕ

-- ---- best.is_none_or(|(longest, _)| run > longest)
abbrev pub longer : ℕ → Best → Bool
longer run none = true
longer run (some longest at) = ltb longest run

-- ---- if quiet { run += 1 } else { run = 0 }; if run >= MIN_QUIET && longer { best = Some((run, k - run / 2)) }
abbrev pub counted : Bool → ℕ → ℕ
counted quiet run = cond quiet (run + 1) 0

unfoldable pub search_turn : List Bool → ℕ → Search → Search
search_turn row k s =
    let run = counted (get_or row k false) s.run in
    record { best = cond (leb min_quiet run && longer run s.best) (some run (k - run / 2)) s.best; run = run }

-- ---- for k in from + MAX_FRAMES - SEARCH_FRAMES..from + MAX_FRAMES
unfoldable pub searched : List Bool → ℕ → Search
searched row from = each (search_turn row) search_frames (from + (max_frames - search_frames)) (record { best = none; run = 0 })

-- ---- best.map_or(from + MAX_FRAMES, |(_, at)| at)
abbrev pub at_best : ℕ → Best → ℕ
at_best other none = other
at_best other (some run at) = at

unfoldable pub cut : List Bool → ℕ → ℕ
cut row from = at_best (from + max_frames) (searched row from).best

-- ======== A recording of `count` samples in pieces, and the call.

-- ---- A piece: its first sample, and its end.
pub record Piece : Type 0 where
  pub start : ℕ
  pub end : ℕ

-- ---- The loop's state: the pieces so far, where the next starts, and whether a cut was not beyond its piece's start.
pub record State : Type 0 where
  pub pieces : List Piece
  pub from : ℕ
  pub stuck : Bool

abbrev pub push : State → Piece → ℕ → State
push s p from = record { pieces = s.pieces ++ (p ∷ []); from = from; stuck = s.stuck || leb from s.from }

-- ---- "with 2,000 or fewer frames left, the last piece ends at the sample count"
abbrev pub last : ℕ → State → State
last count s = record { pieces = s.pieces ++ (record { start = s.from * hop; end = count } ∷ []); from = s.from; stuck = s.stuck }

-- ---- while from < frames { .. }, a turn.
unfoldable pub piece_turn : List Bool → ℕ → State → Turn State
piece_turn row count s =
    cond (ltb s.from (length row))
    (cond (leb (length row - s.from) max_frames)
    (out (last count s))
    (on (push s (record { start = s.from * hop; end = cut row s.from * hop }) (cut row s.from))))
    (out s)

-- ---- The whole loop. Every turn but the last ends a frame further on, so there are no more turns than frames.
unfoldable pub walked : List Bool → ℕ → State
walked row count = run (λ (k : ℤ). piece_turn row count) (length row) (pos 0) (on (record { pieces = []; from = 0; stuck = false }))

unfoldable pub pieces : List Bool → ℕ → List Piece
pieces row count = (walked row count).pieces

-- ---- The number of pieces.
unfoldable pub piece_count : List Bool → ℕ
piece_count row = length (pieces row 0)

-- ---- "Needs (frames - 1) / 1,203 rounded down, plus 1, places; none for no frame."
unfoldable pub need : ℕ → ℕ
need frames = cond (eqb frames 0) 0 ((frames - 1) / 1203 + 1)

-- ---- "How much is taken", of pieces: samples within the limit, as many levels as samples / 160, rounded down, and the places that the pieces need.
pub record Ready (frames count starts ends : ℕ) : Type 0 where
  pub few : count ≤ 57600000
  pub all : frames ≡ count / 160
  pub from : need frames ≤ starts
  pub to : need frames ≤ ends

-- ---- The call: refusals 4, 7, 6, 8, in this order; what is given back and what the lent places hold afterwards.
pub record Output : Type 0 where
  pub answer : Result ℕ Refusal
  pub starts : List ℕ
  pub ends : List ℕ

abbrev pub output : Result ℕ Refusal → List ℕ → List ℕ → Output
output a s e = record { answer = a; starts = s; ends = e }

unfoldable pub tests : List Float → Float → ℕ → ℕ → ℕ → List Test
tests levels floor count starts ends =
    test (many_samples count) Counts
    ∷ test (other_levels (length levels) count) Levels
    ∷ test (few_places starts (need (length levels)) || few_places ends (need (length levels))) Places
    ∷ test (walked (quiet_row floor levels) count).stuck Cut
    ∷ []

-- ---- "Places past the pieces found stay."
abbrev pub over : List ℕ → List ℕ → List ℕ
over found places = found ++ drop (length found) places

abbrev pub accepted : List Piece → List ℕ → List ℕ → Output
accepted ps s e = output (Ok (length ps)) (over (map (λ p. p.start) ps) s) (over (map (λ p. p.end) ps) e)

abbrev pub by_rule : Rule → List Piece → List ℕ → List ℕ → Output
by_rule (Ok u) ps s e = accepted ps s e
by_rule (Err r) ps s e = output (Err r) s e

unfoldable pub pieces_call : List Float → Float → ℕ → List ℕ → List ℕ → Output
pieces_call levels floor count s e = by_rule (first (tests levels floor count (length s) (length e))) (pieces (quiet_row floor levels) count) s e

-- ---- Document 02: "every cut lies at least 1,203 frames beyond its piece's start".
abbrev pub least_cut : ℕ
least_cut = 1203

-- ---- The same of n pieces in their places: the end of each but the last is its cut; it lies that far or further beyond the start, and there the
-- next one starts.
pub record CutsApart (n : ℕ) (starts ends : List ℕ) : Type 0 where
  pub beyond : (i : ℕ) → i + 1 < n → get_or starts i 0 + least_cut * hop ≤ get_or ends i 0
  pub next : (i : ℕ) → i + 1 < n → get_or starts (i + 1) 0 ≡ get_or ends i 0
