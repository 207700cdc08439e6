-- fit.rs, last_run, line by line, and the call. A `row` says which frames are loud; frames are whole numbers, as there. Assumes nothing.
use Rattle.base.specs.declared.Times.{Times}
use Rattle.base.specs.declared.Refusal.{Refusal}
use Rattle.std.specs.Prelude.{ℕ, ◌/◌, ◌≤◌, ◌≡◌, Bool, cond, ◌&&◌, ◌||◌, List, [], ◌∷◌, ℤ, pos, negsuc, ◌+ℤ◌, ◌-ℤ◌, length, Float, Ok, Err, Option, Some, None, Result}
use Rattle.std.specs.Int.Signed.{lt_z, non_neg}
use Rattle.base.specs.Whole.{to_nat, min_z}
use Rattle.base.specs.Loop.{Turn, on, out, range_back}
use Rattle.base.specs.Words.{end_silence, times}
use Rattle.base.specs.Refusals.{Test, test, first, Rule}
use Rattle.base.specs.declared.Refusal.TheVariants.{Time, Counts, Levels}
use Rattle.limits.specs.Limits.{bad_time, many_samples, other_levels}
use Rattle.word_calls.specs.Within.{Within}
use Rattle.frames.specs.Frames.{frame_from_zero, frame_seconds}
use Rattle.envelope.specs.Envelope.{loud, loud_row}
use Rattle.last_run.specs.declared.FrameRun.{FrameRun}

-- ---- MIN_RUN: the last frame of a run that counts lies so many frames behind the first, or more.
abbrev pub min_run : ℕ
min_run = 3

-- ---- let mut end = -1; let mut start = -1;
pub record Ends : Type 0 where
  pub end : ℤ
  pub start : ℤ

-- ---- if env.loud(k) { if end < 0 { end = k; } start = k; } else if end >= 0 && start - k > END_SILENCE as i64 { break; }
abbrev pub back_step : Bool → ℤ → Ends → Turn Ends
back_step is_loud k s =
    cond is_loud (on (record { end = cond (lt_z s.end (pos 0)) k s.end; start = k }))
    (cond (non_neg s.end && lt_z (pos end_silence) (s.start -ℤ k)) (out s) (on s))

abbrev pub back_turn : List Bool → ℤ → Ends → Turn Ends
back_turn row k s = back_step (loud row k) k s

-- ---- let mut k = hi - 1; while k >= lo { .. k -= 1; }
unfoldable pub ends_between : List Bool → ℤ → ℤ → Ends
ends_between row lo hi = range_back (back_turn row) (hi -ℤ pos 1) lo (record { end = negsuc 0; start = negsuc 0 })

-- ---- A run's first and last frame.
abbrev pub frames : ℕ → ℕ → FrameRun
frames first last = record { first = first; last = last }

-- ---- if end < 0 || end - start < MIN_RUN { return None; }: the first and the last frame of the run, or none.
unfoldable pub frames_of : Ends → Option FrameRun
frames_of s = cond (lt_z s.end (pos 0) || lt_z (s.end -ℤ s.start) (pos min_run)) None (Some (frames (to_nat s.start) (to_nat s.end)))

-- ---- The last run of the frames from lo to before hi.
unfoldable pub frame_run : List Bool → ℤ → ℤ → Option FrameRun
frame_run row lo hi = frames_of (ends_between row lo hi)

-- ---- Some((frame_seconds(start), frame_seconds(end + 1)))
abbrev pub seconds_of : Option FrameRun → Option Times
seconds_of (Some run) = Some (times (frame_seconds (pos run.first)) (frame_seconds (pos run.last +ℤ pos 1)))
seconds_of None = None

-- ---- last_run: let lo = frame_from_zero(from); let mut k = env.frames().min(frame_from_zero(to)) - 1;
unfoldable pub last_run : List Bool → Float → Float → Option Times
last_run row from to = seconds_of (frame_run row (frame_from_zero from) (min_z (pos (length row)) (frame_from_zero to)))

-- ======== What the public call answers: "either a start and an end in seconds or no sound", or a refusal.

-- ---- Refusals 4, 1, 7, in this order: both times are within the range of times.
unfoldable pub tests : ℕ → ℕ → Float → Float → List Test
tests levels count from to =
    test (many_samples count) Counts ∷ test (bad_time from || bad_time to) Time ∷ test (other_levels levels count) Levels ∷ []

abbrev pub by_rule : Rule → Option Times → Result (Option Times) Refusal
by_rule (Ok u) run = Ok run
by_rule (Err r) run = Err r

unfoldable pub last_run_call : List Float → Float → ℕ → Float → Float → Result (Option Times) Refusal
last_run_call levels floor count from to = by_rule (first (tests (length levels) count from to)) (last_run (loud_row floor levels) from to)

-- ---- "How much is taken": samples and both times within the limits, and as many levels as samples / 160, rounded down.
abbrev pub Taken : ℕ → ℕ → Float → Float → Type 0
Taken levels count from to = (count ≤ 57600000) × ((Within from × Within to) × (levels ≡ count / 160))
