-- Document 01's three examples of the last run; and inputs for each answer of the call: a sound, no sound, and each refusal. By computing them. Assumes nothing.
use Rattle.base.specs.Words.{times}
use Rattle.std.specs.Prelude.{Ok, Err, Some, None}
use Prim.Native.Nat.{ℕ}
use mathlib.Core.Path.{◌≡◌, refl}
use mathlib.Core.Bool.{Bool, true, false}
use mathlib.Core.List.{List, [], ◌++◌}
use lib.IntN.{pos}
use lib.ListN.{replicate}
use lib.Count.{count_trailing_zeros}
use lib.Ieee.{Float, nan, fin, binary64, round, size, span, climb, units, odd, le, lt, eq, mul, div, of_int, of_bits, of_fields}
use Rattle.base.specs.Loop.{run_back}
use Rattle.base.specs.Refusals.{first}
use Rattle.base.specs.declared.Refusal.TheVariants.{Counts, Time, Levels}
use Rattle.limits.specs.Limits.{time_of}
use Rattle.frames.specs.Frames.{floor_i64, frame_at, frame_from_zero, frame_seconds}
use Rattle.envelope.specs.Envelope.{loud_row}
use Rattle.last_run.specs.LastRun.{ends_between, frames_of, frame_run, last_run, tests, last_run_call}

-- so many hundredths of a second
abbrev time : ℕ → Float
time n = round binary64 false n 100

-- so many frames that are loud, or are not
abbrev loud_frames : ℕ → List Bool
loud_frames n = replicate n true

abbrev quiet_frames : ℕ → List Bool
quiet_frames n = replicate n false

-- ---- "Loud 0 to 3 and 19 to 22, from 0 to 0.23: last run (0, 0.23)."
bridges-15 : last_run (loud_frames 4 ++ (quiet_frames 15 ++ loud_frames 4)) (time 0) (time 23) ≡ Some (times (time 0) (time 23))
unfolding last_run frame_run ends_between run_back frames_of frame_from_zero frame_at floor_i64 frame_seconds mul div of_int round size span climb units odd of_bits of_fields count_trailing_zeros
bridges-15 = refl

-- ---- "Loud 0 to 3 and 20 to 23, to 0.24: (0.2, 0.24)."
stops-at-16 : last_run (loud_frames 4 ++ (quiet_frames 16 ++ loud_frames 4)) (time 0) (time 24) ≡ Some (times (time 20) (time 24))
unfolding last_run frame_run ends_between run_back frames_of frame_from_zero frame_at floor_i64 frame_seconds mul div of_int round size span climb units odd of_bits of_fields count_trailing_zeros
stops-at-16 = refl

-- ---- "Loud 10 to 12 only: no sound."
three-loud : last_run (quiet_frames 10 ++ loud_frames 3) (time 0) (time 24) ≡ None
unfolding last_run frame_run ends_between run_back frames_of frame_from_zero frame_at floor_i64 mul div round size span climb units odd of_bits of_fields count_trailing_zeros
three-loud = refl

-- ---- the call: 4 frames of level 2 over a floor of 1, in 640 samples
abbrev one : Float
one = fin false 1 (pos 0)

abbrev heard : List Float
heard = replicate 4 (fin false 1 (pos 1))

answers-a-sound : last_run_call heard one 640 (time 0) (time 24) ≡ Ok (Some (times (time 0) (time 4)))
unfolding last_run_call tests first time_of loud_row last_run frame_run ends_between run_back frames_of frame_from_zero frame_at floor_i64 frame_seconds mul div lt le eq of_int round size span climb units odd of_bits of_fields count_trailing_zeros
answers-a-sound = refl

answers-no-sound : last_run_call [] one 0 (time 0) (time 24) ≡ Ok None
unfolding last_run_call tests first time_of loud_row last_run frame_run ends_between run_back frames_of frame_from_zero frame_at floor_i64 mul div lt le eq round size span climb units odd of_bits of_fields count_trailing_zeros
answers-no-sound = refl

refuses-4 : last_run_call heard one 57600001 (time 0) (time 24) ≡ Err Counts
unfolding last_run_call tests first
refuses-4 = refl

refuses-1 : last_run_call heard one 640 (time 0) nan ≡ Err Time
unfolding last_run_call tests first time_of lt le eq round size span climb units odd of_bits of_fields count_trailing_zeros
refuses-1 = refl

refuses-7 : last_run_call heard one 800 (time 0) (time 24) ≡ Err Levels
unfolding last_run_call tests first time_of lt le eq round size span climb units odd of_bits of_fields count_trailing_zeros
refuses-7 = refl
