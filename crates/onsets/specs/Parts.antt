-- What only the contracts of unchecked parts cite: a reader of the promises may skip it. Assumes nothing.
use Rattle.std.specs.Prelude.{ℕ, Bool, ◌&&◌, List, ltb, pos, ◌-ℤ◌, Float}
use Rattle.std.specs.Float.Ieee.{lt}
use Rattle.base.specs.Whole.{max_z}
use Rattle.base.specs.Floats.{◌⊖◌}
use Rattle.frames.specs.Frames.{frame_at, frame_ceil, frame_seconds}
use Rattle.onsets.specs.Onsets.{pause, max_back, onset_frame}

-- ---- i > 0 && w.start - prev_end < PAUSE
unfoldable pub goes_on : ℕ → Float → Float → Bool
goes_on i prev_end start = ltb 0 i && lt (start ⊖ prev_end) pause

-- ---- frame_seconds(onset)
unfoldable pub onset_seconds : List Bool → Float → Float → Float
onset_seconds row prev_end start = frame_seconds (onset_frame row (frame_at start) (max_z (frame_ceil prev_end) (frame_at start -ℤ pos max_back)))
