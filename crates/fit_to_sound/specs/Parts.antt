-- What only the contracts of unchecked parts cite; a reader of the public call may skip it. Assumes nothing.
use Rattle.std.specs.Prelude.{ℕ, ◌+◌, Bool, cond, not, ◌&&◌, List, ℤ, pos, length, Float, Option, Some, None}
use Rattle.std.specs.Int.Signed.{lt_z}
use Rattle.std.specs.Float.Ieee.{lt, le}
use Rattle.base.specs.Whole.{to_nat}
use Rattle.base.specs.Floats.{◌⊖◌, ◌⊕◌, ◌⊗◌, num}
use Rattle.base.specs.declared.Times.{Times}
use Rattle.frames.specs.Frames.{frame_at, frame_seconds}
use Rattle.fit_to_sound.specs.FitToSound.{before_next, stop_at, rise_frame, moved_to, max_need, letter_time}
use Rattle.base.specs.Words.{loose}
use Rattle.js.specs.Js.{js_min}

-- ======== `word_starts`

-- ---- The index at which a search stops before the next word; `last` where there is none.
unfoldable pub stop_index : Option Float → ℕ → ℕ
stop_index (Some s) last = to_nat (frame_at (s ⊖ before_next))
stop_index None last = last

-- ---- A word in silence at frame f: what rise_of does with it.
unfoldable pub rise_from : List Bool → ℤ → Option Float → Times → Times
rise_from row f next w =
    let stop = stop_at (pos (length row)) next w.start in
    let k = rise_frame row f stop in
    cond (not (lt_z k stop)) w (moved_to (frame_seconds k) w)

-- ======== `word_ends`

-- ---- So many quiet frames in a row, with one frame more.
unfoldable pub counted : Bool → ℕ → ℕ
counted loud run = cond loud 0 (run + 1)

-- ---- The test of step 5.
unfoldable pub is_loose : ℕ → Float → Times → Bool
is_loose letters end w = lt (end ⊕ loose) w.end && le (js_min max_need (letter_time ⊗ num letters)) (end ⊖ w.start)
