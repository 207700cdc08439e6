-- onsets.rs, snap_onsets, line by line. A `row` says which frames are loud; frames are whole numbers, as there. Assumes nothing.
use Rattle.std.specs.Prelude.{ℕ, ◌+◌, ◌-◌, Bool, cond, ◌&&◌, List, leb, ltb, ℤ, pos, ◌-ℤ◌, length, get_or, Float}
use Rattle.std.specs.Float.{nan, binary64}
use Rattle.std.specs.Float.Ieee.{of_bits, lt}
use Rattle.base.specs.Whole.{max_z}
use Rattle.base.specs.Loop.{Turn, on, out, each, range_back}
use Rattle.base.specs.Floats.{◌⊖◌}
use Rattle.base.specs.Words.{Words, Edges, edges, times, times_at, set_times, edge_quiet}
use Rattle.base.specs.declared.Times.{Times}
use Rattle.js.specs.Js.{js_min}
use Rattle.frames.specs.Frames.{frame_at, frame_ceil, frame_seconds}
use Rattle.envelope.specs.Envelope.{loud, loud_row}
use Rattle.word_calls.specs.Calls.{sound_rule, Output, moved}

-- ---- PAUSE, 0.15 s: from here on, what lies between two words is a pause.
abbrev pub pause : Float
pause = of_bits binary64 0x3fc3_3333_3333_3333

-- ---- MAX_BACK: so many frames before its own a start may reach.
abbrev pub max_back : ℕ
max_back = 60

-- ---- if env.loud(k) { onset = k; quiet = 0; } else { quiet += 1; if quiet >= EDGE_QUIET { break; } }
pub record Onset : Type 0 where
  pub onset : ℤ
  pub quiet : ℕ

abbrev pub back_turn : List Bool → ℤ → Onset → Turn Onset
back_turn row k s =
    cond (loud row k) (on (record { onset = k; quiet = 0 }))
    (let s' : Onset = record { onset = s.onset; quiet = s.quiet + 1 } in cond (leb edge_quiet s'.quiet) (out s') (on s'))

-- ---- let mut onset = f; let mut quiet = 0; let mut k = f - 1; while k >= stop { .. k -= 1; }
unfoldable pub onset_frame : List Bool → ℤ → ℤ → ℤ
onset_frame row f stop = (range_back (back_turn row) (f -ℤ pos 1) stop (record { onset = f; quiet = 0 })).onset

-- ---- One word, word i: a start that follows a pause.
unfoldable pub onset_of : List Bool → ℕ → Float → Times → Times
onset_of row i prev_end w =
    cond (ltb 0 i && lt (w.start ⊖ prev_end) pause) w
    (let f = frame_at w.start in
    let stop = max_z (frame_ceil prev_end) (f -ℤ pos max_back) in
    times (js_min w.start (frame_seconds (onset_frame row f stop))) w.end)

-- ---- let prev_end = if i > 0 { words[i - 1].end } else { 0.0 };
unfoldable pub prev_end : List Float → ℕ → Float
prev_end ends i = cond (ltb 0 i) (get_or ends (i - 1) nan) (of_bits binary64 0)

unfoldable pub onset_turn : List Bool → ℕ → Edges → Edges
onset_turn row i es = set_times es i (onset_of row i (prev_end es.ends i) (times_at es i))

-- ---- snap_onsets: for i in 0..words.len()
unfoldable pub snap_onsets : List Bool → Edges → Edges
snap_onsets row es = each (onset_turn row) (length es.starts) 0 es

-- ---- The public call: refusals 3, 4, 1, 2, 7, in this order.
unfoldable pub onsets_call : Words → List Float → Float → ℕ → Output
onsets_call ws levels floor count =
    moved (sound_rule ws (length levels) count) (snap_onsets (loud_row floor levels) (edges ws.starts ws.ends)) ws
