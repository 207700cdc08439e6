-- fit.rs, fit_to_sound, line by line. A `row` says which frames are loud; frames are whole numbers, as there; `letters` are the weights,
-- `es` the words' times. Assumes nothing.
use Rattle.std.specs.Prelude.{ℕ, ◌+◌, ◌-◌, Bool, cond, not, ◌&&◌, ◌||◌, true, false, List, ltb, leb, ℤ, pos, ◌+ℤ◌, ◌-ℤ◌, get_or, length, Float, Option, Some, None}
use Rattle.std.proofs.Math.IntN.{suc_ℤ}
use Rattle.std.specs.Int.Signed.{lt_z}
use Rattle.std.specs.Float.{nan, binary64, inf}
use Rattle.std.specs.Float.Ieee.{of_bits, lt, le}
use Rattle.base.specs.Whole.{min_z}
use Rattle.base.specs.Loop.{Turn, on, out, each, range}
use Rattle.base.specs.Floats.{◌⊕◌, ◌⊖◌, ◌⊗◌, num}
use Rattle.base.specs.Words.{Edges, times, times_at, set_times, loose, end_silence, Words, edges}
use Rattle.base.specs.declared.Times.{Times}
use Rattle.js.specs.Js.{js_min, js_max}
use Rattle.frames.specs.Frames.{frame_from_zero, frame_seconds}
use Rattle.envelope.specs.Envelope.{loud, loud_row}
use Rattle.ends.specs.Ends.{next_start, or_duration, last_loud, sound_end}
use Rattle.even.specs.Even.{even_out}
use Rattle.word_calls.specs.Calls.{timed_rule, Output, moved}

-- ======== Steps 1 to 3: starts.

-- ---- MIN_STEP, 0.02 s: from a word's start to the next it is no less.
abbrev pub min_step : Float
min_step = of_bits binary64 0x3f94_7ae1_47ae_147b

-- ---- SEARCH_AHEAD, 1.5 s, and BEFORE_NEXT, 0.05 s: how far a start in silence looks for its sound, and how long before the next word it stops.
abbrev pub search_ahead : Float
search_ahead = of_bits binary64 0x3ff8_0000_0000_0000

abbrev pub before_next : Float
before_next = of_bits binary64 0x3fa9_9999_9999_999a

-- ---- MAX_KEEP, 0.5 s: so much of its length a moved word keeps at the most.
abbrev pub max_keep : Float
max_keep = of_bits binary64 0x3fe0_0000_0000_0000

-- ---- LOUD_RUN: so many loud frames in a row make a sound's start.
abbrev pub loud_run : ℕ
loud_run = 3

-- ---- let loud_run = |k| (0..LOUD_RUN).all(|d| env.loud(k + d));
unfoldable pub is_loud_run : List Bool → ℤ → Bool
is_loud_run row k = loud row k && (loud row (k +ℤ pos 1) && loud row (k +ℤ pos 2))

-- ---- 1. if i > 0 { words[i].start = js_max(words[i].start, words[i - 1].start + MIN_STEP); }
unfoldable pub step_start : List Float → ℕ → Float
step_start starts i = cond (ltb 0 i) (js_max (get_or starts i nan) (get_or starts (i - 1) nan ⊕ min_step)) (get_or starts i nan)

-- ---- w.end = js_min(duration, js_max(w.end, w.start));
unfoldable pub in_order : Float → Times → Times
in_order duration w = times w.start (js_min duration (js_max w.end w.start))

unfoldable pub order_turn : Float → ℕ → Edges → Edges
order_turn duration i es = set_times es i (in_order duration (times (step_start es.starts i) (get_or es.ends i nan)))

-- ---- for i in 0..len
unfoldable pub put_in_order : Float → Edges → Edges
put_in_order duration es = each (order_turn duration) (length es.starts) 0 es

-- ---- 2. next_start.map_or(frames - LOUD_RUN, |s| frame_from_zero(s - BEFORE_NEXT))
unfoldable pub stop_before : ℤ → Option Float → ℤ
stop_before frames (Some s) = frame_from_zero (s ⊖ before_next)
stop_before frames None = frames -ℤ pos loud_run

-- ---- let stop = (frames - LOUD_RUN).min(frame_from_zero(w.start + SEARCH_AHEAD)).min(..);
unfoldable pub stop_at : ℤ → Option Float → Float → ℤ
stop_at frames next start = min_z (min_z (frames -ℤ pos loud_run) (frame_from_zero (start ⊕ search_ahead))) (stop_before frames next)

-- ---- let mut k = f; while k < stop && !loud_run(k) { k += 1; }
abbrev pub rise_turn : List Bool → ℤ → ℤ → Turn ℤ
rise_turn row k _ = cond (is_loud_run row k) (out k) (on (suc_ℤ k))

unfoldable pub rise_frame : List Bool → ℤ → ℤ → ℤ
rise_frame row f stop = range (rise_turn row) f stop f

-- ---- let start = frame_seconds(k); w.end = js_max(w.end, start + js_min(MAX_KEEP, w.end - w.start)); w.start = start;
unfoldable pub moved_to : Float → Times → Times
moved_to start w = times start (js_max w.end (start ⊕ js_min max_keep (w.end ⊖ w.start)))

-- ---- if f >= frames - LOUD_RUN || env.loud(f) { continue; } .. if k >= stop { continue; }
unfoldable pub rise_of : List Bool → Option Float → Times → Times
rise_of row next w =
    let frames = pos (length row) in
    let f = frame_from_zero w.start in
    cond (not (lt_z f (frames -ℤ pos loud_run)) || loud row f) w
    (let stop = stop_at frames next w.start in
    let k = rise_frame row f stop in
    cond (not (lt_z k stop)) w (moved_to (frame_seconds k) w))

unfoldable pub rise_turn_of : List Bool → ℕ → Edges → Edges
rise_turn_of row i es = set_times es i (rise_of row (next_start es.starts i) (times_at es i))

-- ---- for i in 0..len
unfoldable pub move_to_rise : List Bool → Edges → Edges
move_to_rise row es = each (rise_turn_of row) (length es.starts) 0 es

-- ---- 3. if w.end > next_start { w.end = js_max(w.start, next_start); }
unfoldable pub clipped : Float → Times → Times
clipped next w = cond (lt next w.end) (times w.start (js_max w.start next)) w

unfoldable pub clip_turn : ℕ → Edges → Edges
clip_turn i es = set_times es i (clipped (get_or es.starts (i + 1) nan) (times_at es i))

-- ---- for i in 0..len.saturating_sub(1)
unfoldable pub clip : Edges → Edges
clip es = each clip_turn (length es.starts - 1) 0 es

-- ======== Steps 5 and 6, with quiet_run and sound_end: ends.

-- ---- MAX_NEED, 0.3 s, and LETTER_TIME, 0.05 s: a cut leaves a word so much, or so much for each letter where that is less.
abbrev pub max_need : Float
max_need = of_bits binary64 0x3fd3_3333_3333_3333

abbrev pub letter_time : Float
letter_time = of_bits binary64 0x3fa9_9999_9999_999a

-- ---- quiet_run: if env.loud(k) { run = 0; } else { run += 1; if run >= END_SILENCE { return true; } }
pub record Quiet : Type 0 where
  pub run : ℕ
  pub met : Bool

abbrev pub quiet_turn : List Bool → ℤ → Quiet → Turn Quiet
quiet_turn row k s =
    cond (loud row k) (on (record { run = 0; met = false }))
    (let run = s.run + 1 in cond (leb end_silence run) (out (record { run = run; met = true })) (on (record { run = run; met = false })))

-- ---- let mut run = 0; for k in frame_from_zero(from)..env.frames().min(frame_from_zero(to)) { .. } false
unfoldable pub quiet_between : List Bool → ℤ → ℤ → Bool
quiet_between row a b = (range (quiet_turn row) a b (record { run = 0; met = false })).met

unfoldable pub quiet_run : List Bool → Float → Float → Bool
quiet_run row from to = quiet_between row (frame_from_zero from) (min_z (pos (length row)) (frame_from_zero to))

-- ---- sound_end: it has the loop of snap_ends, between frames from zero, and END_SILENCE ends it.
unfoldable pub sound_end_in : List Bool → Float → Float → Option Float
sound_end_in row from to = sound_end (last_loud end_silence row (frame_from_zero from) (min_z (pos (length row)) (frame_from_zero to)))

-- ---- 5. if w.end > end + LOOSE && end - w.start >= js_min(MAX_NEED, LETTER_TIME * weight[i] as f64) { w.end = end; }
unfoldable pub cut_back : ℕ → Float → Times → Times
cut_back letters end w =
    cond (lt (end ⊕ loose) w.end && le (js_min max_need (letter_time ⊗ num letters)) (end ⊖ w.start)) (times w.start end) w

-- ---- 6. match next_start { Some(next) if next > w.end && !quiet_run(env, w.end, next) => w.end = next, None if end > w.end => w.end = end, _ => {} }
unfoldable pub lasts_to : List Bool → Option Float → Float → Times → Times
lasts_to row (Some next) end w = cond (lt w.end next && not (quiet_run row w.end next)) (times w.start next) w
lasts_to row None end w = cond (lt w.end end) (times w.start end) w

-- ---- let Some(end) = sound_end(env, w.start, next_start.unwrap_or(duration)) else { continue; };
unfoldable pub ended_by : List Bool → Option Float → ℕ → Option Float → Times → Times
ended_by row next letters None w = w
ended_by row next letters (Some end) w = lasts_to row next end (cut_back letters end w)

unfoldable pub end_of : List Bool → Float → Option Float → ℕ → Times → Times
end_of row duration next letters w = ended_by row next letters (sound_end_in row w.start (or_duration next duration)) w

unfoldable pub end_turn : List Bool → Float → List ℕ → ℕ → Edges → Edges
end_turn row duration letters i es = set_times es i (end_of row duration (next_start es.starts i) (get_or letters i 0) (times_at es i))

-- ---- for i in 0..len
unfoldable pub settle_ends : List Bool → Float → List ℕ → Edges → Edges
settle_ends row duration letters es = each (end_turn row duration letters) (length es.starts) 0 es

-- ======== The steps in a row.

-- ---- fit_to_sound: steps 1 to 3; 4. even_out(words, f64::INFINITY)?; steps 5 and 6; even_out(words, duration)
unfoldable pub fit_to_sound : List Bool → Float → List ℕ → Edges → Edges
fit_to_sound row duration letters es =
    let ordered = put_in_order duration es in
    let placed = clip (move_to_rise row ordered) in
    let evened = even_out letters (inf false) placed in
    even_out letters duration (settle_ends row duration letters evened)

-- ======== What the public call answers and leaves.

-- ---- Refusals 3, 4, 1, 2, 7, in this order; the duration is among the times.
unfoldable pub fit_call : Words → List Float → Float → ℕ → Float → Output
fit_call ws levels floor count duration =
    moved (timed_rule ws (length levels) count duration) (fit_to_sound (loud_row floor levels) duration ws.letters (edges ws.starts ws.ends)) ws
