-- onsets.rs, snap_ends, line by line. A `row` says which frames are loud; frames are whole numbers, as there. Assumes nothing.
use Rattle.std.specs.Prelude.{ℕ, ◌+◌, Bool, cond, ◌&&◌, false, ◌||◌, List, leb, ltb, ℤ, pos, negsuc, ◌+ℤ◌, get_or, length, set, Float, Option, Some, None}
use Rattle.std.specs.Int.Signed.{lt_z, non_neg}
use Rattle.std.specs.Float.{nan, binary64}
use Rattle.std.specs.Float.Ieee.{of_bits, lt}
use Rattle.base.specs.Loop.{Turn, on, out, range, each}
use Rattle.frames.specs.Frames.{frame_seconds, frame_at}
use Rattle.envelope.specs.Envelope.{loud, loud_row}
use Rattle.base.specs.Whole.{min_z}
use Rattle.base.specs.Floats.{◌⊕◌, ◌⊖◌, ◌⊗◌, ◌⊘◌, num}
use Rattle.base.specs.Words.{times, edge_quiet, loose, Words, Edges, edges, times_at, set_times}
use Rattle.base.specs.declared.Times.{Times}
use Rattle.js.specs.Js.{js_min, js_max, js_to_fixed}
use Rattle.word_calls.specs.Calls.{timed_rule, Output, moved}

-- ======== A word and the next one that share an edge.

-- ---- NO_LENGTH, 0.06 s: a shorter word has no length.
abbrev pub no_length : Float
no_length = of_bits binary64 0x3fae_b851_eb85_1eb8

-- ---- PAIR_SPAN, 0.12 s: what two words that share an edge have between them at the least.
abbrev pub pair_span : Float
pair_span = of_bits binary64 0x3fbe_b851_eb85_1eb8

-- ---- tail.first_mut(), next.map(|n| n.start): where the word after word i starts, if there is one.
unfoldable pub next_start : List Float → ℕ → Option Float
next_start starts i = cond (ltb (i + 1) (length starts)) (Some (get_or starts (i + 1) nan)) None

-- ---- w.end - w.start < NO_LENGTH && let Some(n) = next.as_deref_mut() && n.start - w.start < NO_LENGTH
abbrev pub soon : Option Float → Times → Bool
soon (Some s) w = lt (s ⊖ w.start) no_length
soon None w = false

unfoldable pub is_pair : Option Float → Times → Bool
is_pair next w = lt (w.end ⊖ w.start) no_length && soon next w

-- ---- if let Some(k) = (frame_at(w.start)..stop).find(|&k| env.loud(k)) { w.start = js_max(w.start, frame_seconds(k)); }
abbrev pub find_turn : List Bool → ℤ → Float → Turn Float
find_turn row k start = cond (loud row k) (out (js_max start (frame_seconds k))) (on start)

unfoldable pub pair_start : List Bool → Float → Float → Float
pair_start row start next_end = range (find_turn row) (frame_at start) (frame_at next_end) start

-- ---- let own = utf16_len(&w.text) as f64; let share = own / (own + utf16_len(&n.text) as f64);
-- let edge = js_to_fixed(w.start + (js_max(n.end, w.start + PAIR_SPAN) - w.start) * share, TIME_DECIMALS); the decimals are 3.
unfoldable pub pair_edge : Float → Float → ℕ → ℕ → Float
pair_edge start next_end own other =
    let share = num own ⊘ (num own ⊕ num other) in
    js_to_fixed (start ⊕ (js_max next_end (start ⊕ pair_span) ⊖ start) ⊗ share)

-- ---- Two words that share an edge: where the first starts, and the edge.
unfoldable pub pair_of : List Bool → Times → Float → ℕ → ℕ → Times
pair_of row w next_end own other = let start = pair_start row w.start next_end in times start (pair_edge start next_end own other)

-- ---- w.end = edge; n.start = edge;
unfoldable pub set_pair : Edges → ℕ → Times → Edges
set_pair es i t = edges (set (set es.starts i t.start) (i + 1) t.end) (set es.ends i t.end)

-- ======== Any other word: its end, by its sound.

-- ---- next_start.map_or(duration, |s| js_max(s, w.start)): how far the sound is looked for.
unfoldable pub reach : Option Float → Float → Float → Float
reach (Some s) duration start = js_max s start
reach None duration start = duration

-- ---- if env.loud(k) { last = k; quiet = 0; } else { quiet += 1; if quiet >= EDGE_QUIET && last >= 0 { break; } }
pub record Last : Type 0 where
  pub last : ℤ
  pub quiet : ℕ

abbrev pub last_turn : ℕ → List Bool → ℤ → Last → Turn Last
last_turn edge row k s =
    cond (loud row k) (on (record { last = k; quiet = 0 }))
    (let s' : Last = record { last = s.last; quiet = s.quiet + 1 } in cond (leb edge s'.quiet && non_neg s'.last) (out s') (on s'))

-- ---- let mut last = -1; let mut quiet = 0; let mut k = a; while k < bound { .. k += 1; }
unfoldable pub last_loud : ℕ → List Bool → ℤ → ℤ → ℤ
last_loud edge row a bound = (range (last_turn edge row) a bound (record { last = negsuc 0; quiet = 0 })).last

-- ---- if last < 0 { continue; } let sound_end = frame_seconds(last + 1);
unfoldable pub sound_end : ℤ → Option Float
sound_end last = cond (lt_z last (pos 0)) None (Some (frame_seconds (last +ℤ pos 1)))

-- ---- next_start.unwrap_or(duration)
unfoldable pub or_duration : Option Float → Float → Float
or_duration (Some s) duration = s
or_duration None duration = duration

-- ---- if w.end > sound_end + LOOSE || w.end - w.start < NO_LENGTH
-- { w.end = js_max(w.start + NO_LENGTH, js_min(sound_end, next_start.unwrap_or(duration))); }, where `limit` is that start or duration.
unfoldable pub trimmed : Option Float → Float → Times → Times
trimmed None limit w = w
trimmed (Some sound) limit w =
    cond (lt (sound ⊕ loose) w.end || lt (w.end ⊖ w.start) no_length) (times w.start (js_max (w.start ⊕ no_length) (js_min sound limit))) w

-- ---- let bound = env.frames().min(frame_at(next_start.map_or(duration, ..)));
unfoldable pub end_of : List Bool → Float → Option Float → Times → Times
end_of row duration next w =
    let bound = min_z (pos (length row)) (frame_at (reach next duration w.start)) in
    trimmed (sound_end (last_loud edge_quiet row (frame_at w.start) bound)) (or_duration next duration) w

-- ======== All words, and the call.

-- ---- w is word i, and n is word i + 1, where there is one.
unfoldable pub end_turn : List Bool → Float → List ℕ → ℕ → Edges → Edges
end_turn row duration units i es =
    let w = times_at es i in
    let next = next_start es.starts i in
    cond (is_pair next w)
    (set_pair es i (pair_of row w (times_at es (i + 1)).end (get_or units i 0) (get_or units (i + 1) 0)))
    (set_times es i (end_of row duration next w))

-- ---- snap_ends: for i in 0..words.len()
unfoldable pub snap_ends : List Bool → Float → List ℕ → Edges → Edges
snap_ends row duration units es = each (end_turn row duration units) (length es.starts) 0 es

-- ---- The public call: refusals 3, 4, 1, 2, 7, in this order; the duration is among the times.
unfoldable pub ends_call : Words → List Float → Float → ℕ → Float → Output
ends_call ws levels floor count duration =
    moved (timed_rule ws (length levels) count duration) (snap_ends (loud_row floor levels) duration ws.units (edges ws.starts ws.ends)) ws
