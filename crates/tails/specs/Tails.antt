-- onsets.rs, hand_back_tails, line by line. A `row` says which frames are loud; frames are whole numbers, as there. Assumes nothing.
use Rattle.std.specs.Prelude.{ℕ, ◌+◌, ◌-◌, Bool, cond, not, ◌&&◌, ◌||◌, List, ltb, ℤ, pos, ◌+ℤ◌, ◌-ℤ◌, get_or, length, Float}
use Rattle.std.proofs.Math.IntN.{suc_ℤ}
use Rattle.std.specs.Int.Signed.{lt_z}
use Rattle.std.specs.Float.{binary64}
use Rattle.std.specs.Float.Ieee.{of_bits, le}
use Rattle.base.specs.Loop.{Turn, on, out, range, each}
use Rattle.base.specs.Floats.{◌⊖◌, ◌⊗◌, num}
use Rattle.base.specs.Words.{Edges, edges, edge_quiet, loose, Words, times, times_at, set_times}
use Rattle.base.specs.declared.Times.{Times}
use Rattle.js.specs.Js.{js_max}
use Rattle.frames.specs.Frames.{frame_at, frame_seconds}
use Rattle.envelope.specs.Envelope.{loud, loud_row}
use Rattle.tails.specs.declared.one_word.Neighbours.{Neighbours}
use Rattle.word_calls.specs.Calls.{sound_rule, Output, moved}

-- ======== One word.

-- ---- Two words in a row, the one before and the word itself: a step takes both words' times and gives both back.
abbrev pub neighbours : Times → Times → Neighbours
neighbours prev w = record { prev = prev; w = w }

-- ---- MIN_LETTER, 0.05 s: a letter takes no less.
abbrev pub min_letter : Float
min_letter = of_bits binary64 0x3fa9_9999_9999_999a

-- ---- let mut k = f; while k < bound && env.loud(k) { k += 1; }
abbrev pub loud_turn : List Bool → ℤ → ℤ → Turn ℤ
loud_turn row k _ = cond (loud row k) (on (suc_ℤ k)) (out k)

unfoldable pub past_loud : List Bool → ℤ → ℤ → ℤ
past_loud row f bound = range (loud_turn row) f bound f

-- ---- let mut quiet = 0; while k < bound && !env.loud(k) { quiet += 1; k += 1; }
pub record Quiet : Type 0 where
  pub k : ℤ
  pub quiet : ℕ

abbrev pub quiet_turn : List Bool → ℤ → Quiet → Turn Quiet
quiet_turn row k s = cond (loud row k) (out s) (on (record { k = suc_ℤ k; quiet = s.quiet + 1 }))

unfoldable pub past_quiet : List Bool → ℤ → ℤ → Quiet
past_quiet row k bound = range (quiet_turn row) k bound (record { k = k; quiet = 0 })

-- ---- (k..k + MIN_RUN).all(|j| j < bound && env.loud(j)): three loud frames, 30 ms, are a word's own sound.
abbrev pub loud_before : List Bool → ℤ → ℤ → Bool
loud_before row bound j = lt_z j bound && loud row j

abbrev pub own_sound : List Bool → ℤ → ℤ → Bool
own_sound row k bound = loud_before row bound k && (loud_before row bound (k +ℤ pos 1) && loud_before row bound (k +ℤ pos 2))

-- ---- One word, and prev, the word before it; `continue` leaves both as they are. At the end
-- prev.end = js_max(prev.end, frame_seconds(tail_end)); w.start = frame_seconds(k);
unfoldable pub hand_back : List Bool → Neighbours → ℕ → Neighbours
hand_back row p letters =
    let prev = p.prev in
    let w = p.w in
    let f = frame_at w.start in
    cond (le loose (w.start ⊖ prev.end) || (not (loud row (f -ℤ pos 1)) || not (loud row f))) p
    (let bound = frame_at w.end in
    let tail_end = past_loud row f bound in
    let need = min_letter ⊗ num letters in
    cond (le need (frame_seconds (tail_end -ℤ f))) p
    (let q = past_quiet row tail_end bound in
    cond (ltb q.quiet edge_quiet || not (own_sound row q.k bound)) p
    (neighbours (times prev.start (js_max prev.end (frame_seconds tail_end))) (times (frame_seconds q.k) w.end))))

-- ======== All words, and the call.

-- ---- let prev = &mut head[i - 1]; let w = &mut tail[0]; tail[0] is words[i].
unfoldable pub tail_turn : List Bool → List ℕ → ℕ → Edges → Edges
tail_turn row letters i es =
    let p = hand_back row (neighbours (times_at es (i - 1)) (times_at es i)) (get_or letters i 0) in
    set_times (set_times es (i - 1) p.prev) i p.w

-- ---- hand_back_tails: for i in 1..words.len()
unfoldable pub hand_back_tails : List Bool → List ℕ → Edges → Edges
hand_back_tails row letters es = each (tail_turn row letters) (length es.starts - 1) 1 es

-- ---- The public call: refusals 3, 4, 1, 2, 7, in this order.
unfoldable pub tails_call : Words → List Float → Float → ℕ → Output
tails_call ws levels floor count =
    moved (sound_rule ws (length levels) count) (hand_back_tails (loud_row floor levels) ws.letters (edges ws.starts ws.ends)) ws
