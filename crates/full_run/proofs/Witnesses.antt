-- Inputs for each answer of the full run, by computing it: one that is accepted, with all that it leaves, and one for each refusal that can arise. Assumes nothing.
use Rattle.std.specs.Prelude.{Ok, Err}
use Prim.Native.Nat.{ℕ}
use mathlib.Core.Bool.{false}
use mathlib.Core.List.{List, [], ◌∷◌, ◌++◌, map}
use mathlib.Core.Path.{◌≡◌, refl, ap, ◌∙◌}
use lib.IntN.{pos, negsuc}
use lib.ListN.{length, drop, replicate}
use lib.Count.{count_trailing_zeros}
use lib.Ieee.{Float, nan, fin, binary64, is_nan, round, size, span, climb, units, odd, of_bits, of_fields, of_int, add, sub, neg, sum, mul, div, lt, le, eq}
use Rattle.base.specs.Refusals.{first}
use Rattle.base.specs.Words.{Words, words, Spans, spans, part_edges, on_part, words_in_places}
use Rattle.base.specs.Loop.{each, fold, table, run, run_back, up, down}
use Rattle.base.specs.declared.Refusal.{Refusal}
use Rattle.base.specs.declared.Refusal.TheVariants.{Time, Letters, Lengths, Counts, Places}
use Rattle.js.specs.Js.{under, js_min, js_max}
use Rattle.frames.specs.Frames.{floor_i64, ceil_i64, frame_at, frame_ceil, frame_from_zero, frame_seconds}
use Rattle.roots.specs.Sqrt.{sqrt}
use Rattle.envelope.specs.Envelope as sounds
use Rattle.envelope.specs.Envelope.{levels, peak, floor, loud_row, quiet_row}
use Rattle.limits.specs.Limits.{any, time_of}
use Rattle.limits.specs.Order.{when, also, in_order, chain}
use Rattle.word_calls.specs.Calls.{uneven, of_words, of_samples, uneven_spans, many_spans, of_spans, of_places}
use Rattle.pieces.specs.Pieces.{piece_turn, walked, pieces, need, over}
use Rattle.loops.specs.Loops.{equal, same, copies_end, is_loop, loop_turn, pass, collapse_loops}
use Rattle.tails.specs.Tails.{tail_turn, hand_back_tails}
use Rattle.onsets.specs.Onsets.{onset_frame, onset_of, prev_end, onset_turn, snap_onsets}
use Rattle.ends.specs.Ends.{last_loud, sound_end}
use Rattle.ends.specs.Ends as word
use Rattle.share.specs.Share as shares
use Rattle.even.specs.Even as even
use Rattle.fit_to_sound.specs.FitToSound as starts
use Rattle.fit_to_sound.specs.FitToSound.{fit_to_sound}
use Rattle.fit_file.specs.FitFile.{duration_of}
use Rattle.run_stages.specs.Stages.{snapped, as_one, settled, Run, run_on}
use Rattle.full_run.specs.FullRun.{Input, run_of, run_applies, Output, output, report_of, full_run}

abbrev zero-s : Float
zero-s = fin false 0 (pos 0)

abbrev half : Float
half = fin false 1 (negsuc 0)

-- 160 samples of 0.5: one level, of 0.5
tone : List Float
tone = replicate 160 half

tone-long : length tone ≡ 160
unfolding tone
tone-long = refl

tone-levels : levels tone ≡ half ∷ []
unfolding tone levels sounds.level sounds.squares sounds.frame fold table sqrt of_bits add mul div
tone-levels = refl

-- a word of 4 letters and 4 units
abbrev one : Float → Words
one e = words (zero-s ∷ []) (e ∷ []) (4 ∷ []) (4 ∷ []) (1 ∷ [])

abbrev no-spans : Spans
no-spans = spans [] [] []

-- what is lent: two places for levels, for pieces and for phrase numbers, and so many work places
abbrev lent : Words → Spans → ℕ → Input
lent ws sp work = record {
  samples = tone;
  words = ws;
  spans = sp;
  phrases = 7 ∷ 8 ∷ [];
  levels = nan ∷ half ∷ [];
  piece_starts = 7 ∷ 8 ∷ [];
  piece_ends = 7 ∷ 8 ∷ [];
  work = work;
}

-- ---- Accepted: the word ends at 0.49 s; there is one level, and one piece; the other places stay.
abbrev left : List Float → ℕ → Output
left ls samples =
    let r : Run = run_on (loud_row (floor ls) ls) (quiet_row (floor ls) ls) samples no-spans (7 ∷ 8 ∷ []) (one half) in
    output (Ok (report_of (floor ls) r)) (words_in_places 1 r.words) r.phrases
    (ls ++ drop (length ls) (nan ∷ half ∷ [])) (over (map (λ p. p.start) r.pieces) (7 ∷ 8 ∷ [])) (over (map (λ p. p.end) r.pieces) (7 ∷ 8 ∷ []))

left-computed : left (half ∷ []) 160
    ≡ output (Ok (record { floor = of_bits binary64 0x3f74_7ae1_47ae_147b; pieces = 1; words = 1; found = false })) (one (of_bits binary64 0x3fdf_5c28_f5c2_8f5c)) (7 ∷ 8 ∷ [])
    (half ∷ half ∷ []) (0 ∷ 8 ∷ []) (160 ∷ 8 ∷ [])
unfolding run_on snapped settled as_one duration_of words_in_places loud_row quiet_row pieces walked piece_turn collapse_loops pass loop_turn is_loop same equal
    copies_end hand_back_tails tail_turn snap_onsets onset_turn prev_end onset_of onset_frame word.snap_ends word.end_turn word.is_pair word.end_of word.trimmed
    word.reach word.next_start word.or_duration sound_end last_loud fit_to_sound starts.put_in_order starts.order_turn starts.step_start starts.in_order
    starts.move_to_rise starts.rise_turn_of starts.rise_of starts.clip even.even_out even.even_turn even.even_run even.crushed even.swollen even.first_crushed
    even.with_swollen even.last_crushed even.grown even.ceiling_of even.borrows even.borrowed even.end_of even.stretch_of even.sum shares.share shares.sum
    part_edges on_part starts.settle_ends starts.end_turn starts.end_of starts.ended_by starts.cut_back starts.lasts_to starts.sound_end_in each run run_back up
    down fold peak floor frame_from_zero frame_at frame_ceil floor_i64 ceil_i64 frame_seconds js_min js_max under is_nan add sub neg sum mul div lt le eq of_int
    round size span climb units odd of_bits of_fields count_trailing_zeros
left-computed = refl

by-levels : full_run (lent (one half) no-spans 1) ≡ left (levels tone) (length tone)
unfolding full_run chain in_order run_applies of_words also when of_samples of_spans of_places uneven uneven_spans many_spans first any time_of need tone lt le eq of_bits run_of
by-levels = refl

accepts : full_run (lent (one half) no-spans 1)
    ≡ output (Ok (record { floor = of_bits binary64 0x3f74_7ae1_47ae_147b; pieces = 1; words = 1; found = false })) (one (of_bits binary64 0x3fdf_5c28_f5c2_8f5c)) (7 ∷ 8 ∷ [])
    (half ∷ half ∷ []) (0 ∷ 8 ∷ []) (160 ∷ 8 ∷ [])
accepts = by-levels ∙ ap (λ (ls : List Float). left ls (length tone)) tone-levels ∙ ap (λ (n : ℕ). left (half ∷ []) n) tone-long ∙ left-computed

-- ---- Refused, and all is as it was.
abbrev refused : Refusal → Input → Output
refused why i = output (Err why) i.words i.phrases i.levels i.piece_starts i.piece_ends

-- two ends for one word
refuses-3 : let i = lent (words (zero-s ∷ []) (half ∷ half ∷ []) (4 ∷ []) (4 ∷ []) (1 ∷ [])) no-spans 1 in full_run i ≡ refused Lengths i
unfolding full_run chain in_order run_applies of_words also when of_samples of_spans of_places uneven uneven_spans many_spans first
refuses-3 = refl

-- a span that counts 4,097 words
refuses-4 : let i = lent (one half) (spans (zero-s ∷ []) (half ∷ []) (4097 ∷ [])) 1 in full_run i ≡ refused Counts i
unfolding full_run chain in_order run_applies of_words also when of_samples of_spans of_places uneven uneven_spans many_spans first any tone
refuses-4 = refl

-- a word that ends at no time
refuses-1 : let i = lent (one nan) no-spans 1 in full_run i ≡ refused Time i
unfolding full_run chain in_order run_applies of_words also when of_samples of_spans of_places uneven uneven_spans many_spans first any time_of tone lt le eq of_bits
refuses-1 = refl

-- a word of no letters
refuses-2 : let i = lent (words (zero-s ∷ []) (half ∷ []) (0 ∷ []) (4 ∷ []) (1 ∷ [])) no-spans 1 in full_run i ≡ refused Letters i
unfolding full_run chain in_order run_applies of_words also when of_samples of_spans of_places uneven uneven_spans many_spans first any time_of tone lt le eq of_bits
refuses-2 = refl

-- no work place for the word
refuses-6-work : let i = lent (one half) no-spans 0 in full_run i ≡ refused Places i
unfolding full_run chain in_order run_applies of_words also when of_samples of_spans of_places uneven uneven_spans many_spans first any time_of need tone lt le eq of_bits
refuses-6-work = refl

-- one list of places is empty: the phrase numbers', the levels', and each of the pieces'
abbrev short : List ℕ → List Float → List ℕ → List ℕ → Input
short phrases ls s e = record { samples = tone; words = one half; spans = no-spans; phrases = phrases; levels = ls; piece_starts = s; piece_ends = e; work = 1 }

refuses-6-phrases : let i = short [] (half ∷ []) (7 ∷ []) (7 ∷ []) in full_run i ≡ refused Places i
unfolding full_run chain in_order run_applies of_words also when of_samples of_spans of_places uneven uneven_spans many_spans first any time_of need tone lt le eq of_bits
refuses-6-phrases = refl

refuses-6-levels : let i = short (7 ∷ []) [] (7 ∷ []) (7 ∷ []) in full_run i ≡ refused Places i
unfolding full_run chain in_order run_applies of_words also when of_samples of_spans of_places uneven uneven_spans many_spans first any time_of need tone lt le eq of_bits
refuses-6-levels = refl

refuses-6-starts : let i = short (7 ∷ []) (half ∷ []) [] (7 ∷ []) in full_run i ≡ refused Places i
unfolding full_run chain in_order run_applies of_words also when of_samples of_spans of_places uneven uneven_spans many_spans first any time_of need tone lt le eq of_bits
refuses-6-starts = refl

refuses-6-ends : let i = short (7 ∷ []) (half ∷ []) (7 ∷ []) [] in full_run i ≡ refused Places i
unfolding full_run chain in_order run_applies of_words also when of_samples of_spans of_places uneven uneven_spans many_spans first any time_of need tone lt le eq of_bits
refuses-6-ends = refl
