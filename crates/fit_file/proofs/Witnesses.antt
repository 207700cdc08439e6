-- Inputs for each answer of `fit_file`, by computing it: a word of phrase 0 that moves to its sound beside one whose number has no span, and one for each refusal. Assumes nothing.
use Rattle.std.specs.Prelude.{Ok, Err}
use Prim.Native.Nat.{ℕ}
use mathlib.Core.Bool.{false}
use mathlib.Core.List.{List, [], ◌∷◌, ◌++◌}
use mathlib.Core.Path.{◌≡◌, refl}
use lib.IntN.{pos}
use lib.ListN.{replicate}
use lib.Count.{count_trailing_zeros}
use lib.Ieee.{Float, nan, fin, binary64, is_nan, round, size, span, climb, units, odd, of_bits, of_fields, of_int, add, sub, neg, sum, mul, div, lt, le, eq}
use Rattle.base.specs.Refusals.{first}
use Rattle.base.specs.Words.{Words, words, Spans, spans}
use Rattle.base.specs.Loop.{each, run, run_back}
use Rattle.base.specs.declared.Refusal.TheVariants.{Time, Letters, Lengths, Counts, Levels, Places}
use Rattle.js.specs.Js.{under, js_min, js_max}
use Rattle.frames.specs.Frames.{floor_i64, frame_at, frame_from_zero, frame_seconds}
use Rattle.envelope.specs.Envelope.{loud_row}
use Rattle.limits.specs.Limits.{any, time_of}
use Rattle.limits.specs.Order.{when, also, in_order, chain}
use Rattle.word_calls.specs.Calls.{uneven, of_words, of_samples, of_levels, of_list, uneven_spans, many_spans, of_spans, of_places, phrases_rule, output}
use Rattle.ends.specs.Ends.{next_start, or_duration, last_loud, sound_end}
use Rattle.even.specs.Even.{crushed, even_turn, even_out}
use Rattle.fit_file.specs.FitFile.{member_turn, members_of, picked, picked_edges, put_back, put_edges, inside_span, inside_turn, keep_inside, take_run, take_trailing, fit_group, fit_phrase, fit_file, duration_of, fit_file_call}
use Rattle.last_run.specs.LastRun.{ends_between, frames_of, frame_run, last_run}
use Rattle.fit_to_sound.specs.FitToSound.{step_start, in_order as end_in_order, order_turn, put_in_order, is_loud_run, stop_before, stop_at, rise_frame, moved_to, rise_of, rise_turn_of, move_to_rise, clipped, clip_turn, clip, sound_end_in, quiet_between, quiet_run, cut_back, lasts_to, ended_by, end_of, end_turn, settle_ends, fit_to_sound}

-- so many hundredths of a second
abbrev time : ℕ → Float
time n = round binary64 false n 100

abbrev one : Float
one = fin false 1 (pos 0)

-- 2 quiet frames and 28 loud ones, over a floor of 1
abbrev heard : List Float
heard = replicate 2 one ++ replicate 28 (fin false 1 (pos 1))

-- two words, of phrase 0 and of a phrase 7 that has no span
abbrev pair : Float → Float → Words
pair s e = words (s ∷ time 50 ∷ []) (e ∷ time 40 ∷ []) (4 ∷ 4 ∷ []) (3 ∷ 3 ∷ []) (1 ∷ 2 ∷ [])

abbrev one_span : Spans
one_span = spans (time 0 ∷ []) (time 30 ∷ []) (1 ∷ [])

fits-its-phrase : fit_file_call (pair (time 0) (time 10)) (0 ∷ 7 ∷ []) one_span heard one 4800 2 ≡ output (Ok tt) (pair (time 2) (time 30))
unfolding fit_file_call phrases_rule chain in_order of_words also when of_levels of_samples of_list of_spans of_places uneven uneven_spans many_spans first any time_of loud_row fit_file fit_phrase duration_of members_of member_turn picked picked_edges put_edges put_back fit_group keep_inside inside_turn inside_span take_trailing take_run last_run frame_run frames_of ends_between run_back fit_to_sound put_in_order order_turn step_start end_in_order move_to_rise rise_turn_of rise_of stop_at stop_before rise_frame is_loud_run moved_to clip clip_turn clipped even_out even_turn crushed settle_ends end_turn end_of ended_by cut_back lasts_to sound_end_in quiet_run quiet_between next_start or_duration sound_end last_loud each run frame_from_zero frame_at floor_i64 frame_seconds js_min js_max under is_nan add sub neg sum mul div lt le eq of_int round size span climb units odd of_bits of_fields count_trailing_zeros
fits-its-phrase = refl

-- one phrase number for two words
refuses-3 : fit_file_call (pair (time 0) (time 10)) (0 ∷ []) one_span heard one 4800 2 ≡ output (Err Lengths) (pair (time 0) (time 10))
unfolding fit_file_call phrases_rule chain in_order of_words also when of_levels of_samples of_list of_spans of_places uneven uneven_spans many_spans first
refuses-3 = refl

-- a span that counts 4,097 words
refuses-4 : fit_file_call (pair (time 0) (time 10)) (0 ∷ 7 ∷ []) (spans (time 0 ∷ []) (time 30 ∷ []) (4097 ∷ [])) heard one 4800 2 ≡ output (Err Counts) (pair (time 0) (time 10))
unfolding fit_file_call phrases_rule chain in_order of_words also when of_levels of_samples of_list of_spans of_places uneven uneven_spans many_spans first any
refuses-4 = refl

-- a span that ends at no time
refuses-1 : fit_file_call (pair (time 0) (time 10)) (0 ∷ 7 ∷ []) (spans (time 0 ∷ []) (nan ∷ []) (1 ∷ [])) heard one 4800 2 ≡ output (Err Time) (pair (time 0) (time 10))
unfolding fit_file_call phrases_rule chain in_order of_words also when of_levels of_samples of_list of_spans of_places uneven uneven_spans many_spans first any time_of lt le eq round size span climb units odd of_bits of_fields count_trailing_zeros
refuses-1 = refl

refuses-2 : let ws = words (time 0 ∷ []) (time 10 ∷ []) (0 ∷ []) (3 ∷ []) (1 ∷ []) in fit_file_call ws (0 ∷ []) one_span heard one 4800 1 ≡ output (Err Letters) ws
unfolding fit_file_call phrases_rule chain in_order of_words also when of_levels of_samples of_list of_spans of_places uneven uneven_spans many_spans first any time_of lt le eq round size span climb units odd of_bits of_fields count_trailing_zeros
refuses-2 = refl

refuses-7 : fit_file_call (pair (time 0) (time 10)) (0 ∷ 7 ∷ []) one_span heard one 4960 2 ≡ output (Err Levels) (pair (time 0) (time 10))
unfolding fit_file_call phrases_rule chain in_order of_words also when of_levels of_samples of_list of_spans of_places uneven uneven_spans many_spans first any time_of lt le eq round size span climb units odd of_bits of_fields count_trailing_zeros
refuses-7 = refl

-- work space for one word of two
refuses-6 : fit_file_call (pair (time 0) (time 10)) (0 ∷ 7 ∷ []) one_span heard one 4800 1 ≡ output (Err Places) (pair (time 0) (time 10))
unfolding fit_file_call phrases_rule chain in_order of_words also when of_levels of_samples of_list of_spans of_places uneven uneven_spans many_spans first any time_of lt le eq round size span climb units odd of_bits of_fields count_trailing_zeros
refuses-6 = refl
