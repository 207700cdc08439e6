-- Inputs for each answer of `fit_to_sound`, by computing it: two words that are moved to their sound and last as long as it does, one that is cut back to it, and one for each refusal. Assumes nothing.
use Rattle.std.specs.Prelude.{Ok, Err}
use Prim.Native.Nat.{ℕ}
use mathlib.Core.Bool.{false}
use mathlib.Core.List.{List, [], ◌∷◌, ◌++◌}
use mathlib.Core.Path.{◌≡◌, refl}
use lib.IntN.{pos}
use lib.ListN.{replicate}
use lib.Count.{count_trailing_zeros}
use lib.Ieee.{Float, nan, fin, binary64, is_nan, round, size, span, climb, units, odd, of_bits, of_fields, of_int, add, sub, neg, sum, mul, div, lt, le, eq}
use Rattle.base.specs.Refusals.{first}
use Rattle.base.specs.Words.{Words, words}
use Rattle.base.specs.Loop.{each, run}
use Rattle.base.specs.declared.Refusal.TheVariants.{Time, Letters, Lengths, Counts, Levels}
use Rattle.js.specs.Js.{under, js_min, js_max}
use Rattle.frames.specs.Frames.{floor_i64, frame_at, frame_from_zero, frame_seconds}
use Rattle.envelope.specs.Envelope.{loud_row}
use Rattle.limits.specs.Limits.{any, time_of}
use Rattle.limits.specs.Order.{when, also, in_order, chain}
use Rattle.word_calls.specs.Calls.{uneven, of_words, of_samples, of_levels, of_time, timed_rule, output}
use Rattle.ends.specs.Ends.{next_start, or_duration, last_loud, sound_end}
use Rattle.even.specs.Even.{crushed, even_turn, even_out}
use Rattle.fit_to_sound.specs.FitToSound.{fit_to_sound, step_start, in_order as end_in_order, order_turn, put_in_order, is_loud_run, stop_before, stop_at, rise_frame, moved_to, rise_of, rise_turn_of, move_to_rise, clipped, clip_turn, clip, sound_end_in, quiet_between, quiet_run, cut_back, lasts_to, ended_by, end_of, end_turn, settle_ends, fit_call}

-- so many hundredths of a second
abbrev time : ℕ → Float
time n = round binary64 false n 100

abbrev one : Float
one = fin false 1 (pos 0)

abbrev two : Float
two = fin false 1 (pos 1)

-- 2 quiet frames and 28 loud ones, over a floor of 1
abbrev heard : List Float
heard = replicate 2 one ++ replicate 28 two

-- one word
abbrev word : ℕ → Float → Float → Words
word letters start end = words (start ∷ []) (end ∷ []) (letters ∷ []) (9 ∷ []) (1 ∷ [])

-- the first word starts where its sound does and lasts until the second, which lasts until its sound's end
fits-its-sound : let pair : Float → Float → Float → Words = (λ s e z. words (s ∷ time 20 ∷ []) (e ∷ z ∷ []) (4 ∷ 4 ∷ []) (3 ∷ 3 ∷ []) (1 ∷ 2 ∷ []))
    in fit_call (pair (time 0) (time 10) (time 29)) heard one 4800 (time 30) ≡ output (Ok tt) (pair (time 2) (time 20) (time 30))
unfolding fit_call timed_rule chain in_order of_words also when of_levels of_samples of_time uneven first any time_of loud_row fit_to_sound put_in_order order_turn step_start end_in_order move_to_rise rise_turn_of rise_of stop_at stop_before rise_frame is_loud_run moved_to clip clip_turn clipped even_out even_turn crushed settle_ends end_turn end_of ended_by cut_back lasts_to sound_end_in quiet_run quiet_between next_start or_duration sound_end last_loud each run frame_from_zero frame_at floor_i64 frame_seconds js_min js_max under is_nan add sub neg sum mul div lt le eq of_int round size span climb units odd of_bits of_fields count_trailing_zeros
fits-its-sound = refl

-- 10 loud frames, 15 quiet ones and 2 loud ones: the word's sound ends at 0.1 s
cut-back : fit_call (word 1 (time 0) (time 27)) (replicate 10 two ++ (replicate 15 one ++ replicate 2 two)) one 4320 (time 27) ≡ output (Ok tt) (word 1 (time 0) (time 10))
unfolding fit_call timed_rule chain in_order of_words also when of_levels of_samples of_time uneven first any time_of loud_row fit_to_sound put_in_order order_turn step_start end_in_order move_to_rise rise_turn_of rise_of clip even_out even_turn crushed settle_ends end_turn end_of ended_by cut_back lasts_to sound_end_in next_start or_duration sound_end last_loud each run frame_from_zero frame_at floor_i64 frame_seconds js_min js_max under is_nan add sub neg sum mul div lt le eq of_int round size span climb units odd of_bits of_fields count_trailing_zeros
cut-back = refl

refuses-3 : let ws = words (time 0 ∷ []) [] [] [] [] in fit_call ws heard one 4800 (time 30) ≡ output (Err Lengths) ws
unfolding fit_call timed_rule chain in_order of_words also when of_levels of_samples of_time uneven first
refuses-3 = refl

refuses-4 : fit_call (word 4 (time 0) (time 30)) heard one 57600001 (time 30) ≡ output (Err Counts) (word 4 (time 0) (time 30))
unfolding fit_call timed_rule chain in_order of_words also when of_levels of_samples of_time uneven first
refuses-4 = refl

refuses-1 : fit_call (word 4 nan (time 30)) heard one 4800 (time 30) ≡ output (Err Time) (word 4 nan (time 30))
unfolding fit_call timed_rule chain in_order of_words also when of_levels of_samples of_time uneven first any time_of lt le eq round size span climb units odd of_bits of_fields count_trailing_zeros
refuses-1 = refl

refuses-2 : fit_call (word 1001 (time 0) (time 30)) heard one 4800 (time 30) ≡ output (Err Letters) (word 1001 (time 0) (time 30))
unfolding fit_call timed_rule chain in_order of_words also when of_levels of_samples of_time uneven first any time_of lt le eq round size span climb units odd of_bits of_fields count_trailing_zeros
refuses-2 = refl

refuses-7 : fit_call (word 4 (time 0) (time 30)) heard one 4960 (time 30) ≡ output (Err Levels) (word 4 (time 0) (time 30))
unfolding fit_call timed_rule chain in_order of_words also when of_levels of_samples of_time uneven first any time_of lt le eq round size span climb units odd of_bits of_fields count_trailing_zeros
refuses-7 = refl

-- the duration is among the times
refuses-1-duration : fit_call (word 4 (time 0) (time 30)) heard one 4800 (time 720001) ≡ output (Err Time) (word 4 (time 0) (time 30))
unfolding fit_call timed_rule chain in_order of_words also when of_levels of_samples of_time uneven first any time_of lt le eq round size span climb units odd of_bits of_fields count_trailing_zeros
refuses-1-duration = refl
