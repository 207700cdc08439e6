-- Inputs for each answer of `snap_onsets`, by computing it: one in which a start walks back, and one for each refusal. Assumes nothing.
use Rattle.std.specs.Prelude.{Ok, Err}
use Prim.Native.Nat.{ℕ}
use mathlib.Core.Bool.{false}
use mathlib.Core.List.{List, [], ◌∷◌, ◌++◌}
use mathlib.Core.Path.{◌≡◌, refl}
use lib.IntN.{pos}
use lib.ListN.{replicate}
use lib.Count.{count_trailing_zeros}
use lib.Ieee.{Float, nan, fin, binary64, is_nan, round, size, span, climb, units, odd, of_bits, of_fields, of_int, add, sub, neg, sum, mul, div, lt, le, eq}
use Rattle.base.specs.Refusals.{first}
use Rattle.base.specs.Words.{Words, words}
use Rattle.base.specs.Loop.{each, run_back}
use Rattle.base.specs.declared.Refusal.TheVariants.{Time, Letters, Lengths, Counts, Levels}
use Rattle.js.specs.Js.{under, js_min}
use Rattle.frames.specs.Frames.{floor_i64, ceil_i64, frame_at, frame_ceil, frame_seconds}
use Rattle.envelope.specs.Envelope.{loud_row}
use Rattle.limits.specs.Limits.{time_of, any}
use Rattle.limits.specs.Order.{when, also, in_order, chain}
use Rattle.word_calls.specs.Calls.{uneven, of_words, of_samples, of_levels, sound_rule, output}
use Rattle.onsets.specs.Onsets.{onset_frame, onset_of, prev_end, onset_turn, snap_onsets, onsets_call}

-- so many hundredths of a second
abbrev time : ℕ → Float
time n = round binary64 false n 100

abbrev one : Float
one = fin false 1 (pos 0)

abbrev two : Float
two = fin false 1 (pos 1)

-- 3 loud frames, 8 quiet ones, 3 loud ones, 7 quiet ones, 9 loud ones, over a floor of 1
abbrev heard : List Float
heard = replicate 3 two ++ (replicate 8 one ++ (replicate 3 two ++ (replicate 7 one ++ replicate 9 two)))

-- one word
abbrev word : ℕ → Float → Float → Words
word letters start end = words (start ∷ []) (end ∷ []) (letters ∷ []) (9 ∷ []) (1 ∷ [])

-- the word starts at 0.25 s, in a sound that rises at 0.11 s, across 7 quiet frames
walks-back : onsets_call (word 4 (time 25) (time 30)) heard one 4800 ≡ output (Ok tt) (word 4 (time 11) (time 30))
unfolding onsets_call sound_rule chain in_order of_words also when of_levels of_samples uneven first any time_of loud_row snap_onsets onset_turn onset_of onset_frame prev_end each run_back frame_at frame_ceil floor_i64 ceil_i64 frame_seconds js_min under is_nan add sub neg sum mul div lt le eq of_int round size span climb units odd of_bits of_fields count_trailing_zeros
walks-back = refl

-- three words: the second starts 0.15 s after the first ends, so it walks back, and no further than there; the third starts sooner after the
-- second, and stays
abbrev three : Float → Words
three second = words (time 0 ∷ second ∷ time 28 ∷ []) (time 10 ∷ time 27 ∷ time 30 ∷ []) (4 ∷ 4 ∷ 4 ∷ []) (9 ∷ 9 ∷ 9 ∷ []) (1 ∷ 2 ∷ 3 ∷ [])

after-a-pause : onsets_call (three (time 25)) (replicate 30 two) one 4800 ≡ output (Ok tt) (three (time 10))
unfolding onsets_call sound_rule chain in_order of_words also when of_levels of_samples uneven first any time_of loud_row snap_onsets onset_turn onset_of onset_frame prev_end each run_back frame_at frame_ceil floor_i64 ceil_i64 frame_seconds js_min under is_nan add sub neg sum mul div lt le eq of_int round size span climb units odd of_bits of_fields count_trailing_zeros
after-a-pause = refl

refuses-3 : let ws = words (time 0 ∷ []) [] [] [] [] in onsets_call ws heard one 4800 ≡ output (Err Lengths) ws
unfolding onsets_call sound_rule chain in_order of_words also when of_levels of_samples uneven first
refuses-3 = refl

refuses-4 : onsets_call (word 4 (time 25) (time 30)) heard one 57600001 ≡ output (Err Counts) (word 4 (time 25) (time 30))
unfolding onsets_call sound_rule chain in_order of_words also when of_levels of_samples uneven first
refuses-4 = refl

refuses-1 : onsets_call (word 4 nan (time 30)) heard one 4800 ≡ output (Err Time) (word 4 nan (time 30))
unfolding onsets_call sound_rule chain in_order of_words also when of_levels of_samples uneven first any time_of lt le eq round size span climb units odd of_bits of_fields count_trailing_zeros
refuses-1 = refl

refuses-2 : onsets_call (word 1001 (time 25) (time 30)) heard one 4800 ≡ output (Err Letters) (word 1001 (time 25) (time 30))
unfolding onsets_call sound_rule chain in_order of_words also when of_levels of_samples uneven first any time_of lt le eq round size span climb units odd of_bits of_fields count_trailing_zeros
refuses-2 = refl

refuses-7 : onsets_call (word 4 (time 25) (time 30)) heard one 4960 ≡ output (Err Levels) (word 4 (time 25) (time 30))
unfolding onsets_call sound_rule chain in_order of_words also when of_levels of_samples uneven first any time_of lt le eq round size span climb units odd of_bits of_fields count_trailing_zeros
refuses-7 = refl
