-- Inputs for each answer of `snap_ends`, by computing it: one word that ends with its sound, two that share an edge, and one for each refusal. Assumes nothing.
use Rattle.std.specs.Prelude.{Ok, Err}
use Prim.Native.Nat.{ℕ}
use mathlib.Core.Bool.{false}
use mathlib.Core.List.{List, [], ◌∷◌, ◌++◌}
use mathlib.Core.Path.{◌≡◌, refl}
use lib.IntN.{pos}
use lib.ListN.{replicate}
use lib.Count.{count_trailing_zeros}
use lib.Ieee.{Float, nan, fin, binary64, is_nan, round, size, span, climb, units, odd, of_bits, of_fields, of_int, add, sub, neg, sum, mul, div, lt, le, eq}
use Rattle.base.specs.Refusals.{first}
use Rattle.base.specs.Words.{Words, words}
use Rattle.base.specs.Loop.{each, run}
use Rattle.base.specs.declared.Refusal.TheVariants.{Time, Letters, Lengths, Counts, Levels}
use Rattle.js.specs.Js.{under, js_min, js_max, js_to_fixed, nearest_up}
use Rattle.frames.specs.Frames.{floor_i64, frame_at, frame_seconds}
use Rattle.envelope.specs.Envelope.{loud_row}
use Rattle.limits.specs.Limits.{time_of, any}
use Rattle.limits.specs.Order.{when, also, in_order, chain}
use Rattle.word_calls.specs.Calls.{uneven, of_words, of_samples, of_levels, of_time, timed_rule, output}
use Rattle.ends.specs.Ends.{last_loud, sound_end, next_start, is_pair, pair_start, pair_edge, pair_of, reach, or_duration, trimmed, end_of, set_pair, end_turn, snap_ends, ends_call}

-- so many hundredths of a second
abbrev time : ℕ → Float
time n = round binary64 false n 100

abbrev one : Float
one = fin false 1 (pos 0)

abbrev two : Float
two = fin false 1 (pos 1)

-- 2 quiet frames, 10 loud ones, 8 quiet ones, 10 loud ones, over a floor of 1
abbrev heard : List Float
heard = replicate 2 one ++ (replicate 10 two ++ (replicate 8 one ++ replicate 10 two))

-- one word, in a recording of 0.3 s
abbrev word : ℕ → Float → Float → Words
word letters start end = words (start ∷ []) (end ∷ []) (letters ∷ []) (9 ∷ []) (1 ∷ [])

-- the word's sound ends at 0.12 s, 8 quiet frames before the next one
ends-with-its-sound : ends_call (word 4 (time 0) (time 30)) heard one 4800 (time 30) ≡ output (Ok tt) (word 4 (time 0) (time 12))
unfolding ends_call timed_rule chain in_order of_words also when of_levels of_samples of_time uneven first any time_of loud_row snap_ends end_turn next_start is_pair end_of reach or_duration trimmed sound_end last_loud each run frame_at floor_i64 frame_seconds js_min js_max under is_nan add sub neg sum mul div lt le eq of_int round size span climb units odd of_bits of_fields count_trailing_zeros
ends-with-its-sound = refl

-- two words with no length, of 3 units each: the first starts where the sound rises, and they share its span up to the second's end
shares-an-edge : let pair : Float → Float → Float → Words = (λ s e n. words (s ∷ n ∷ []) (e ∷ time 14 ∷ []) (4 ∷ 4 ∷ []) (3 ∷ 3 ∷ []) (1 ∷ 2 ∷ []))
    in ends_call (pair (time 0) (time 1) (time 1)) heard one 4800 (time 30) ≡ output (Ok tt) (pair (time 2) (time 8) (time 8))
unfolding ends_call timed_rule chain in_order of_words also when of_levels of_samples of_time uneven first any time_of loud_row snap_ends end_turn set_pair next_start is_pair pair_of pair_start pair_edge end_of reach or_duration trimmed sound_end last_loud each run frame_at floor_i64 frame_seconds js_min js_max js_to_fixed nearest_up under is_nan add sub neg sum mul div lt le eq of_int round size span climb units odd of_bits of_fields count_trailing_zeros
shares-an-edge = refl

refuses-3 : let ws = words (time 0 ∷ []) [] [] [] [] in ends_call ws heard one 4800 (time 30) ≡ output (Err Lengths) ws
unfolding ends_call timed_rule chain in_order of_words also when of_levels of_samples of_time uneven first
refuses-3 = refl

refuses-4 : ends_call (word 4 (time 0) (time 30)) heard one 57600001 (time 30) ≡ output (Err Counts) (word 4 (time 0) (time 30))
unfolding ends_call timed_rule chain in_order of_words also when of_levels of_samples of_time uneven first
refuses-4 = refl

refuses-1 : ends_call (word 4 nan (time 30)) heard one 4800 (time 30) ≡ output (Err Time) (word 4 nan (time 30))
unfolding ends_call timed_rule chain in_order of_words also when of_levels of_samples of_time uneven first any time_of lt le eq round size span climb units odd of_bits of_fields count_trailing_zeros
refuses-1 = refl

refuses-2 : ends_call (word 1001 (time 0) (time 30)) heard one 4800 (time 30) ≡ output (Err Letters) (word 1001 (time 0) (time 30))
unfolding ends_call timed_rule chain in_order of_words also when of_levels of_samples of_time uneven first any time_of lt le eq round size span climb units odd of_bits of_fields count_trailing_zeros
refuses-2 = refl

refuses-7 : ends_call (word 4 (time 0) (time 30)) heard one 4960 (time 30) ≡ output (Err Levels) (word 4 (time 0) (time 30))
unfolding ends_call timed_rule chain in_order of_words also when of_levels of_samples of_time uneven first any time_of lt le eq round size span climb units odd of_bits of_fields count_trailing_zeros
refuses-7 = refl

-- the duration is among the times
refuses-1-duration : ends_call (word 4 (time 0) (time 30)) heard one 4800 (time 720001) ≡ output (Err Time) (word 4 (time 0) (time 30))
unfolding ends_call timed_rule chain in_order of_words also when of_levels of_samples of_time uneven first any time_of lt le eq round size span climb units odd of_bits of_fields count_trailing_zeros
refuses-1-duration = refl
