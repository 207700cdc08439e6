-- Inputs for each answer of `hand_back_tails`, by computing it: one in which a tail is handed back, and one for each refusal. Assumes nothing.
use Rattle.std.specs.Prelude.{Ok, Err}
use Prim.Native.Nat.{ℕ}
use mathlib.Core.Bool.{false}
use mathlib.Core.List.{List, [], ◌∷◌, ◌++◌}
use mathlib.Core.Path.{◌≡◌, refl}
use lib.IntN.{pos}
use lib.ListN.{replicate}
use lib.Count.{count_trailing_zeros}
use lib.Ieee.{Float, nan, fin, binary64, is_nan, round, size, span, climb, units, odd, of_bits, of_fields, of_int, add, sub, neg, sum, mul, div, lt, le, eq}
use Rattle.base.specs.Refusals.{first}
use Rattle.base.specs.Words.{Words, words}
use Rattle.base.specs.Loop.{each, run}
use Rattle.base.specs.declared.Refusal.TheVariants.{Time, Letters, Lengths, Counts, Levels}
use Rattle.js.specs.Js.{under, js_max}
use Rattle.frames.specs.Frames.{floor_i64, frame_at, frame_seconds}
use Rattle.envelope.specs.Envelope.{loud_row}
use Rattle.limits.specs.Limits.{time_of, any}
use Rattle.limits.specs.Order.{when, also, in_order, chain}
use Rattle.word_calls.specs.Calls.{uneven, of_words, of_samples, of_levels, sound_rule, output}
use Rattle.tails.specs.Tails.{past_loud, past_quiet, hand_back, tail_turn, hand_back_tails, tails_call}

-- so many hundredths of a second
abbrev time : ℕ → Float
time n = round binary64 false n 100

abbrev one : Float
one = fin false 1 (pos 0)

abbrev two : Float
two = fin false 1 (pos 1)

-- 12 loud frames, 8 quiet ones, 10 loud ones, over a floor of 1
abbrev heard : List Float
heard = replicate 12 two ++ (replicate 8 one ++ replicate 10 two)

-- two words, the second with so many letters
abbrev pair : ℕ → Float → Float → Words
pair letters end start = words (time 0 ∷ start ∷ []) (end ∷ time 30 ∷ []) (4 ∷ letters ∷ []) (4 ∷ 9 ∷ []) (1 ∷ 2 ∷ [])

-- the second word starts at 0.1 s, in a sound that ends at 0.12 s; its own begins at 0.2 s
hands-back : tails_call (pair 4 (time 10) (time 10)) heard one 4800 ≡ output (Ok tt) (pair 4 (time 12) (time 20))
unfolding tails_call sound_rule chain in_order of_words also when of_levels of_samples uneven first any time_of loud_row hand_back_tails tail_turn hand_back past_loud past_quiet each run frame_at floor_i64 frame_seconds js_max under is_nan add sub neg sum mul div lt le eq of_int round size span climb units odd of_bits of_fields count_trailing_zeros
hands-back = refl

refuses-3 : let ws = words (time 0 ∷ []) [] [] [] [] in tails_call ws heard one 4800 ≡ output (Err Lengths) ws
unfolding tails_call sound_rule chain in_order of_words also when of_levels of_samples uneven first
refuses-3 = refl

refuses-4 : tails_call (pair 4 (time 10) (time 10)) heard one 57600001 ≡ output (Err Counts) (pair 4 (time 10) (time 10))
unfolding tails_call sound_rule chain in_order of_words also when of_levels of_samples uneven first
refuses-4 = refl

refuses-1 : tails_call (pair 4 nan (time 10)) heard one 4800 ≡ output (Err Time) (pair 4 nan (time 10))
unfolding tails_call sound_rule chain in_order of_words also when of_levels of_samples uneven first any time_of lt le eq round size span climb units odd of_bits of_fields count_trailing_zeros
refuses-1 = refl

refuses-2 : tails_call (pair 1001 (time 10) (time 10)) heard one 4800 ≡ output (Err Letters) (pair 1001 (time 10) (time 10))
unfolding tails_call sound_rule chain in_order of_words also when of_levels of_samples uneven first any time_of lt le eq round size span climb units odd of_bits of_fields count_trailing_zeros
refuses-2 = refl

refuses-7 : tails_call (pair 4 (time 10) (time 10)) heard one 4960 ≡ output (Err Levels) (pair 4 (time 10) (time 10))
unfolding tails_call sound_rule chain in_order of_words also when of_levels of_samples uneven first any time_of lt le eq round size span climb units odd of_bits of_fields count_trailing_zeros
refuses-7 = refl
