-- Inputs for each answer of `tally`, by computing it: two spans, of which one has a word over loud frames and one a reversed word, beside a word
-- whose number has no span; and one input for each refusal. Assumes nothing.
use Rattle.std.specs.Prelude.{Ok, Err}
use Prim.Native.Nat.{ℕ}
use mathlib.Core.Bool.{false}
use mathlib.Core.List.{List, [], ◌∷◌, ◌++◌}
use mathlib.Core.Path.{◌≡◌, refl}
use lib.IntN.{pos}
use lib.ListN.{replicate}
use lib.Count.{count_trailing_zeros}
use lib.Ieee.{Float, nan, fin, binary64, round, size, span, climb, units, odd, of_bits, of_fields, mul, div, lt, le, eq}
use Rattle.base.specs.Refusals.{first}
use Rattle.base.specs.Words.{Words, words, Spans, spans}
use Rattle.base.specs.Loop.{each, table}
use Rattle.base.specs.declared.Refusal.TheVariants.{Time, Letters, Lengths, Counts, Levels, Places}
use Rattle.frames.specs.Frames.{floor_i64, frame_at, frame_from_zero}
use Rattle.envelope.specs.Envelope.{loud_row}
use Rattle.limits.specs.Limits.{any, time_of}
use Rattle.limits.specs.Order.{when, also, in_order, chain}
use Rattle.word_calls.specs.Calls.{uneven, of_words, of_samples, of_levels, of_list, uneven_spans, many_spans, of_spans, of_places, phrases_rule}
use Rattle.tally.specs.Tally.{covers, cover_turn, loud_under, span_turn, span_tally, tallies, output, tally_call}

-- so many hundredths of a second
abbrev time : ℕ → Float
time n = round binary64 false n 100

abbrev one : Float
one = fin false 1 (pos 0)

-- 2 quiet frames and 28 loud ones, over a floor of 1
abbrev heard : List Float
heard = replicate 2 one ++ replicate 28 (fin false 1 (pos 1))

-- three words: over frames 0 to 9, over the loud frames, and one that ends before it starts
abbrev three : Words
three = words (time 0 ∷ time 2 ∷ time 20 ∷ []) (time 10 ∷ time 30 ∷ time 10 ∷ []) (4 ∷ 4 ∷ 4 ∷ []) (3 ∷ 3 ∷ 3 ∷ []) (1 ∷ 2 ∷ 3 ∷ [])

-- of spans 0 and 1, and of a phrase 7 that has no span
abbrev numbers : List ℕ
numbers = 0 ∷ 7 ∷ 1 ∷ []

abbrev two-spans : Spans
two-spans = spans (time 0 ∷ time 10 ∷ []) (time 10 ∷ time 30 ∷ []) (1 ∷ 1 ∷ [])

abbrev places : List ℕ
places = 5 ∷ 6 ∷ 9 ∷ []

counts-its-span : tally_call three numbers two-spans heard one 4800 places ≡ output (Ok tt) (8 ∷ 0 ∷ 9 ∷ [])
unfolding tally_call phrases_rule chain in_order of_words also when of_levels of_samples of_list of_spans of_places uneven uneven_spans many_spans first any time_of loud_row tallies span_tally span_turn loud_under cover_turn covers table each frame_from_zero frame_at floor_i64 mul div lt le eq round size span climb units odd of_bits of_fields count_trailing_zeros
counts-its-span = refl

-- two phrase numbers for three words
refuses-3 : tally_call three (0 ∷ 7 ∷ []) two-spans heard one 4800 places ≡ output (Err Lengths) places
unfolding tally_call phrases_rule chain in_order of_words also when of_levels of_samples of_list of_spans of_places uneven uneven_spans many_spans first
refuses-3 = refl

-- a span that counts 4,097 words
refuses-4 : tally_call three numbers (spans (time 0 ∷ []) (time 10 ∷ []) (4097 ∷ [])) heard one 4800 places ≡ output (Err Counts) places
unfolding tally_call phrases_rule chain in_order of_words also when of_levels of_samples of_list of_spans of_places uneven uneven_spans many_spans first any
refuses-4 = refl

-- a span that ends at no time
refuses-1 : tally_call three numbers (spans (time 0 ∷ []) (nan ∷ []) (1 ∷ [])) heard one 4800 places ≡ output (Err Time) places
unfolding tally_call phrases_rule chain in_order of_words also when of_levels of_samples of_list of_spans of_places uneven uneven_spans many_spans first any time_of lt le eq round size span climb units odd of_bits of_fields count_trailing_zeros
refuses-1 = refl

-- a word of no letters
refuses-2 : tally_call (words (time 0 ∷ []) (time 10 ∷ []) (0 ∷ []) (3 ∷ []) (1 ∷ [])) (0 ∷ []) two-spans heard one 4800 places ≡ output (Err Letters) places
unfolding tally_call phrases_rule chain in_order of_words also when of_levels of_samples of_list of_spans of_places uneven uneven_spans many_spans first any time_of lt le eq round size span climb units odd of_bits of_fields count_trailing_zeros
refuses-2 = refl

-- 30 levels, where the samples give 31, and too few places besides
refuses-7 : tally_call three numbers two-spans heard one 4960 (5 ∷ []) ≡ output (Err Levels) (5 ∷ [])
unfolding tally_call phrases_rule chain in_order of_words also when of_levels of_samples of_list of_spans of_places uneven uneven_spans many_spans first any time_of lt le eq round size span climb units odd of_bits of_fields count_trailing_zeros
refuses-7 = refl

-- one place for two spans
refuses-6 : tally_call three numbers two-spans heard one 4800 (5 ∷ []) ≡ output (Err Places) (5 ∷ [])
unfolding tally_call phrases_rule chain in_order of_words also when of_levels of_samples of_list of_spans of_places uneven uneven_spans many_spans first any time_of lt le eq round size span climb units odd of_bits of_fields count_trailing_zeros
refuses-6 = refl
