-- Inputs for each answer of `align_phrases`, by computing it: one with words before, inside, between and after, an empty span, a span with no word
-- inside and a surplus word; and one for each refusal. Assumes nothing.
use Rattle.std.specs.Prelude.{Ok, Err}
use Prim.Native.Nat.{ℕ}
use mathlib.Core.Bool.{false}
use mathlib.Core.List.{List, [], ◌∷◌}
use mathlib.Core.Path.{◌≡◌, refl}
use lib.ListN.{replicate}
use lib.Count.{count_trailing_zeros}
use lib.Ieee.{Float, nan, binary64, is_nan, round, size, span, climb, units, odd, of_bits, of_fields, of_int, add, sub, neg, sum, mul, div, lt, le, eq}
use Rattle.base.specs.Refusals.{first}
use Rattle.base.specs.Words.{Words, words, Spans, spans, part_edges, on_part, words_in_places}
use Rattle.base.specs.Loop.{each, fold, up, down}
use Rattle.base.specs.declared.Refusal.TheVariants.{Time, Letters, Lengths, Counts, Places}
use Rattle.js.specs.Js.{under, js_max}
use Rattle.share.specs.Share as shares
use Rattle.limits.specs.Limits.{time_of, any}
use Rattle.limits.specs.Order.{when, also, in_order, chain}
use Rattle.word_calls.specs.Calls.{uneven, of_words, uneven_spans, many_spans, of_spans, of_places, spans_rule}
use Rattle.spread.specs.Spread.{inside, first_inside, last_inside, spread, spread_before, spread_after, between_turn, place_between, place_group}
use Rattle.phrase_align.specs.PhraseAlign.{group_of, extend, placed_in, place_turn, align_phrases, in_their_places, output, align_call}

-- so many quarters of a second
abbrev time : ℕ → Float
time n = round binary64 false n 4

-- two words before the first inside one, a stray between two inside ones, one after the last; two words of a span with none inside; a surplus word
abbrev given : Words
given =
    words (time 40 ∷ time 41 ∷ time 12 ∷ time 40 ∷ time 20 ∷ time 30 ∷ time 0 ∷ time 1 ∷ time 9 ∷ []) (time 41 ∷ time 42 ∷ time 14 ∷ time 41 ∷ time 22 ∷ time 31 ∷ time 1 ∷ time 2 ∷ time 9 ∷ [])
    (3 ∷ 1 ∷ 5 ∷ 5 ∷ 5 ∷ 2 ∷ 1 ∷ 3 ∷ 4 ∷ []) (9 ∷ 8 ∷ 7 ∷ 6 ∷ 5 ∷ 4 ∷ 3 ∷ 2 ∷ 1 ∷ []) (1 ∷ 2 ∷ 3 ∷ 4 ∷ 5 ∷ 6 ∷ 7 ∷ 8 ∷ 9 ∷ [])

-- from 2 to 6 s, an empty span, from 8 to 9 s
abbrev phrased : ℕ → Spans
phrased n = spans (time 8 ∷ time 0 ∷ time 32 ∷ []) (time 24 ∷ time 0 ∷ time 36 ∷ []) (6 ∷ 0 ∷ n ∷ [])

abbrev places : List ℕ
places = replicate 11 77

places-words : align_call given (phrased 2) places
    ≡ output (Ok 8)
    (words (time 8 ∷ time 11 ∷ time 12 ∷ time 14 ∷ time 20 ∷ time 22 ∷ time 32 ∷ time 33 ∷ time 0 ∷ []) (time 11 ∷ time 12 ∷ time 14 ∷ time 20 ∷ time 22 ∷ time 24 ∷ time 33 ∷ time 36 ∷ time 0 ∷ [])
    (3 ∷ 1 ∷ 5 ∷ 5 ∷ 5 ∷ 2 ∷ 1 ∷ 3 ∷ 0 ∷ []) (9 ∷ 8 ∷ 7 ∷ 6 ∷ 5 ∷ 4 ∷ 3 ∷ 2 ∷ 0 ∷ []) (1 ∷ 2 ∷ 3 ∷ 4 ∷ 5 ∷ 6 ∷ 7 ∷ 8 ∷ 0 ∷ []))
    (0 ∷ 0 ∷ 0 ∷ 0 ∷ 0 ∷ 0 ∷ 2 ∷ 2 ∷ 0 ∷ 77 ∷ 77 ∷ [])
unfolding align_call spans_rule chain in_order of_words also when of_spans of_places uneven uneven_spans many_spans first any time_of align_phrases place_turn group_of extend placed_in place_group spread inside first_inside last_inside spread_before spread_after between_turn place_between in_their_places words_in_places part_edges on_part shares.share shares.sum each fold up down js_max under is_nan add sub neg sum mul div lt le eq of_int round size span climb units odd of_bits of_fields count_trailing_zeros
places-words = refl

-- without spans every word is dropped
drops-all : align_call (words (time 1 ∷ []) (time 2 ∷ []) (4 ∷ []) (4 ∷ []) (1 ∷ [])) (spans [] [] []) (5 ∷ 6 ∷ []) ≡ output (Ok 0) (words (time 0 ∷ []) (time 0 ∷ []) (0 ∷ []) (0 ∷ []) (0 ∷ [])) (0 ∷ 6 ∷ [])
unfolding align_call spans_rule chain in_order of_words also when of_spans of_places uneven uneven_spans many_spans first any time_of align_phrases in_their_places words_in_places each lt le eq round size span climb units odd of_bits of_fields count_trailing_zeros
drops-all = refl

refuses-3 : align_call given (spans (time 0 ∷ []) [] []) places ≡ output (Err Lengths) given places
unfolding align_call spans_rule chain in_order of_words also when of_spans of_places uneven uneven_spans first
refuses-3 = refl

refuses-4 : align_call given (phrased 4097) places ≡ output (Err Counts) given places
unfolding align_call spans_rule chain in_order of_words also when of_spans of_places uneven uneven_spans many_spans first any
refuses-4 = refl

refuses-1 : let sp = spans (nan ∷ []) (time 1 ∷ []) (1 ∷ []) in align_call given sp places ≡ output (Err Time) given places
unfolding align_call spans_rule chain in_order of_words also when of_spans of_places uneven uneven_spans many_spans first any time_of lt le eq round size span climb units odd of_bits of_fields count_trailing_zeros
refuses-1 = refl

refuses-2 : let ws = words (time 1 ∷ []) (time 2 ∷ []) (0 ∷ []) (4 ∷ []) (1 ∷ []) in align_call ws (phrased 2) places ≡ output (Err Letters) ws places
unfolding align_call spans_rule chain in_order of_words also when of_spans of_places uneven uneven_spans many_spans first any time_of lt le eq round size span climb units odd of_bits of_fields count_trailing_zeros
refuses-2 = refl

refuses-6 : align_call given (phrased 2) (1 ∷ 2 ∷ []) ≡ output (Err Places) given (1 ∷ 2 ∷ [])
unfolding align_call spans_rule chain in_order of_words also when of_spans of_places uneven uneven_spans many_spans first any time_of lt le eq round size span climb units odd of_bits of_fields count_trailing_zeros
refuses-6 = refl
