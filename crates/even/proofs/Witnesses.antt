-- Inputs for each answer of `even_out`, by computing it: four in which times move, and one for each refusal. Assumes nothing.
use Rattle.std.specs.Prelude.{Ok, Err}
use Prim.Native.Nat.{ℕ, zero, suc}
use mathlib.Core.Bool.{true, false}
use mathlib.Core.List.{[], ◌∷◌}
use mathlib.Core.Path.{◌≡◌, refl}
use lib.IntN.{pos, negsuc}
use lib.Count.{count_trailing_zeros}
use lib.ListN.{replicate}
use lib.Ieee.{Float, nan, inf, fin, is_nan, round, size, span, climb, units, odd, of_bits, of_fields, of_int, add, sub, neg, sum, mul, div, lt, le, eq}
use Rattle.base.specs.Loop.{each, fold, down, up}
use Rattle.base.specs.Refusals.{first}
use Rattle.base.specs.Words.{Words, words, part_edges, on_part}
use Rattle.base.specs.declared.Refusal.TheVariants.{Time, Letters, Lengths, Counts}
use Rattle.js.specs.Js.{under, js_min, js_max}
use Rattle.limits.specs.Limits.{time_of, limit_of, any}
use Rattle.limits.specs.Order.{when, also, in_order, chain}
use Rattle.word_calls.specs.Calls.{uneven, of_words, of_limit, limit_rule, output}
use Rattle.share.specs.Share as shares
use Rattle.even.specs.Even as stretches
use Rattle.even.specs.Even.{crushed, swollen, first_crushed, with_swollen, last_crushed, grows, grown, ceiling_of, borrows, borrowed, end_of, stretch_of, even_run, even_turn, even_out, even_call}

-- n / 2 ^ k seconds, for an odd n
abbrev time : ℕ → ℕ → Float
time n zero = fin false n (pos 0)
time n (suc k) = fin false n (negsuc k)

-- two words and three, each of four letters
abbrev two : Float → Float → Float → Float → Words
two s₀ e₀ s₁ e₁ = words (s₀ ∷ s₁ ∷ []) (e₀ ∷ e₁ ∷ []) (4 ∷ 4 ∷ []) (4 ∷ 4 ∷ []) (1 ∷ 2 ∷ [])

abbrev three : Float → Float → Float → Float → Float → Float → Words
three s₀ e₀ s₁ e₁ s₂ e₂ = words (s₀ ∷ s₁ ∷ s₂ ∷ []) (e₀ ∷ e₁ ∷ e₂ ∷ []) (4 ∷ 4 ∷ 4 ∷ []) (4 ∷ 4 ∷ 4 ∷ []) (1 ∷ 2 ∷ 3 ∷ [])

-- the second word, of 1 / 16 s, takes the time up to the third
fills-the-gap : even_call (three (time 0 0) (time 1 2) (time 1 2) (time 5 4) (time 1 1) (time 1 0)) (inf false)
    ≡ output (Ok tt) (three (time 0 0) (time 1 2) (time 1 2) (time 1 1) (time 1 1) (time 1 0))
unfolding even_call limit_rule chain in_order of_limit of_words also when uneven first any time_of limit_of even_out even_turn stretch_of even_run crushed swollen first_crushed with_swollen last_crushed grows grown ceiling_of borrows borrowed end_of stretches.sum on_part part_edges shares.share shares.sum each fold down up js_min js_max under is_nan add sub neg sum mul div lt le eq of_int round size span climb units odd of_bits of_fields count_trailing_zeros
fills-the-gap = refl

-- the word before it lasts 5 / 4 s, swollen: the two share its time
takes-the-swollen : even_call (three (time 0 0) (time 5 2) (time 5 2) (time 21 4) (time 3 1) (time 7 2)) (inf false)
    ≡ output (Ok tt) (three (time 0 0) (time 21 5) (time 21 5) (time 21 4) (time 3 1) (time 7 2))
unfolding even_call limit_rule chain in_order of_limit of_words also when uneven first any time_of limit_of even_out even_turn stretch_of even_run crushed swollen first_crushed with_swollen last_crushed grows grown ceiling_of borrows borrowed end_of stretches.sum on_part part_edges shares.share shares.sum each fold down up js_min js_max under is_nan add sub neg sum mul div lt le eq of_int round size span climb units odd of_bits of_fields count_trailing_zeros
takes-the-swollen = refl

-- the third word starts 1 / 8 s after it, too soon for four letters: the two share the time up to the third's end
takes-the-next : even_call (three (time 0 0) (time 1 2) (time 1 2) (time 5 4) (time 3 3) (time 3 1)) (inf false)
    ≡ output (Ok tt) (three (time 0 0) (time 1 2) (time 1 2) (time 7 3) (time 7 3) (time 3 1))
unfolding even_call limit_rule chain in_order of_limit of_words also when uneven first any time_of limit_of even_out even_turn stretch_of even_run crushed swollen first_crushed with_swollen last_crushed grows grown ceiling_of borrows borrowed end_of stretches.sum on_part part_edges shares.share shares.sum each fold down up js_min js_max under is_nan add sub neg sum mul div lt le eq of_int round size span climb units odd of_bits of_fields count_trailing_zeros
takes-the-next = refl

-- the last word has 1 / 8 s up to the limit, too little for four letters: it borrows from the word before it
borrows-time : even_call (two (time 0 0) (time 1 1) (time 1 1) (time 9 4)) (time 5 3) ≡ output (Ok tt) (two (time 0 0) (time 5 4) (time 5 4) (time 5 3))
unfolding even_call limit_rule chain in_order of_limit of_words also when uneven first any time_of limit_of even_out even_turn stretch_of even_run crushed swollen first_crushed with_swollen last_crushed grows grown ceiling_of borrows borrowed end_of stretches.sum on_part part_edges shares.share shares.sum each fold down up js_min js_max under is_nan add sub neg sum mul div lt le eq of_int round size span climb units odd of_bits of_fields count_trailing_zeros
borrows-time = refl

-- both words end before they start, and the last end stays past the limit: they share the time from 1 s back to 1 / 2 s
runs-backwards : even_call (two (time 1 0) (time 3 2) (time 1 0) (time 1 1)) (time 1 2) ≡ output (Ok tt) (two (time 1 0) (time 3 2) (time 3 2) (time 1 1))
unfolding even_call limit_rule chain in_order of_limit of_words also when uneven first any time_of limit_of even_out even_turn stretch_of even_run crushed swollen first_crushed with_swollen last_crushed grows grown ceiling_of borrows borrowed end_of stretches.sum on_part part_edges shares.share shares.sum each fold down up js_min js_max under is_nan add sub neg sum mul div lt le eq of_int round size span climb units odd of_bits of_fields count_trailing_zeros
runs-backwards = refl

refuses-3 : let ws = words (time 0 0 ∷ []) [] [] [] [] in even_call ws (inf false) ≡ output (Err Lengths) ws
unfolding even_call limit_rule chain in_order of_limit of_words also when uneven first
refuses-3 = refl

-- 4,097 words, all alike
refuses-4 : let ws = words (replicate 4097 (time 0 0)) (replicate 4097 (time 1 0)) (replicate 4097 1) (replicate 4097 1) (replicate 4097 1) in
    (even_call ws (inf false)).answer ≡ Err Counts
unfolding even_call limit_rule chain in_order of_limit of_words also when uneven first
refuses-4 = refl

refuses-1 : let ws = two (time 0 0) nan (time 1 1) (time 9 4) in even_call ws (inf false) ≡ output (Err Time) ws
unfolding even_call limit_rule chain in_order of_limit of_words also when uneven first any time_of lt le eq of_bits of_fields count_trailing_zeros
refuses-1 = refl

-- a limit that is no number, and a limit of -infinity
refuses-1-limit : let ws = two (time 0 0) (time 1 1) (time 1 1) (time 9 4) in even_call ws nan ≡ output (Err Time) ws
unfolding even_call limit_rule chain in_order of_limit of_words also when uneven first any time_of limit_of lt le eq of_bits of_fields count_trailing_zeros
refuses-1-limit = refl

refuses-1-below : let ws = two (time 0 0) (time 1 1) (time 1 1) (time 9 4) in even_call ws (inf true) ≡ output (Err Time) ws
unfolding even_call limit_rule chain in_order of_limit of_words also when uneven first any time_of limit_of lt le eq of_bits of_fields count_trailing_zeros
refuses-1-below = refl

refuses-2 : let ws = words (time 0 0 ∷ []) (time 1 0 ∷ []) (0 ∷ []) (1 ∷ []) (1 ∷ []) in even_call ws (inf false) ≡ output (Err Letters) ws
unfolding even_call limit_rule chain in_order of_limit of_words also when uneven first any time_of limit_of lt le eq of_bits of_fields count_trailing_zeros
refuses-2 = refl
