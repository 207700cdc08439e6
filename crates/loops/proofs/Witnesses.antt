-- Inputs for each answer of `collapse_loops`: one that is accepted, with all that it leaves, and one for each refusal. Assumes nothing.
use Rattle.std.specs.Prelude.{Ok, Err}
use Prim.Native.Nat.{ℕ, ◌<◌}
use mathlib.Core.Path.{◌≡◌, refl, ap, ◌∙◌}
use mathlib.Core.Bool.{true, false}
use mathlib.Core.List.{[], ◌∷◌}
use borrow.Author.Tests.{eq-eqb, lt-ltb}
use lib.Dec.{ltb, lit<}
use lib.IntN.{pos}
use lib.ListN.{length, replicate, length-replicate}
use lib.Ieee.{Float, nan, fin, le, lt, eq, of_bits}
use Rattle.base.specs.Loop.{each, run}
use Rattle.base.specs.Refusals.{first, refuses, says_of, says}
use Rattle.base.specs.Words.{Words, words, words_in_places}
use Rattle.base.specs.declared.Refusal.TheVariants.{Lengths, Time, Letters}
use Rattle.base.proofs.First.{first-skip, first-here, says_first}
use Rattle.limits.specs.Limits.{time_of, any}
use Rattle.limits.specs.Order.{when, also, in_order, chain}
use Rattle.word_calls.specs.Calls.{uneven, of_words}
use Rattle.loops.specs.Loops.{equal, same, copies_end, is_loop, loop_turn, pass, collapse_loops, output, collapse_call, left}
use Rattle.loops.specs.Parts.{only_keys}
use Rattle.loops.proofs.Promises.{refused-exactly}

-- 0 s to 4 s
abbrev sec : ℕ → Float
sec n = fin false n (pos 0)

-- ---- Keys 1 1 1 2 give 1 2: the first and the last word, and two places of zero.
witness-accepted : collapse_call (words (sec 0 ∷ sec 1 ∷ sec 2 ∷ sec 3 ∷ []) (sec 1 ∷ sec 2 ∷ sec 3 ∷ sec 4 ∷ []) (5 ∷ 6 ∷ 7 ∷ 8 ∷ []) (15 ∷ 16 ∷ 17 ∷ 18 ∷ []) (1 ∷ 1 ∷ 1 ∷ 2 ∷ []))
    ≡ output (Ok (left 2 true)) (words (sec 0 ∷ sec 3 ∷ sec 0 ∷ sec 0 ∷ []) (sec 1 ∷ sec 4 ∷ sec 0 ∷ sec 0 ∷ []) (5 ∷ 8 ∷ 0 ∷ 0 ∷ []) (15 ∷ 18 ∷ 0 ∷ 0 ∷ []) (1 ∷ 2 ∷ 0 ∷ 0 ∷ []))
unfolding collapse_call chain in_order first of_words also when uneven any time_of le lt eq of_bits collapse_loops pass loop_turn is_loop same equal copies_end run each words_in_places
witness-accepted = refl

witness-lengths : collapse_call (words [] [] [] [] (1 ∷ [])) ≡ output (Err Lengths) (words [] [] [] [] (1 ∷ []))
unfolding collapse_call chain in_order first of_words also when uneven
witness-lengths = refl

witness-time : collapse_call (words (nan ∷ []) (sec 1 ∷ []) (0 ∷ []) (1 ∷ []) (1 ∷ [])) ≡ output (Err Time) (words (nan ∷ []) (sec 1 ∷ []) (0 ∷ []) (1 ∷ []) (1 ∷ []))
unfolding collapse_call chain in_order first of_words also when uneven any time_of
witness-time = refl

witness-letters : collapse_call (words (sec 0 ∷ []) (sec 1 ∷ []) (0 ∷ []) (1 ∷ []) (1 ∷ [])) ≡ output (Err Letters) (words (sec 0 ∷ []) (sec 1 ∷ []) (0 ∷ []) (1 ∷ []) (1 ∷ []))
unfolding collapse_call chain in_order first of_words also when uneven any time_of le lt eq of_bits
witness-letters = refl

-- ---- So many words, all alike; any number above the limit is refused.
alike : ℕ → Words
alike n = words (replicate n (sec 0)) (replicate n (sec 1)) (replicate n 1) (replicate n 1) (replicate n 1)

too_many : (n : ℕ) → 4096 < n → says (collapse_call (alike n)).answer ≡ refuses 4
unfolding alike in_order of_words also when uneven
too_many n h =
    let ones : length (replicate {A = ℕ} n 1) ≡ n = length-replicate n 1 in
    let even : uneven (length (alike n).starts) (length (alike n).ends) (length (alike n).letters) (length (alike n).units) (length (alike n).keys) ≡ false =
    rw (length-replicate n (sec 0), length-replicate n (sec 1), ones, eq-eqb n n refl) in
    let long : ltb 4096 (length (alike n).starts) ≡ true = rw (length-replicate n (sec 0)) (lt-ltb 4096 n h) in
    (refused-exactly (alike n) 4).0 (says_first {A = ℕ} 0 4 (in_order (of_words (alike n))) (ap (says_of {A = ℕ} 0) (first-skip _ _ (rw even) ∙ first-here _ _ (rw long))))

witness-counts : (ws : Words) × (says (collapse_call ws).answer ≡ refuses 4)
witness-counts = (alike 4097, too_many 4097 (lit< tt))

-- ---- Longer runs are looked for last, and shorter ones not again: three copies of 1 2 1 are found, and what they leave has three of 1 2.
witness-order : (collapse_loops (only_keys (1 ∷ 2 ∷ 1 ∷ 2 ∷ 1 ∷ 1 ∷ 2 ∷ 1 ∷ 1 ∷ 2 ∷ 1 ∷ 2 ∷ []))).words ≡ only_keys (1 ∷ 2 ∷ 1 ∷ 2 ∷ 1 ∷ 2 ∷ [])
unfolding collapse_loops pass loop_turn is_loop same equal copies_end run each
witness-order = refl
