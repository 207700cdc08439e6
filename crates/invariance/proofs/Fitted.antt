-- Two fits by phrase that meet the theorem's conditions, computed: the recording of `Example`, and the same times 4, reversed. Phrase 0 is given alike, and its
-- word moves to the same times in both; the word and the span of phrase 1 differ, and its word comes out different. Assumes nothing.
use Rattle.std.specs.Prelude.{Ok}
use Prim.Native.Nat.{ℕ, zero, suc, ◌<◌}
use mathlib.Core.Bool.{true, false}
use mathlib.Core.List.{List, [], ◌∷◌}
use mathlib.Core.Path.{◌≡◌, refl, sym, ap, ◌∙◌}
use native.Mathlib.Omega.{arith}
use lib.IntN.{pos, negsuc}
use lib.ListN.{length, get_or}
use lib.Count.{count_trailing_zeros}
use lib.Ieee.{Float, fin, binary64, is_nan, round, size, span, climb, units, odd, of_bits, of_fields, of_int, add, sub, neg, sum, mul, div, lt, le, eq}
use Rattle.base.specs.Refusals.{first, says}
use Rattle.base.specs.Words.{Words, words, Spans, spans, part_edges, on_part}
use Rattle.base.specs.Loop.{each, fold, run, run_back, up, down}
use Rattle.js.specs.Js.{under, js_min, js_max}
use Rattle.frames.specs.Frames.{floor_i64, frame_at, frame_from_zero, frame_seconds}
use Rattle.envelope.specs.Envelope.{levels, peak, floor, loud_row}
use Rattle.limits.specs.Limits.{any, time_of}
use Rattle.limits.specs.Order.{when, also, in_order, chain}
use Rattle.word_calls.specs.Calls.{uneven, of_words, of_samples, of_levels, of_list, uneven_spans, many_spans, of_spans, of_places, phrases_rule, Output, output}
use Rattle.share.specs.Share as shares
use Rattle.ends.specs.Ends.{next_start, or_duration, last_loud, sound_end}
use Rattle.even.specs.Even as even
use Rattle.fit_file.specs.FitFile.{member_turn, members_of, picked, picked_edges, put_back, put_edges, inside_span, inside_turn, keep_inside, take_run, take_trailing, fit_group, fit_phrase, fit_file, duration_of, fit_file_call}
use Rattle.last_run.specs.LastRun.{ends_between, frames_of, frame_run, last_run}
use Rattle.fit_to_sound.specs.FitToSound.{step_start, in_order as end_in_order, order_turn, put_in_order, rise_of, rise_turn_of, move_to_rise, clip, sound_end_in, cut_back, lasts_to, ended_by, end_of, end_turn, settle_ends, fit_to_sound}
use Rattle.invariance.specs.Alike.{word_at, GivenAlike}
use Rattle.invariance.proofs.Example.{half, plus_zero, recording, multiplied, recording-long, multiplied-long, recording-levels, multiplied-levels, recorded, reached}
use Rattle.invariance.proofs.Phrases.{phrase-scaled}

abbrev zero-s : Float
zero-s = fin false 0 (pos 0)

abbrev eighth : Float
eighth = fin false 1 (negsuc 2)

abbrev quarter : Float
quarter = fin false 1 (negsuc 1)

abbrev half-s : Float
half-s = fin false 1 (negsuc 0)

abbrev second : Float
second = fin false 1 (pos 0)

-- 0.14 s, one step low
abbrev fitted : Float
fitted = of_bits binary64 0x3fc1_eb85_1eb8_51eb

-- a word of phrase 0 and one of phrase 1, a letter each
abbrev pair : Float → Float → Float → Words
pair end start-1 end-1 = words (zero-s ∷ start-1 ∷ []) (end ∷ end-1 ∷ []) (1 ∷ 1 ∷ []) (1 ∷ 1 ∷ []) (1 ∷ 2 ∷ [])

abbrev two-spans : Float → Spans
two-spans end-1 = spans (zero-s ∷ zero-s ∷ []) (half-s ∷ end-1 ∷ []) (1 ∷ 1 ∷ [])

abbrev numbers : List ℕ
numbers = 0 ∷ 1 ∷ []

-- the call on two levels, and their floor
abbrev call : Words → Spans → List Float → ℕ → ℕ → Output
call ws sp ls samples places = fit_file_call ws numbers sp ls (floor ls) samples places

first-computed : call (pair second zero-s quarter) (two-spans half-s) (half ∷ (plus_zero ∷ [])) 320 2 ≡ output (Ok tt) (pair fitted zero-s fitted)
unfolding fit_file_call phrases_rule chain in_order of_words also when of_levels of_samples of_list of_spans of_places uneven uneven_spans many_spans first any time_of loud_row fit_file fit_phrase duration_of members_of member_turn picked picked_edges put_edges put_back fit_group keep_inside inside_turn inside_span take_trailing take_run last_run frame_run frames_of ends_between run_back fit_to_sound put_in_order order_turn step_start end_in_order move_to_rise rise_turn_of rise_of clip even.even_out even.even_turn even.crushed even.swollen even.first_crushed even.with_swollen even.last_crushed even.grown even.ceiling_of even.borrows even.borrowed even.end_of even.stretch_of even.even_run even.sum shares.share shares.sum part_edges on_part settle_ends end_turn end_of ended_by cut_back lasts_to sound_end_in next_start or_duration sound_end last_loud each run up down frame_from_zero frame_at floor_i64 frame_seconds js_min js_max under is_nan fold peak floor add sub neg sum mul div lt le eq of_int round size span climb units odd of_bits of_fields count_trailing_zeros
first-computed = refl

second-computed : call (pair second eighth quarter) (two-spans quarter) (fin false 1 (pos 1) ∷ (plus_zero ∷ [])) 320 9 ≡ output (Ok tt) (pair fitted eighth quarter)
unfolding fit_file_call phrases_rule chain in_order of_words also when of_levels of_samples of_list of_spans of_places uneven uneven_spans many_spans first any time_of loud_row fit_file fit_phrase duration_of members_of member_turn picked picked_edges put_edges put_back fit_group keep_inside inside_turn inside_span take_trailing take_run last_run frame_run frames_of ends_between run_back fit_to_sound put_in_order order_turn step_start end_in_order move_to_rise rise_turn_of rise_of clip even.even_out even.even_turn even.crushed even.swollen even.first_crushed even.with_swollen even.last_crushed even.grown even.ceiling_of even.borrows even.borrowed even.end_of even.stretch_of even.even_run even.sum shares.share shares.sum part_edges on_part settle_ends end_turn end_of ended_by cut_back lasts_to sound_end_in next_start or_duration sound_end last_loud each run up down frame_from_zero frame_at floor_i64 frame_seconds js_min js_max under is_nan fold peak floor add sub neg sum mul div lt le eq of_int round size span climb units odd of_bits of_fields count_trailing_zeros
second-computed = refl

first-fit : call (pair second zero-s quarter) (two-spans half-s) (levels recording) (length recording) 2 ≡ output (Ok tt) (pair fitted zero-s fitted)
first-fit =
    ap (λ (ls : List Float). call (pair second zero-s quarter) (two-spans half-s) ls (length recording) 2) recording-levels
    ∙ ap (λ (n : ℕ). call (pair second zero-s quarter) (two-spans half-s) (half ∷ (plus_zero ∷ [])) n 2) recording-long ∙ first-computed

second-fit : call (pair second eighth quarter) (two-spans quarter) (levels multiplied) (length multiplied) 9 ≡ output (Ok tt) (pair fitted eighth quarter)
second-fit =
    ap (λ (ls : List Float). call (pair second eighth quarter) (two-spans quarter) ls (length multiplied) 9) multiplied-levels
    ∙ ap (λ (n : ℕ). call (pair second eighth quarter) (two-spans quarter) (fin false 1 (pos 1) ∷ (plus_zero ∷ [])) n 9) multiplied-long ∙ second-computed

-- phrase 0 is given alike: its word, and its span
given : GivenAlike numbers 0 (pair second zero-s quarter) (pair second eighth quarter) (two-spans half-s) (two-spans quarter)
unfolding word_at
given = record { words = words-alike; span-there = ((λ h. h), (λ h. h)); span-start = λ _. refl; span-end = λ _. refl }
  where
    words-alike : (i : ℕ) → i < 2 → ◌≡◌ {A = ℕ} (get_or numbers i 0) 0 → word_at (pair second zero-s quarter) i ≡ word_at (pair second eighth quarter) i
    words-alike zero h e = refl
    words-alike (suc zero) h e = absurd (omega arith)
    words-alike (suc (suc i)) h e = absurd (omega arith)

-- so its word comes out alike, and it has moved
example : word_at (pair fitted zero-s fitted) 0 ≡ word_at (pair fitted eighth quarter) 0
example =
    ap (λ (o : Output). word_at o.words 0) (sym first-fit)
    ∙ phrase-scaled (pos 2) true recording multiplied recorded reached numbers 0 _ _ (two-spans half-s) (two-spans quarter) 2 9 given (ap (λ (o : Output). says o.answer) first-fit) (ap (λ (o : Output). says o.answer) second-fit) 0 (omega arith) refl
    ∙ ap (λ (o : Output). word_at o.words 0) second-fit
