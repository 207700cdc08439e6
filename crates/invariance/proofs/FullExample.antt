-- Two full runs that meet the theorem's conditions, computed: the recording of `Example`, and the same times 4, reversed. Three words of one key are a loop, of which
-- the first is left; it is placed in its span, and ends at 0.14 s in both runs and not at 1 s. There is one piece. The other lent places differ. Assumes nothing.
use Rattle.std.specs.Prelude.{Ok}
use Prim.Native.Nat.{ℕ}
use mathlib.Core.Bool.{true, false}
use mathlib.Core.List.{List, [], ◌∷◌, ◌++◌, map}
use mathlib.Core.Path.{◌≡◌, refl, ap, ◌∙◌}
use lib.IntN.{pos, negsuc}
use lib.ListN.{length, get_or, drop}
use lib.Count.{count_trailing_zeros}
use lib.Ieee.{Float, nan, fin, binary64, is_nan, round, size, span, climb, units, odd, of_bits, of_fields, of_int, add, sub, neg, sum, mul, div, lt, le, eq}
use Rattle.base.specs.Refusals.{first, says}
use Rattle.base.specs.Words.{Words, words, Spans, spans, part_edges, on_part, words_in_places}
use Rattle.base.specs.Loop.{each, fold, run, run_back, up, down}
use Rattle.js.specs.Js.{under, js_min, js_max}
use Rattle.frames.specs.Frames.{floor_i64, ceil_i64, frame_at, frame_ceil, frame_from_zero, frame_seconds}
use Rattle.envelope.specs.Envelope.{levels, peak, floor, loud_row, quiet_row}
use Rattle.limits.specs.Limits.{any, time_of}
use Rattle.limits.specs.Order.{when, also, in_order, chain}
use Rattle.word_calls.specs.Calls.{uneven, of_words, of_samples, uneven_spans, many_spans, of_spans, of_places}
use Rattle.pieces.specs.Pieces.{piece_turn, walked, pieces, need, over}
use Rattle.loops.specs.Loops.{equal, same, copies_end, is_loop, loop_turn, pass, collapse_loops}
use Rattle.tails.specs.Tails.{tail_turn, hand_back_tails}
use Rattle.onsets.specs.Onsets.{onset_frame, onset_of, prev_end, onset_turn, snap_onsets}
use Rattle.ends.specs.Ends.{last_loud, sound_end}
use Rattle.ends.specs.Ends as word
use Rattle.spread.specs.Spread.{inside, first_inside, last_inside, spread_before, spread_after, between_turn, place_between, place_group}
use Rattle.phrase_align.specs.PhraseAlign.{group_of, extend, placed_in, place_turn, align_phrases, in_their_places}
use Rattle.share.specs.Share as shares
use Rattle.even.specs.Even as even
use Rattle.fit_file.specs.FitFile.{member_turn, members_of, picked, picked_edges, put_back, put_edges, inside_span, inside_turn, keep_inside, take_run, take_trailing, fit_group, fit_phrase, fit_file, duration_of}
use Rattle.last_run.specs.LastRun.{ends_between, frames_of, frame_run, last_run}
use Rattle.fit_to_sound.specs.FitToSound as starts
use Rattle.fit_to_sound.specs.FitToSound.{fit_to_sound}
use Rattle.run_stages.specs.Stages.{snapped, by_phrase, settled, Run, run_on}
use Rattle.full_run.specs.FullRun.{Input, run_of, run_applies, Output, output, report_of, full_run}
use Rattle.full_run.specs.declared.Report.{Report}
use Rattle.invariance.specs.SameRun.{SameRun}
use Rattle.invariance.proofs.Example.{half, plus_zero, recording, multiplied, recording-long, multiplied-long, recording-levels, multiplied-levels, recorded, reached}
use Rattle.invariance.proofs.Demand3.{full-run}

abbrev zero-s : Float
zero-s = fin false 0 (pos 0)

abbrev quarter : Float
quarter = fin false 1 (negsuc 1)

abbrev half-s : Float
half-s = fin false 1 (negsuc 0)

abbrev second : Float
second = fin false 1 (pos 0)

abbrev two : Float
two = fin false 1 (pos 1)

-- 0.14 s, one step low
abbrev fitted : Float
fitted = of_bits binary64 0x3fc1_eb85_1eb8_51eb

-- three words of key 1, the first from 0 to 1 s; one span, of one word; three phrase places
abbrev three : Words
three = words (zero-s ∷ quarter ∷ half-s ∷ []) (second ∷ half-s ∷ second ∷ []) (1 ∷ 1 ∷ 1 ∷ []) (1 ∷ 1 ∷ 1 ∷ []) (1 ∷ 1 ∷ 1 ∷ [])

abbrev one_span : Spans
one_span = spans (zero-s ∷ []) (half-s ∷ []) (1 ∷ [])

abbrev numbers : List ℕ
numbers = 7 ∷ 8 ∷ 9 ∷ []

-- what is left: the first word, to 0.14 s, and its phrase number
abbrev one_word : Words
one_word = words (zero-s ∷ zero-s ∷ zero-s ∷ []) (fitted ∷ zero-s ∷ zero-s ∷ []) (1 ∷ 0 ∷ 0 ∷ []) (1 ∷ 0 ∷ 0 ∷ []) (1 ∷ 0 ∷ 0 ∷ [])

abbrev given : List Float → List Float → List ℕ → List ℕ → ℕ → Input
given xs ls s e work = record { samples = xs; words = three; spans = one_span; phrases = numbers; levels = ls; piece_starts = s; piece_ends = e; work = work }

-- the first recording with just the places that are needed, the second with more
abbrev first-given : Input
first-given = given recording (nan ∷ nan ∷ []) (7 ∷ []) (7 ∷ []) 3

abbrev second-given : Input
second-given = given multiplied (half-s ∷ half-s ∷ half-s ∷ []) (5 ∷ 6 ∷ []) (5 ∷ 6 ∷ []) 4

-- the run on so many samples of such levels
abbrev left : List Float → ℕ → List Float → List ℕ → List ℕ → Output
left ls samples places s e =
    let r : Run = run_on (loud_row (floor ls) ls) (quiet_row (floor ls) ls) samples one_span numbers three in
    output (Ok (report_of (floor ls) r)) (words_in_places 3 r.words) r.phrases (ls ++ drop (length ls) places) (over (map (λ p. p.start) r.pieces) s) (over (map (λ p. p.end) r.pieces) e)

abbrev report : Float → Report
report f = record { floor = f; pieces = 1; words = 1; found = true }

-- the floors, 0.005 and 0.02
abbrev first-report : Report
first-report = report (of_bits binary64 0x3f74_7ae1_47ae_147b)

abbrev second-report : Report
second-report = report (of_bits binary64 0x3f94_7ae1_47ae_147b)

first-computed : left (half ∷ (plus_zero ∷ [])) 320 (nan ∷ nan ∷ []) (7 ∷ []) (7 ∷ []) ≡ output (Ok first-report) one_word (0 ∷ 8 ∷ 9 ∷ []) (half ∷ plus_zero ∷ []) (0 ∷ []) (320 ∷ [])
unfolding run_on snapped settled by_phrase duration_of words_in_places loud_row quiet_row pieces walked piece_turn collapse_loops pass loop_turn is_loop same
    equal copies_end hand_back_tails tail_turn snap_onsets onset_turn prev_end onset_of onset_frame word.snap_ends word.end_turn word.is_pair word.end_of
    word.trimmed word.reach word.next_start word.or_duration sound_end last_loud align_phrases place_turn group_of placed_in extend in_their_places place_group
    inside first_inside last_inside spread_before spread_after place_between between_turn fit_file fit_phrase members_of member_turn picked picked_edges put_edges
    put_back fit_group keep_inside inside_turn inside_span take_trailing take_run last_run frame_run frames_of ends_between fit_to_sound starts.put_in_order
    starts.order_turn starts.step_start starts.in_order starts.move_to_rise starts.rise_turn_of starts.rise_of starts.clip even.even_out even.even_turn
    even.even_run even.crushed even.swollen even.first_crushed even.with_swollen even.last_crushed even.grown even.ceiling_of even.borrows even.borrowed
    even.end_of even.stretch_of even.sum shares.share shares.sum part_edges on_part starts.settle_ends starts.end_turn starts.end_of starts.ended_by
    starts.cut_back starts.lasts_to starts.sound_end_in each run run_back up down fold peak floor frame_from_zero frame_at frame_ceil floor_i64 ceil_i64
    frame_seconds js_min js_max under is_nan add sub neg sum mul div lt le eq of_int round size span climb units odd of_bits of_fields count_trailing_zeros
first-computed = refl

second-computed : left (two ∷ (plus_zero ∷ [])) 320 (half-s ∷ half-s ∷ half-s ∷ []) (5 ∷ 6 ∷ []) (5 ∷ 6 ∷ []) ≡ output (Ok second-report) one_word (0 ∷ 8 ∷ 9 ∷ []) (two ∷ plus_zero ∷ half-s ∷ []) (0 ∷ 6 ∷ []) (320 ∷ 6 ∷ [])
unfolding run_on snapped settled by_phrase duration_of words_in_places loud_row quiet_row pieces walked piece_turn collapse_loops pass loop_turn is_loop same
    equal copies_end hand_back_tails tail_turn snap_onsets onset_turn prev_end onset_of onset_frame word.snap_ends word.end_turn word.is_pair word.end_of
    word.trimmed word.reach word.next_start word.or_duration sound_end last_loud align_phrases place_turn group_of placed_in extend in_their_places place_group
    inside first_inside last_inside spread_before spread_after place_between between_turn fit_file fit_phrase members_of member_turn picked picked_edges put_edges
    put_back fit_group keep_inside inside_turn inside_span take_trailing take_run last_run frame_run frames_of ends_between fit_to_sound starts.put_in_order
    starts.order_turn starts.step_start starts.in_order starts.move_to_rise starts.rise_turn_of starts.rise_of starts.clip even.even_out even.even_turn
    even.even_run even.crushed even.swollen even.first_crushed even.with_swollen even.last_crushed even.grown even.ceiling_of even.borrows even.borrowed
    even.end_of even.stretch_of even.sum shares.share shares.sum part_edges on_part starts.settle_ends starts.end_turn starts.end_of starts.ended_by
    starts.cut_back starts.lasts_to starts.sound_end_in each run run_back up down fold peak floor frame_from_zero frame_at frame_ceil floor_i64 ceil_i64
    frame_seconds js_min js_max under is_nan add sub neg sum mul div lt le eq of_int round size span climb units odd of_bits of_fields count_trailing_zeros
second-computed = refl

by-levels-1 : full_run first-given ≡ left (levels recording) (length recording) (nan ∷ nan ∷ []) (7 ∷ []) (7 ∷ [])
unfolding full_run chain in_order run_applies of_words also when of_samples of_spans of_places uneven uneven_spans many_spans first any time_of need lt le eq of_bits run_of recording
by-levels-1 = refl

by-levels-2 : full_run second-given ≡ left (levels multiplied) (length multiplied) (half-s ∷ half-s ∷ half-s ∷ []) (5 ∷ 6 ∷ []) (5 ∷ 6 ∷ [])
unfolding full_run chain in_order run_applies of_words also when of_samples of_spans of_places uneven uneven_spans many_spans first any time_of need lt le eq of_bits run_of multiplied
by-levels-2 = refl

first_run : full_run first-given ≡ output (Ok first-report) one_word (0 ∷ 8 ∷ 9 ∷ []) (half ∷ plus_zero ∷ []) (0 ∷ []) (320 ∷ [])
first_run =
    by-levels-1
    ∙ ap (λ (ls : List Float). left ls (length recording) (nan ∷ nan ∷ []) (7 ∷ []) (7 ∷ [])) recording-levels
    ∙ ap (λ (n : ℕ). left (half ∷ (plus_zero ∷ [])) n (nan ∷ nan ∷ []) (7 ∷ []) (7 ∷ [])) recording-long ∙ first-computed

second_run : full_run second-given ≡ output (Ok second-report) one_word (0 ∷ 8 ∷ 9 ∷ []) (two ∷ plus_zero ∷ half-s ∷ []) (0 ∷ 6 ∷ []) (320 ∷ 6 ∷ [])
second_run =
    by-levels-2
    ∙ ap (λ (ls : List Float). left ls (length multiplied) (half-s ∷ half-s ∷ half-s ∷ []) (5 ∷ 6 ∷ []) (5 ∷ 6 ∷ [])) multiplied-levels
    ∙ ap (λ (n : ℕ). left (two ∷ (plus_zero ∷ [])) n (half-s ∷ half-s ∷ half-s ∷ []) (5 ∷ 6 ∷ []) (5 ∷ 6 ∷ [])) multiplied-long ∙ second-computed

-- ---- the theorem holds of them
example : SameRun first-report second-report (full_run first-given) (full_run second-given)
example =
    full-run (pos 2) true first-given second-given recorded reached (record { words = refl; spans = refl; phrases = refl }) first-report second-report (ap (λ (o : Output). says o.answer) first_run)
    (ap (λ (o : Output). says o.answer) second_run)

-- ---- there is a piece, and the first word ends earlier than it did
some-piece : get_or (full_run first-given).piece_ends 0 0 ≡ 320
some-piece = ap (λ (o : Output). get_or o.piece_ends 0 0) first_run

earlier : lt fitted second ≡ true
unfolding lt eq of_bits
earlier = refl

end_moved : lt (get_or (full_run first-given).words.ends 0 nan) (get_or three.ends 0 nan) ≡ true
end_moved = ap (λ (o : Output). lt (get_or o.words.ends 0 nan) second) first_run ∙ earlier
