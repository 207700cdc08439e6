-- Every case of the table, and the further sentences, by computing the definitions. Assumes nothing.
use Rattle.std.specs.Prelude.{Some}
use Prim.Native.Nat.{ℕ, ◌*◌}
use mathlib.Core.Path.{◌≡◌, refl, ap}
use mathlib.Core.List.{[], ◌∷◌, ◌++◌}
use mathlib.Core.Bool.{true, false}
use lib.Count.{count_trailing_zeros}
use lib.ListN.{replicate}
use lib.Ieee.{binary64, is_nan, of_int, add, sub, neg, sum, mul, div, le, lt, eq, round, size, span, climb, units, odd, of_fields, of_bits}
use Rattle.base.specs.Loop.{each, fold, run, run_back, down, up}
use Rattle.base.specs.Words.{edges, times, part_edges, on_part}
use Rattle.js.specs.Js.{under, js_max, js_min, js_to_fixed, nearest_up}
use Rattle.frames.specs.Frames.{floor_i64, frame_at, frame_from_zero, frame_seconds}
use Rattle.roots.specs.Sqrt.{sqrt, round_root, near_root, isqrt, root_digits}
use Rattle.envelope.specs.Envelope.{hop, squares, level, quiet_row}
use Rattle.cases.proofs.CutsComputed.{all_quiet, none-quiet, first-quiet, last-quiet}
use Rattle.loops.specs.Loops.{equal, same, copies_end, is_loop, loop_turn, pass, collapse_loops}
use Rattle.ends.specs.Ends.{last_loud, sound_end, next_start, is_pair, pair_start, pair_edge, pair_of, reach, or_duration, trimmed, end_of, set_pair, end_turn, snap_ends}
use Rattle.share.specs.Share as shares
use Rattle.spread.specs.Spread as spreads
use Rattle.even.specs.Even as even
use Rattle.last_run.specs.LastRun.{ends_between, frames_of, frame_run, last_run}
use Rattle.fit_file.specs.FitFile.{inside_span}
use Rattle.cases.specs.Table.{Table, Sentences, double, zero, keys_left}

level-of-half : level (replicate 160 (double false 1 2)) ≡ double false 1 2
unfolding level squares fold sqrt round_root near_root isqrt root_digits add sum mul div round size span climb units odd of_fields of_bits count_trailing_zeros
level-of-half = refl

three-copies : keys_left (1 ∷ 1 ∷ 1 ∷ 2 ∷ []) ≡ 1 ∷ 2 ∷ []
unfolding collapse_loops pass loop_turn is_loop copies_end same equal each run
three-copies = refl

two-copies : keys_left (1 ∷ 1 ∷ []) ≡ 1 ∷ 1 ∷ []
unfolding collapse_loops pass loop_turn is_loop copies_end same equal each run
two-copies = refl

runs-of-two : keys_left (1 ∷ 2 ∷ 1 ∷ 2 ∷ 1 ∷ 2 ∷ 1 ∷ []) ≡ 1 ∷ 2 ∷ 1 ∷ []
unfolding collapse_loops pass loop_turn is_loop copies_end same equal each run
runs-of-two = refl

edge-shared : snap_ends (replicate 30 false) (double false 30 100) (3 ∷ 3 ∷ []) (edges (double false 10 100 ∷ double false 13 100 ∷ []) (double false 12 100 ∷ double false 20 100 ∷ []))
    ≡ edges (double false 10 100 ∷ double false 16 100 ∷ []) (double false 16 100 ∷ double false 20 100 ∷ [])
unfolding snap_ends end_turn set_pair next_start is_pair pair_of pair_start pair_edge end_of reach or_duration trimmed sound_end last_loud each run frame_at floor_i64 frame_seconds js_min js_max js_to_fixed nearest_up under is_nan add sub neg sum mul div lt le eq of_int round size span climb units odd of_bits of_fields count_trailing_zeros
edge-shared = refl

pause-bridged : last_run (replicate 4 true ++ (replicate 15 false ++ replicate 4 true)) (zero false) (double false 23 100) ≡ Some (times (zero false) (double false 23 100))
unfolding last_run frame_run ends_between frames_of run_back frame_from_zero frame_at floor_i64 frame_seconds mul div of_int round size span climb units odd of_bits of_fields count_trailing_zeros
pause-bridged = refl

pub table : Table
unfolding js_to_fixed nearest_up quiet_row le lt eq round size span climb units odd
table = record {
  tie = refl;
  tie-below-zero = refl;
  to-nothing = refl;
  minus-zero = refl;
  level-of-half = level-of-half;
  quiet-at-floor = refl;
  all_quiet = all_quiet;
  all-quiet-sample = ap (λ (k : ℕ). k * hop) all_quiet;
  none-quiet = none-quiet;
  first-quiet = first-quiet;
  last-quiet = last-quiet;
  three-copies = three-copies;
  two-copies = two-copies;
  runs-of-two = runs-of-two;
  edge-shared = edge-shared;
  pause-bridged = pause-bridged;
}

start-before-its-span : inside_span (times (double false 1 1) (double false 102 100)) (times (double false 1 1) (double false 101 100)) ≡ times (of_bits binary64 0x3fef_5c28_f5c2_8f5c) (of_bits binary64 0x3ff0_51eb_851e_b852)
unfolding inside_span js_min js_max under is_nan add sub neg sum lt eq round size span climb units odd of_bits of_fields count_trailing_zeros
start-before-its-span = refl

pub sentences : Sentences
unfolding spreads.place_group spreads.spread spreads.inside spreads.first_inside spreads.last_inside spreads.spread_before spreads.spread_after spreads.between_turn spreads.place_between even.even_out even.even_turn even.even_run even.stretch_of even.end_of even.borrowed even.borrows even.ceiling_of even.grown even.grows even.last_crushed even.with_swollen even.first_crushed even.swollen even.crushed even.sum shares.share shares.sum part_edges on_part each fold up down js_min js_max under is_nan add sub neg sum mul div lt le eq of_int round size span climb units odd of_bits of_fields count_trailing_zeros
sentences = record { spread-over-the-span = refl; span-reversed = refl; start-before-its-span = start-before-its-span; last-end-kept = refl }
