-- phrase_align.rs: the words of one phrase placed in its span, line by line. Assumes nothing.
use Rattle.std.specs.Prelude.{ℕ, ◌-◌, ◌+◌, Bool, not, ◌&&◌, cond, List, length, get_or, Float, ltb, eqb}
use Rattle.std.specs.Float.{binary64, nan}
use Rattle.std.specs.Float.Ieee.{of_bits, le}
use Rattle.base.specs.Loop.{down, up, each}
use Rattle.base.specs.Floats.{◌⊕◌, ◌⊖◌, num}
use Rattle.base.specs.Words.{Edges, times_at, part, on_part, zero_f, times, set_times}
use Rattle.base.specs.declared.Times.{Times}
use Rattle.js.specs.Js.{js_max}
use Rattle.share.specs.Share.{sum, share}

-- ======== Which words of a phrase are inside its span.

-- ---- EDGE_SLACK, 0.02 s, and MIN_WORD, 0.04 s.
abbrev pub edge_slack : Float
edge_slack = of_bits binary64 0x3f94_7ae1_47ae_147b

abbrev pub min_word : Float
min_word = of_bits binary64 0x3fa4_7ae1_47ae_147b

-- ---- "Inside: start >= span start - 0.02, end <= span end + 0.02, length >= 0.04."
unfoldable pub inside : Float → Float → Times → Bool
inside from to w = le (from ⊖ edge_slack) w.start && (le w.end (to ⊕ edge_slack) && le min_word (w.end ⊖ w.start))

abbrev pub outside_at : Float → Float → Edges → ℕ → Bool
outside_at from to es i = not (inside from to (times_at es i))

-- ---- group.iter().position(inside); where there is none, the number of words.
unfoldable pub first_inside : Float → Float → Edges → ℕ
first_inside from to es = up (outside_at from to es) (length es.starts) 0

-- ---- let mut last = group.len() - 1; while !inside(&group[last]) { last -= 1; }
unfoldable pub last_inside : Float → Float → Edges → ℕ
last_inside from to es = down (outside_at from to es) (length es.starts - 1)

-- ======== `spread`, and the spreads before and after the words inside.

-- ---- spread: "A spread shares max(0, to - from) by letters."
unfoldable pub spread : List ℕ → Float → Float → Edges → Edges
spread letters from to es = share letters (js_max zero_f (to ⊖ from)) (num (sum letters)) from es

-- ---- if first > 0 { let to = group[first].start; spread(&mut group[..first], &weight[..first], span.start, to); }
unfoldable pub spread_before : List ℕ → Float → ℕ → Edges → Edges
spread_before letters from first es =
    cond (ltb 0 first) (on_part 0 first (spread (part 0 first letters) from (get_or es.starts first nan)) es) es

-- ---- if last + 1 < group.len() { let from = group[last].end; spread(&mut group[last + 1..], &weight[last + 1..], from, span.end); }
unfoldable pub spread_after : List ℕ → Float → ℕ → Edges → Edges
spread_after letters to last es =
    let n = length es.starts in
    cond (ltb (last + 1) n) (on_part (last + 1) n (spread (part (last + 1) n letters) (get_or es.ends last nan) to) es) es

-- ======== The words of one phrase.

-- ---- if inside(&group[i]) { continue; } group[i].start = group[i - 1].end; group[i].end = js_max(group[i].start, group[i + 1].start);
unfoldable pub between_turn : Float → Float → ℕ → Edges → Edges
between_turn from to i es =
    let start = (times_at es (i - 1)).end in
    cond (inside from to (times_at es i)) es (set_times es i (times start (js_max start (times_at es (i + 1)).start)))

-- ---- for i in first + 1..last
unfoldable pub place_between : Float → Float → ℕ → ℕ → Edges → Edges
place_between from to first last es = each (between_turn from to) (last - (first + 1)) (first + 1) es

-- ---- match group.iter().position(inside): the words of one phrase, placed in its span.
unfoldable pub place_group : List ℕ → Float → Float → Edges → Edges
place_group letters from to es =
    let first = first_inside from to es in
    let last = last_inside from to es in
    cond (eqb first (length es.starts)) (spread letters from to es)
    (place_between from to first last (spread_after letters to last (spread_before letters from first es)))
