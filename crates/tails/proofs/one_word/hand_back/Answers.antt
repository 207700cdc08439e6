-- `tails::one_word::hand_back` meets its contract, return by return. Assumes nothing.
use Prim.Native.Nat.{min}
use mathlib.Core.Path.{sym, ap, ◌∙◌}
use native.Mathlib.Omega.{arith}
use Rattle.tails.proofs.OneWord.{lands-in, tail-early, tail-far, tail-long, tail-last, tail-close, tail-thin, tail-hands}
use Rattle.tails.proofs.Searches.{stops-at}
use Rattle.tails.proofs.one_word.hand_back.Goals as goal

pub returns-then-not-lands : goal.returns-then-not-lands
returns-then-not-lands c = tail-early _ _ _ _ _ c.index_at-f.ensures (sym c.lands.ensures ∙ c.if-not-lands.true)

pub overflow_add-f : goal.overflow_add-f
overflow_add-f c = omega (arith, lands-in _ _ c.args.p 0 _ c.index_at-f.ensures (sym c.lands.ensures ∙ c.if-not-lands.false))

pub returns-then-t-f-ge-MAX_TAIL : goal.returns-then-t-f-ge-MAX_TAIL
returns-then-t-f-ge-MAX_TAIL c =
    tail-far _ _ _ _ _ c.index_at-f.ensures _ _ _
    (c.min-hi.ensures ∙ ap (min _) c.index_at.ensures) c.min-far.ensures
    (sym c.lands.ensures ∙ c.if-not-lands.false) (stops-at _ _ _ _ _ c.first_frame.ensures.found c.max.ensures c.unwrap_or-t.ensures) (omega arith)
    c.if-t-f-ge-MAX_TAIL.true

pub returns-then-is_long : goal.returns-then-is_long
returns-then-is_long c =
    tail-long _ _ _ _ _ c.index_at-f.ensures _ _ _
    (c.min-hi.ensures ∙ ap (min _) c.index_at.ensures) c.min-far.ensures
    (sym c.lands.ensures ∙ c.if-not-lands.false) (stops-at _ _ _ _ _ c.first_frame.ensures.found c.max.ensures c.unwrap_or-t.ensures)
    c.if-t-f-ge-MAX_TAIL.false (sym c.is_long.ensures ∙ c.if-is_long.true)

pub returns-in_default : goal.returns-in_default
returns-in_default c =
    tail-last _ _ _ _ _ c.index_at-f.ensures _ _ _
    (c.min-hi.ensures ∙ ap (min _) c.index_at.ensures) c.min-far.ensures
    (sym c.lands.ensures ∙ c.if-not-lands.false) (stops-at _ _ _ _ _ c.first_frame.ensures.found c.max.ensures c.unwrap_or-t.ensures) c.if-t-f-ge-MAX_TAIL.false
    (sym c.is_long.ensures ∙ c.if-is_long.false) c.in_default.ensures.found

pub returns-then-k-t-lt-EDGE_QUIET : goal.returns-then-k-t-lt-EDGE_QUIET
returns-then-k-t-lt-EDGE_QUIET c =
    tail-close _ _ _ _ _ c.index_at-f.ensures _ _ _
    (c.min-hi.ensures ∙ ap (min _) c.index_at.ensures) c.min-far.ensures
    (sym c.lands.ensures ∙ c.if-not-lands.false) (stops-at _ _ _ _ _ c.first_frame.ensures.found c.max.ensures c.unwrap_or-t.ensures) c.if-t-f-ge-MAX_TAIL.false
    (sym c.is_long.ensures ∙ c.if-is_long.false) _ c.in-Some.ensures.found
    c.if-k-t-lt-EDGE_QUIET.true

pub returns-then-not-own_sound : goal.returns-then-not-own_sound
returns-then-not-own_sound c =
    tail-thin _ _ _ _ _ c.index_at-f.ensures _ _ _
    (c.min-hi.ensures ∙ ap (min _) c.index_at.ensures) c.min-far.ensures
    (sym c.lands.ensures ∙ c.if-not-lands.false) (stops-at _ _ _ _ _ c.first_frame.ensures.found c.max.ensures c.unwrap_or-t.ensures) c.if-t-f-ge-MAX_TAIL.false
    (sym c.is_long.ensures ∙ c.if-is_long.false) _ c.in-Some.ensures.found
    (sym c.own_sound.ensures ∙ c.if-not-own_sound.true)

pub returns : goal.returns
returns c =
    tail-hands _ _ _ _ _ c.index_at-f.ensures _ _ _
    (c.min-hi.ensures ∙ ap (min _) c.index_at.ensures) c.min-far.ensures
    (sym c.lands.ensures ∙ c.if-not-lands.false) (stops-at _ _ _ _ _ c.first_frame.ensures.found c.max.ensures c.unwrap_or-t.ensures) c.if-t-f-ge-MAX_TAIL.false
    (sym c.is_long.ensures ∙ c.if-is_long.false) _ c.in-Some.ensures.found c.if-k-t-lt-EDGE_QUIET.false
    (sym c.own_sound.ensures ∙ c.if-not-own_sound.false) c.js_max.ensures
    c.index_seconds.ensures c.index_seconds-2.ensures
