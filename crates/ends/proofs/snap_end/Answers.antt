-- `ends::snap_end` meets its contract. Assumes nothing.
use mathlib.Core.Path.{sym, ◌∙◌}
use native.Mathlib.Omega.{arith}
use Rattle.ends.proofs.OneWord.{pair-in}
use Rattle.ends.proofs.Turns.{turn-pair, turn_end}
use Rattle.ends.proofs.snap_end.Goals as goal

pub bounds-w-i-then-is_pair : goal.bounds-w-i-then-is_pair
bounds-w-i-then-is_pair c = let h = pair-in _ _ _ c.start_after-next.ensures (sym c.is_pair.ensures ∙ c.if-is_pair.true) in omega arith

pub bounds-w-i : goal.bounds-w-i
bounds-w-i c = let h = pair-in _ _ _ c.start_after-next.ensures (sym c.is_pair.ensures ∙ c.if-is_pair.true) in omega arith

pub bounds-w-i-then-is_pair-2 : goal.bounds-w-i-then-is_pair-2
bounds-w-i-then-is_pair-2 c = let h = pair-in _ _ _ c.start_after-next.ensures (sym c.is_pair.ensures ∙ c.if-is_pair.true) in omega arith

pub set_pair-requires : goal.set_pair-requires
set_pair-requires c = pair-in _ _ _ c.start_after-next.ensures (sym c.is_pair.ensures ∙ c.if-is_pair.true)

pub returns-then-is_pair-clause-snapped : goal.returns-then-is_pair-clause-snapped
returns-then-is_pair-clause-snapped c =
    turn-pair _ _ _ _ _ c.start_after-next.ensures c.at-t.ensures (sym c.is_pair.ensures ∙ c.if-is_pair.true)
    c.pair_of-edge.ensures c.set_pair.ensures.stored

pub returns-clause-snapped : goal.returns-clause-snapped
returns-clause-snapped c = turn_end _ _ _ _ _ c.start_after-next.ensures c.at-t.ensures (sym c.is_pair.ensures ∙ c.if-is_pair.false) c.end_of-cut.ensures
