-- `onsets::move_onsets` meets its contract: what is left gives what the whole gives. Assumes nothing.
use mathlib.Core.Path.{refl, sym, ◌∙◌}
use native.Mathlib.Omega.{arith}
use Rattle.base.proofs.Loops.{each_start, each_next, each-done}
use Rattle.onsets.specs.Onsets.{snap_onsets}
use Rattle.onsets.proofs.Starts.{onset-turn}
use borrow.Author.Rules.{rules}
use Rattle.onsets.proofs.move_onsets.Goals as goal

pub loop-i-init : goal.loop-i-init
unfolding snap_onsets
loop-i-init c = (refl, each_start _ _ _)

pub loop-i-preserved : goal.loop-i-preserved
loop-i-preserved c = (
  search rules,
  c.loop-i.invariant.1
      ∙ each_next _ _ _ (omega arith) (onset-turn _ _ c.loop-i.starts c.args.ends.now c.prev_end_at.ensures c.snap_onset-t.ensures),
)

pub returns : goal.returns
returns c = sym (c.loop-i.invariant.1 ∙ each-done _ _ _ _ (omega arith))
