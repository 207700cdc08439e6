-- `fit_to_sound::word_starts::put_in_order` meets its contract: the words left from i give what the whole list gives. Assumes nothing.
use native.Mathlib.Omega.{arith}
use mathlib.Core.Path.{refl, sym, ◌∙◌}
use lib.ListN.{length-set}
use Rattle.base.specs.Words.{edges}
use Rattle.base.proofs.Loops.{each_start, each_next, each-done}
use Rattle.fit_to_sound.specs.FitToSound.{put_in_order}
use Rattle.fit_to_sound.proofs.Starts.{order-turn}
use Rattle.fit_to_sound.proofs.word_starts.put_in_order.Goals as goal

pub loop-i-init : goal.loop-i-init
unfolding put_in_order
loop-i-init c = (refl, (refl, each_start _ _ _))

pub loop-i-preserved : goal.loop-i-preserved
loop-i-preserved c = (
  simp length-set (omega arith),
  (
    simp length-set (omega arith),
    c.loop-i.invariant.1.1 ∙ each_next _ _ _ (omega arith) (order-turn _ (edges c.loop-i.starts c.loop-i.ends) _ c.step_start.ensures c.in_order-w.ensures refl),
  ),
)

pub returns : goal.returns
returns c = sym (c.loop-i.invariant.1.1 ∙ each-done _ _ _ _ (omega arith))
