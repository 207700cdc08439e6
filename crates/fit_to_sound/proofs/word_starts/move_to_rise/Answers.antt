-- `fit_to_sound::word_starts::move_to_rise` meets its contract: the words left from i give what the whole list gives. Assumes nothing.
use native.Mathlib.Omega.{arith}
use mathlib.Core.Path.{refl, sym, ◌∙◌}
use lib.ListN.{length-set}
use Rattle.base.specs.Words.{edges}
use Rattle.base.proofs.Loops.{each_start, each_next, each-done}
use Rattle.fit_to_sound.specs.FitToSound.{move_to_rise}
use Rattle.fit_to_sound.proofs.Starts.{rise-turn}
use Rattle.fit_to_sound.proofs.word_starts.move_to_rise.Goals as goal

pub loop-i-init : goal.loop-i-init
unfolding move_to_rise
loop-i-init c = (refl, (refl, each_start _ _ _))

pub loop-i-preserved : goal.loop-i-preserved
loop-i-preserved c = (
  simp length-set (omega arith),
  (
    simp length-set (omega arith),
    c.loop-i.invariant.1.1 ∙ each_next _ _ _ (omega arith) (rise-turn _ (edges c.loop-i.starts c.loop-i.ends) _ c.next_start-next.ensures refl c.rise_of-w.ensures refl),
  ),
)

pub returns : goal.returns
returns c = sym (c.loop-i.invariant.1.1 ∙ each-done _ _ _ _ (omega arith))
