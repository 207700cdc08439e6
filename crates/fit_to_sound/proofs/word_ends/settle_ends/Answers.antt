-- `fit_to_sound::word_ends::settle_ends` meets its contract: the words left from i give what the whole list gives. Assumes nothing.
use native.Mathlib.Omega.{arith}
use mathlib.Core.Path.{refl, sym, ◌∙◌}
use lib.ListN.{length-set}
use Rattle.base.specs.Words.{edges}
use Rattle.base.proofs.Loops.{each_start, each_next, each-done}
use Rattle.fit_to_sound.specs.FitToSound.{settle_ends}
use Rattle.fit_to_sound.proofs.EndTurns.{end-turn}
use Rattle.fit_to_sound.proofs.word_ends.settle_ends.Goals as goal

pub loop-i-init : goal.loop-i-init
unfolding settle_ends
loop-i-init c = (refl, each_start _ _ _)

pub loop-i-preserved : goal.loop-i-preserved
loop-i-preserved c = (
  simp length-set (omega arith),
  c.loop-i.invariant.1 ∙ each_next _ _ _ (omega arith) (end-turn _ _ _ _ (edges c.args.starts.now c.loop-i.ends) c.next_start-next.ensures refl c.end_of-settled.ensures),
)

pub returns : goal.returns
returns c = sym (c.loop-i.invariant.1 ∙ each-done _ _ _ _ (omega arith))
