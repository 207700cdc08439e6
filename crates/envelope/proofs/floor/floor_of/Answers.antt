-- `envelope::floor::floor_of` meets its contract: what is left of the maximum, from where the loop stands, gives the whole. Assumes nothing.
use Rattle.std.proofs.Common.{sym, refl, ap, ◌∙◌}
use lib.Ieee.{nan, binary64, mul}
use Rattle.base.proofs.Loops.{fold_next, fold_done}
use Rattle.envelope.specs.Envelope.{peak, floor, hundredth}
use Rattle.envelope.proofs.floor.floor_of.Goals as goal

pub loop-level-init : goal.loop-level-init
unfolding peak
loop-level-init c = refl

pub loop-level-preserved : goal.loop-level-preserved
loop-level-preserved c = c.loop-level.invariant ∙ fold_next _ _ _ nan c.loop-level-test.true (cc)

pub returns : goal.returns
unfolding floor
returns c = ap (λ p. mul binary64 p hundredth) (sym (c.loop-level.invariant ∙ fold_done _ _ _ _ c.loop-level-test.false))
