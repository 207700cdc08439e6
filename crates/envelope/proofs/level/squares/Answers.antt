-- `envelope::level::squares` meets its contract: what is left of the sum, from where the loop stands, gives the whole. Assumes nothing.
use Rattle.std.proofs.Common.{sym, refl, ◌∙◌}
use lib.Ieee.{nan}
use Rattle.base.proofs.Loops.{fold_next, fold_done}
use Rattle.envelope.specs.Envelope.{squares}
use Rattle.envelope.proofs.level.squares.Goals as goal

pub loop-s-init : goal.loop-s-init
unfolding squares
loop-s-init c = refl

pub loop-s-preserved : goal.loop-s-preserved
loop-s-preserved c = c.loop-s.invariant ∙ fold_next _ _ _ nan c.loop-s-test.true (cc)

pub returns : goal.returns
returns c = sym (c.loop-s.invariant ∙ fold_done _ _ _ _ c.loop-s-test.false)
