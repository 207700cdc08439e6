-- `tally::loud_count` meets its contract: what is left of the loop, from where it stands, gives the whole. Assumes nothing.
use mathlib.Core.Path.{refl, sym, ◌∙◌}
use native.Mathlib.Omega.{arith}
use Rattle.envelope.proofs.Loudness.{loud-level}
use Rattle.base.proofs.Loops.{each_next, each-done}
use Rattle.tally.specs.Parts.{loud_between}
use Rattle.tally.proofs.Frames.{turn-loud, turn-quiet}
use Rattle.tally.proofs.loud_count.Goals as goal
use Rattle.tally.proofs.loud_count.Goals.{then-e-k, else-e-k}

pub loop-k-init : goal.loop-k-init
loop-k-init c = (omega arith, (omega arith, unfold loud_between in refl))

pub loop-k-preserved : goal.loop-k-preserved
loop-k-preserved c =
    elim c.if-e-k.branch [
      | then-e-k w ↦ (omega arith, (omega arith, c.loop-k.invariant.1.1 ∙ each_next _ _ _ c.loop-k-test.true (turn-loud _ _ _ (sym (loud-level _ _ _)) w.if-e-k.true w.n-is)))
      | else-e-k w ↦ (omega arith, (omega arith, c.loop-k.invariant.1.1 ∙ each_next _ _ _ c.loop-k-test.true (turn-quiet _ _ _ (sym (loud-level _ _ _)) w.if-e-k.false w.n-is)))
    ]

pub returns : goal.returns
returns c = (sym (c.loop-k.invariant.1.1 ∙ each-done _ _ _ _ c.loop-k-test.false), c.loop-k.invariant.1.0)
