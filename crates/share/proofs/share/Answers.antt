-- `share::share` meets its contract: the words that are left, on the times as they stand, give what all of them give. Assumes nothing.
use mathlib.Core.Path.{sym, ap, ◌∙◌}
use native.Mathlib.Omega.{arith}
use Rattle.base.proofs.Loops.{each_start, each_next, each-done}
use Rattle.share.specs.Share as shares
use Rattle.share.specs.Share.{Sharing}
use Rattle.share.proofs.share.Goals as goal

pub loop-i-init : goal.loop-i-init
unfolding shares.share
loop-i-init c = ap (λ (s : Sharing). s.edges) (each_start _ _ _)

pub loop-i-preserved : goal.loop-i-preserved
loop-i-preserved c = c.loop-i.invariant ∙ ap (λ (s : Sharing). s.edges) (each_next _ _ _ (omega arith) (cc))

pub returns : goal.returns
returns c = sym (c.loop-i.invariant ∙ ap (λ (s : Sharing). s.edges) (each-done _ _ _ _ (omega arith)))
