-- The search for the end of a run. Invariant: what is left of it finds what the whole finds. Assumes nothing.
use mathlib.Core.Path.{◌≡◌, sym, ◌∙◌}
use native.Mathlib.Omega.{arith}
use Rattle.pieces.proofs.CutParts.{end-next, end-stop, end-done}
use Rattle.pieces.proofs.cut.quiet_to.Goals as goal

pub returns-then-not-is_quiet : goal.returns-then-not-is_quiet
returns-then-not-is_quiet c = (sym (c.loop-k.invariant ∙ end-stop _ _ _ (omega arith) (omega arith) c.is_quiet.ensures c.if-not-is_quiet.true), (omega arith, omega arith))

pub loop-k-preserved : goal.loop-k-preserved
loop-k-preserved c = c.loop-k.invariant ∙ end-next _ _ _ (omega arith) (omega arith) c.is_quiet.ensures c.if-not-is_quiet.false

pub returns : goal.returns
returns c =
    let z : 800 ≡ c.loop-k.k = omega arith in
    (z ∙ sym (c.loop-k.invariant ∙ end-done _ _ _ (omega arith)), (omega arith, omega arith))
