-- The search backwards. Invariant: what is left of it finds what the whole finds. Assumes nothing.
use Prim.Native.Nat.{◌+◌, ◌-◌}
use mathlib.Core.Path.{◌≡◌, sym, ◌∙◌}
use native.Mathlib.Omega.{arith}
use Rattle.pieces.proofs.CutParts.{start-next, start-stop, start-done}
use Rattle.pieces.proofs.cut.quiet_from.Goals as goal

pub returns-then-not-is_quiet : goal.returns-then-not-is_quiet
returns-then-not-is_quiet c =
    let z : c.loop-k.k - 1 + 1 ≡ c.loop-k.k = omega arith in
    (z ∙ sym (c.loop-k.invariant.1 ∙ start-stop _ _ _ _ (omega arith) (omega arith) c.is_quiet.ensures c.if-not-is_quiet.true), (omega arith, omega arith))

pub loop-k-preserved : goal.loop-k-preserved
loop-k-preserved c = (omega arith, c.loop-k.invariant.1 ∙ start-next _ _ _ _ (omega arith) (omega arith) c.is_quiet.ensures c.if-not-is_quiet.false)

pub returns : goal.returns
returns c =
    let z : c.args.from ≡ c.loop-k.k = omega arith in
    (z ∙ sym (c.loop-k.invariant.1 ∙ start-done _ _ _ _ (omega arith)), (omega arith, omega arith))
