-- `roots::is_root` meets its contract, by what is left of the number. Assumes nothing.
use native.Mathlib.Omega.{arith}
use Rattle.roots.proofs.Tested.{tested-above, tested-below}
use Rattle.roots.proofs.is_root.Goals as goal

pub returns-then-q-p : goal.returns-then-q-p
returns-then-q-p c = λ h. tested-above c.args.a c.args.y (omega arith) (omega arith) c.if-q-p.true (c.is_above.ensures h)

pub returns : goal.returns
returns c = λ h. tested-below c.args.a c.args.y (omega arith) (omega arith) c.if-q-p.false (c.is_below.ensures h)
