-- `loops::pass::pass` meets its contract: too few words stay, and enough are walked over. Assumes nothing.
use native.Mathlib.Omega.{arith}
use Rattle.loops.proofs.InPlace.{pass-short}
use Rattle.loops.proofs.pass.pass.Goals as goal

pub returns-then-len-n-clause-passed : goal.returns-then-len-n-clause-passed
returns-then-len-n-clause-passed c = pass-short _ _ (omega arith) _ _ c.args.w.now.alike c.if-len-n.true
