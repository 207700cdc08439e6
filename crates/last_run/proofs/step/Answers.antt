-- `last_run::step` meets its contract, by whether the frame is loud, and whether a loud frame was met before. Assumes nothing.
use native.Mathlib.Omega.{arith}
use Rattle.last_run.proofs.Steps.{loud-first, loud-again, quiet_none, quiet-more}
use Rattle.last_run.proofs.step.Goals as goal

pub returns-in-true-eq0 : goal.returns-in-true-eq0
returns-in-true-eq0 c = (rw c.in-true-eq0.is-0 (loud-first c.args.k c.args.s c.in-true-eq0.is-1), (omega arith, omega arith))

pub returns-in-true-default : goal.returns-in-true-default
returns-in-true-default c = (rw c.in-true-default.is-0 (loud-again c.args.k c.args.s c.in-true-default.is-1.1), (omega arith, omega arith))

pub returns-in-false-eq0 : goal.returns-in-false-eq0
returns-in-false-eq0 c = (rw c.in-false-eq0.is-0 (quiet_none c.args.k c.args.s c.requires.0 c.in-false-eq0.is-1), (omega arith, omega arith))

pub returns-in-false-default : goal.returns-in-false-default
returns-in-false-default c = (rw c.in-false-default.is-0 (quiet-more c.args.k c.args.s c.in-false-default.is-1.1), (omega arith, omega arith))
