-- `last_run::last_run` meets its contract: what the tests found decides. Assumes nothing.
use Rattle.base.proofs.First.{refused}
use Rattle.std.specs.Prelude.{Ok}
use mathlib.Core.Path.{sym, ap, ◌∙◌}
use Rattle.last_run.proofs.Rules.{call_by}
use Rattle.last_run.proofs.last_run.Goals as goal

pub returns-in_err-judge : goal.returns-in_err-judge
returns-in_err-judge c = rw (refused _ c.from_residual.ensures.1) (sym (call_by _ _ _ _ _ (sym c.in_err-judge.ensures)))

pub returns : goal.returns
returns c = ap Ok c.run_between.ensures ∙ sym (call_by _ _ _ _ _ (sym c.in_ok-judge.ensures))
