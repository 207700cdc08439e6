-- `envelope::envelope` meets its contract: what the tests found decides. Assumes nothing.
use Rattle.std.proofs.Common.{sym, ◌∙◌}
use Rattle.base.proofs.First.{refused}
use Rattle.envelope.proofs.Limits.{fine-limits, call_by}
use Rattle.envelope.proofs.Answers.{accepted-is}
use Rattle.envelope.proofs.envelope.Goals as goal

pub returns-in_err-judge : goal.returns-in_err-judge
returns-in_err-judge c = rw (refused _ c.from_residual.ensures.1) (sym (call_by _ _ (sym c.in_err-judge.ensures)))

pub hear-requires : goal.hear-requires
hear-requires c = (fine-limits _ _ (sym c.in_ok-judge.ensures)).1

pub returns : goal.returns
returns c = accepted-is _ _ _ _ c.hear.ensures ∙ sym (call_by _ _ (sym c.in_ok-judge.ensures))
