-- `peak::peak` meets its contract: what the tests found decides. Assumes nothing.
use Rattle.base.proofs.First.{refused}
use Rattle.std.proofs.Common.{sym, ap, ◌∙◌, Ok}
use Rattle.peak.proofs.Limits.{call_by}
use Rattle.peak.proofs.peak.Goals as goal

pub returns : goal.returns
returns c = ap Ok c.word_peak.ensures ∙ sym (call_by _ _ _ (sym c.in_ok-judge.ensures))

pub returns-in_err-judge : goal.returns-in_err-judge
returns-in_err-judge c = rw (refused _ c.from_residual.ensures.1) (sym (call_by _ _ _ (sym c.in_err-judge.ensures)))
