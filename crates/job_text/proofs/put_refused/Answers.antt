-- `job_text::put_refused` meets its contract: its parts one after another. Assumes nothing.
use Rattle.job_text.specs.Text.{refused_text}
use Rattle.job_text.proofs.Writing.{refused-line}
use Rattle.job_text.proofs.put_refused.Goals as goal

pub returns : goal.returns
unfolding refused_text
returns c =
    rw (← c.from.ensures) (refused-line _ c.put_text.ensures c.put_decimal.ensures c.put_text-2.ensures)
