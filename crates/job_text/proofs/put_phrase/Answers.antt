-- `job_text::put_phrase` meets its contract: by whether there are spans. Assumes nothing.
use Rattle.job_text.proofs.Writing.{phrase-none, phrase-number}
use Rattle.job_text.proofs.put_phrase.Goals as goal

pub returns-then-spans-eq0 : goal.returns-then-spans-eq0
returns-then-spans-eq0 c = phrase-none _ _ c.if-spans-eq0.true c.put_text.ensures

pub returns-else-spans-eq0 : goal.returns-else-spans-eq0
returns-else-spans-eq0 c = rw (← c.from.ensures) (phrase-number _ _ c.if-spans-eq0.false c.put_decimal.ensures)
