-- `job_text::put_decimal` meets its contract: by its own call on the tens, and one digit more. Assumes nothing.
use Rattle.job_text.proofs.Writing.{decimal-none, decimal-one, decimal-more}
use Rattle.job_text.proofs.+put_decimal.Goals as goal

pub returns-then-most-eq0 : goal.returns-then-most-eq0
returns-then-most-eq0 t c = decimal-none _ _ c.if-most-eq0.true

pub returns-then-n-lt10 : goal.returns-then-n-lt10
returns-then-n-lt10 t c = decimal-one _ _ c.if-most-eq0.false c.digit.ensures c.put_text.ensures c.if-n-lt10.true

pub returns : goal.returns
returns t c = decimal-more _ _ c.if-most-eq0.false c.put_decimal.ensures c.digit-2.ensures c.put_text-2.ensures c.if-n-lt10.false
