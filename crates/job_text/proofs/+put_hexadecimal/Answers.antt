-- `job_text::put_hexadecimal` meets its contract: by its own call on the higher digits, and one digit more. Assumes nothing.
use Rattle.job_text.proofs.Writing.{hex-none, hex-more}
use Rattle.job_text.proofs.+put_hexadecimal.Goals as goal

pub returns-then-places-eq0 : goal.returns-then-places-eq0
returns-then-places-eq0 t c = hex-none _ _ c.if-places-eq0.true

pub returns : goal.returns
returns t c = hex-more _ _ c.if-places-eq0.false c.put_hexadecimal.ensures c.digit.ensures c.put_text.ensures
