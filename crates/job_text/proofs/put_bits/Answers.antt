-- `job_text::put_bits` meets its contract: 16 hexadecimal digits of the bits. Assumes nothing.
use Rattle.job_text.specs.Text.{bits_of}
use Rattle.job_text.proofs.put_bits.Goals as goal

pub returns : goal.returns
unfolding bits_of
returns c = c.put_hexadecimal.ensures
