-- `frames::samples` meets its contract: the two halves are exact, and their sum rounds once. Assumes nothing.
use lib.Ieee.{of_bits}
use Rattle.frames.proofs.Times.{samples-halves}
use Rattle.frames.proofs.samples.Goals as goal

pub returns : goal.returns
unfolding of_bits
returns c = samples-halves c.args.n c.ranges.n.fits
