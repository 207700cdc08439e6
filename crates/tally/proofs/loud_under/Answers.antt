-- `tally::loud_under` meets its contract: the frames of the word's times, as indices. Assumes nothing.
use native.Mathlib.Omega.{arith}
use Rattle.tally.proofs.Frames.{under-made}
use Rattle.tally.proofs.loud_under.Goals as goal

pub returns : goal.returns
returns c = (under-made _ _ _ _ c.between.ensures.0 c.between.ensures.1 c.loud_count.ensures.0, omega arith)
