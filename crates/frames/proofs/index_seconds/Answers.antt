-- `frames::index_seconds` meets its contract. Assumes nothing.
use Rattle.std.proofs.Common.{ap}
use lib.Ieee.{Float, binary64, div}
use Rattle.frames.specs.Frames.{rate, frame_seconds}
use Rattle.frames.proofs.index_seconds.Goals as goal

pub returns : goal.returns
unfolding frame_seconds
returns c = ap (λ (x : Float). div binary64 x rate) c.samples.ensures
