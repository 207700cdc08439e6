-- `frames::index_ceil` meets its contract: from zero to 2 ^ 63 - 1, `as u64` is `as i64`. Assumes nothing.
use Rattle.std.proofs.Common.{ap, ◌∙◌, arith}
use Rattle.frames.specs.Frames.{in_frames, frame_ceil}
use Rattle.frames.specs.Parts.{ceil_unsigned}
use Rattle.frames.proofs.Rounding.{ceil-nat}
use Rattle.frames.proofs.index_ceil.Goals as goal

pub returns : goal.returns
unfolding frame_ceil
returns c =
    let k = c.ceil_whole.ensures ∙ ap ceil_unsigned c.in_frames.ensures in
    omega (arith, k, ceil-nat (in_frames c.args.t), c.min.ensures)
