-- `frames::index_at` meets its contract: from zero to 2 ^ 63 - 1, `as u64` is `as i64`. Assumes nothing.
use Rattle.std.proofs.Common.{ap, ◌∙◌, arith}
use lib.Ieee.{to_unsigned}
use Rattle.frames.specs.Frames.{in_frames, frame_at}
use Rattle.frames.proofs.Rounding.{floor-nat}
use Rattle.frames.proofs.index_at.Goals as goal

pub returns : goal.returns
unfolding frame_at
returns c =
    let k = c.saturating_f64_to_u64.ensures ∙ ap (to_unsigned 64) c.in_frames.ensures in
    omega (arith, k, floor-nat (in_frames c.args.t), c.min.ensures)
