-- `frames::frame_ceil` meets its contract. Assumes nothing.
use Rattle.std.proofs.Common.{ap, ◌∙◌}
use Rattle.frames.specs.Frames.{ceil_i64, frame_ceil}
use Rattle.frames.proofs.Signed.{read_back}
use Rattle.frames.proofs.frame_ceil.Goals as goal

pub returns : goal.returns
unfolding frame_ceil
returns c =
    read_back c.ceil_i64.result c.ceil_i64.type_inv
    ∙ c.ceil_i64.ensures
    ∙ ap ceil_i64 c.in_frames.ensures
