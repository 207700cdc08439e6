-- `frames::frame_at` meets its contract. Assumes nothing.
use Rattle.std.proofs.Common.{ap, ◌∙◌}
use Rattle.frames.specs.Frames.{floor_i64, frame_at}
use Rattle.frames.proofs.Signed.{read_back}
use Rattle.frames.proofs.frame_at.Goals as goal

pub returns : goal.returns
unfolding frame_at
returns c =
    read_back c.floor_i64.result c.floor_i64.type_inv
    ∙ c.floor_i64.ensures
    ∙ ap floor_i64 c.in_frames.ensures
