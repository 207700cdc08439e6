-- `c_api::qiluvrait_snap_ends` meets its contract: what the stage answers and leaves. Assumes nothing.
use Rattle.c_api.proofs.Replies.{reply-made}
use Rattle.c_api.proofs.qiluvrait_snap_ends.Goals as goal

pub returns : goal.returns
returns c = reply-made _ c.moved.ensures c.snap_ends-answer.ensures
