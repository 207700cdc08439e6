-- `c_api::qiluvrait_collapse_loops` meets its contract: what `loops::collapse_loops` answers and leaves. Assumes nothing.
use Rattle.c_api.proofs.Replies.{leaves-made}
use Rattle.c_api.proofs.qiluvrait_collapse_loops.Goals as goal

pub returns : goal.returns
returns c =
    leaves-made _ c.from.ensures c.collapse_loops-answer.ensures
