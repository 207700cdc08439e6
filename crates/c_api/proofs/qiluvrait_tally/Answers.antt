-- `c_api::qiluvrait_tally` meets its contract: what `tally::tally` answers and leaves. Assumes nothing.
use Rattle.c_api.proofs.Replies.{tallied-made}
use Rattle.c_api.proofs.qiluvrait_tally.Goals as goal

pub returns : goal.returns
returns c = tallied-made _ c.moved.ensures c.tally-answer.ensures
