-- `c_api::qiluvrait_even_out` meets its contract: what `even::even_out` answers and leaves. Assumes nothing.
use Rattle.c_api.proofs.Replies.{reply-made}
use Rattle.c_api.proofs.qiluvrait_even_out.Goals as goal

pub returns : goal.returns
returns c = reply-made _ c.moved.ensures c.even_out-answer.ensures
