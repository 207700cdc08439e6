-- `c_api::qiluvrait_hand_back_tails` meets its contract: what the stage answers and leaves. Assumes nothing.
use Rattle.c_api.proofs.Replies.{reply-made}
use Rattle.c_api.proofs.qiluvrait_hand_back_tails.Goals as goal

pub returns : goal.returns
returns c = reply-made _ c.moved.ensures c.hand_back_tails-answer.ensures
