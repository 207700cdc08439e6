-- `c_api::qiluvrait_fit_to_sound` meets its contract: what the call answers and leaves. Assumes nothing.
use Rattle.c_api.proofs.Replies.{reply-made}
use Rattle.c_api.proofs.qiluvrait_fit_to_sound.Goals as goal

pub returns : goal.returns
returns c = reply-made _ c.moved.ensures c.fit_to_sound-answer.ensures
