-- `c_api::qiluvrait_align_phrases` meets its contract: what `phrase_align::align_phrases` answers and leaves. Assumes nothing.
use Rattle.c_api.proofs.Replies.{placement-made}
use Rattle.c_api.proofs.qiluvrait_align_phrases.Goals as goal

pub returns : goal.returns
returns c =
    placement-made _ _ c.from.ensures c.align_phrases-answer.ensures
