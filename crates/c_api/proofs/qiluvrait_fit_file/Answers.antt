-- `c_api::qiluvrait_fit_file` meets its contract: what the call answers and leaves. Assumes nothing.
use Rattle.c_api.proofs.Replies.{reply-made, kept-made}
use Rattle.c_api.proofs.qiluvrait_fit_file.Goals as goal

pub returns : goal.returns
returns c = (
  reply-made _ c.moved.ensures c.fit_file-answer.ensures.0,
  (
    kept-made _ c.moved.ensures c.fit_file-answer.ensures.1.0,
    (kept-made _ c.moved.ensures c.fit_file-answer.ensures.1.1.0, kept-made _ c.moved.ensures c.fit_file-answer.ensures.1.1.1),
  ),
)
