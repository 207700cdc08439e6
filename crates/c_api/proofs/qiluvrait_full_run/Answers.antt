-- `c_api::qiluvrait_full_run` meets its contract: what `full_run::full_run` answers and leaves. Assumes nothing.
use Rattle.c_api.proofs.Replies.{full-run-made, left-made}
use Rattle.c_api.proofs.qiluvrait_full_run.Goals as goal

pub returns : goal.returns
returns c = (
  full-run-made _ _ _ _ _ c.from.ensures c.full_run-answer.ensures.0,
  (
    left-made _ c.from.ensures c.full_run-answer.ensures.1.0,
    (left-made _ c.from.ensures c.full_run-answer.ensures.1.1.0, left-made _ c.from.ensures c.full_run-answer.ensures.1.1.1),
  ),
)
