-- `last_run::run_between` meets its contract: the run of the frames, in seconds. Assumes nothing.
use Rattle.last_run.proofs.Between.{between_is, last-fits}
use Rattle.last_run.proofs.run_between.Goals as goal

pub seconds_of-requires : goal.seconds_of-requires
seconds_of-requires c = last-fits _ c.frame_run.ensures.1 c.between.result.few

pub returns : goal.returns
returns c = between_is _ _ _ _ c.between.ensures.0 c.between.ensures.1 c.frame_run.ensures.0 c.seconds_of.ensures
