-- `fit_to_sound::word_ends::quiet_run` meets its contract. Assumes nothing.
use Rattle.fit_to_sound.proofs.Silence.{quiet_run-is}
use Rattle.fit_to_sound.proofs.word_ends.quiet_run.Goals as goal

pub returns : goal.returns
returns c = quiet_run-is _ _ _ _ c.between.ensures.0 c.between.ensures.1 c.quiet_between.ensures
