-- `last_run::frame_run` meets its contract: the search, and the run that it found. Assumes nothing.
use mathlib.Core.Path.{ap, ◌∙◌}
use Rattle.last_run.specs.LastRun.{frames_of, frame_run}
use Rattle.last_run.proofs.Between.{sooner}
use Rattle.last_run.proofs.frame_run.Goals as goal

pub returns : goal.returns
unfolding frame_run
returns c = (c.frames_of.ensures.0 ∙ ap frames_of c.search_back.ensures.0, sooner _ c.frames_of.ensures.1 c.search_back.ensures.1)
