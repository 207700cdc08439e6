-- `fit_to_sound::word_ends::ended_by` meets its contract. Assumes nothing.
use Rattle.fit_to_sound.proofs.EndTurns.{ended-none, ended_some}
use Rattle.fit_to_sound.proofs.word_ends.ended_by.Goals as goal

pub returns-in-None : goal.returns-in-None
returns-in-None c = ended-none _ _ _ _ c.in-None.is

pub returns-in-Some : goal.returns-in-Some
returns-in-Some c = ended_some _ _ _ _ c.in-Some.is c.cut_back.ensures c.lasts_to.ensures
