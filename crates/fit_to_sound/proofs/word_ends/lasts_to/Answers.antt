-- `fit_to_sound::word_ends::lasts_to` meets its contract. Assumes nothing.
use Rattle.fit_to_sound.proofs.EndTurns.{lasts-by}
use Rattle.fit_to_sound.proofs.word_ends.lasts_to.Goals as goal

pub returns-in-Some : goal.returns-in-Some
returns-in-Some c = lasts-by _ _ _ c.in-Some.is (c.lasts_to_next.ensures _)

pub returns-in-None : goal.returns-in-None
returns-in-None c = lasts-by _ _ _ c.in-None.is (c.lasts_to_end.ensures _)
