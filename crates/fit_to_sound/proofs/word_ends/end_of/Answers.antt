-- `fit_to_sound::word_ends::end_of` meets its contract. Assumes nothing.
use Rattle.fit_to_sound.proofs.EndTurns.{end_of_is}
use Rattle.fit_to_sound.proofs.word_ends.end_of.Goals as goal

pub returns : goal.returns
returns c = end_of_is _ _ _ _ _ c.or_duration.ensures c.sound_end_in-sound.ensures c.ended_by.ensures
