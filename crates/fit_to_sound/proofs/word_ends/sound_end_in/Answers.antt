-- `fit_to_sound::word_ends::sound_end_in` meets its contract. Assumes nothing.
use Rattle.fit_to_sound.proofs.Silence.{sound_end_in-is}
use Rattle.fit_to_sound.proofs.word_ends.sound_end_in.Goals as goal

pub returns : goal.returns
returns c = sound_end_in-is _ _ _ _ c.between.ensures.0 c.between.ensures.1 c.sound_end_in.ensures
