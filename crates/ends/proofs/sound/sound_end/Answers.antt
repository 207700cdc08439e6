-- `ends::sound::sound_end` meets its contract. Assumes nothing.
use Rattle.ends.proofs.SoundEnds.{sound_none, sound-some}
use Rattle.ends.proofs.sound.sound_end.Goals as goal

pub returns-then-past-eq0 : goal.returns-then-past-eq0
returns-then-past-eq0 c = sound_none _ c.if-past-eq0.true

pub returns : goal.returns
returns c = sound-some _ c.if-past-eq0.false c.index_seconds.ensures
