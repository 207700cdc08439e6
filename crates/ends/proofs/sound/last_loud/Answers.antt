-- `ends::sound::last_loud` meets its contract: the first loud frame, and on from there. Assumes nothing.
use native.Mathlib.Omega.{arith}
use Rattle.ends.proofs.SoundEnds.{first-met, first-none}
use Rattle.ends.proofs.sound.last_loud.Goals as goal

pub returns-in_default : goal.returns-in_default
returns-in_default c = (first-none _ _ _ _ c.in_default.ensures.found, omega arith)

pub returns : goal.returns
returns c = (first-met _ _ _ _ c.in-Some.ensures.found (omega arith) c.sound_past.ensures.0, c.sound_past.ensures.1)
