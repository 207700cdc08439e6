-- `ends::sound::sound_end_in` meets its contract: the end of the sound before the frame that is found. Assumes nothing.
use mathlib.Core.Path.{ap, ◌∙◌}
use lib.IntN.{ℤ, pred_ℤ, pred-suc}
use Rattle.ends.specs.Ends.{sound_end}
use Rattle.ends.proofs.sound.sound_end_in.Goals as goal

pub returns : goal.returns
returns c = c.sound_end.ensures ∙ ap (λ (z : ℤ). sound_end (pred_ℤ z)) c.last_loud.ensures.0 ∙ ap sound_end (pred-suc _)
