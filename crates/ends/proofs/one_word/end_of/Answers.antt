-- `ends::one_word::end_of` meets its contract. Assumes nothing.
use Prim.Native.Nat.{min}
use mathlib.Core.Path.{ap, ◌∙◌}
use lib.Ieee.{Float}
use Rattle.base.specs.Whole.{to_nat}
use Rattle.frames.specs.Frames.{frame_at}
use Rattle.ends.proofs.EndOf.{end_of_is}
use Rattle.ends.proofs.one_word.end_of.Goals as goal

pub returns : goal.returns
returns c =
    end_of_is _ _ _ _ _ c.between-r.ensures.0 (c.between-r.ensures.1 ∙ ap (min _) (ap (λ (x : Float). to_nat (frame_at x)) c.reach.ensures))
    c.sound_end_in-sound.ensures c.or_duration.ensures c.trim.ensures
