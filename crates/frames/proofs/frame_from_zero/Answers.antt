-- `frames::frame_from_zero` meets its contract. Assumes nothing.
use Rattle.std.proofs.Common.{ℤ, pos, ap, ◌∙◌, w64, to_z, of_z}
use Rattle.base.specs.Whole.{max_z}
use Rattle.frames.specs.Frames.{frame_from_zero}
use Rattle.frames.proofs.Signed.{read_back, max-zero}
use Rattle.frames.proofs.frame_from_zero.Goals as goal

pub returns : goal.returns
unfolding frame_from_zero
returns c =
    read_back c.max.result c.max.type_inv
    ∙ c.max.ensures.value
    ∙ max-zero (to_z w64 (of_z w64 c.frame_at.result))
    ∙ ap (λ (k : ℤ). max_z k (pos 0)) (read_back c.frame_at.result c.frame_at.type_inv ∙ c.frame_at.ensures)
