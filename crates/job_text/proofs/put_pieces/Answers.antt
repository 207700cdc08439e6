-- `job_text::put_pieces` meets its contract: after i turns the lines of the first i pieces are written, with 64 bytes for each at the most. Assumes nothing.
use Rattle.job_text.proofs.Writing.{pieces_none, pieces-next}
use Rattle.job_text.proofs.put_pieces.Goals as goal

pub loop-i-init : goal.loop-i-init
loop-i-init c = pieces_none _ _ _

pub loop-i-preserved : goal.loop-i-preserved
loop-i-preserved c = pieces-next _ _ _ _ c.loop-i.invariant c.put_piece.ensures
