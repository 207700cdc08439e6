-- `job_text::put_piece` meets its contract: its parts one after another. Assumes nothing.
use Rattle.job_text.specs.Text.{piece_text}
use Rattle.job_text.proofs.Writing.{piece-line}
use Rattle.job_text.proofs.put_piece.Goals as goal

pub returns : goal.returns
unfolding piece_text
returns c =
    piece-line _ _ c.put_text.ensures c.put_decimal.ensures c.put_text-2.ensures
    c.put_decimal-2.ensures c.put_text-3.ensures
