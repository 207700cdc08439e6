-- The public call, by what judge found. Assumes nothing.
use mathlib.Core.Path.{refl}
use Rattle.base.proofs.First.{refused}
use mathlib.Core.Path.{sym}
use Rattle.pieces.proofs.Rules.{fine-ready, refused-made, accept-made, call-made}
use Rattle.pieces.proofs.pieces.Goals as goal

pub write_pieces-requires : goal.write_pieces-requires
write_pieces-requires c = fine-ready _ _ _ _ _ (sym c.in_ok-judge.ensures)

pub returns-in_err-judge : goal.returns-in_err-judge
returns-in_err-judge c = rw (refused _ c.from_residual.ensures.1) (refused-made _ _ _ _ _ _ c.in_err-judge.ensures refl)

pub returns : goal.returns
returns c =
    call-made _ _ _ _ _ c.in_ok-judge.ensures refl
    (accept-made _ _ _ _ _ c.count_pieces-n.ensures c.write_pieces.ensures.0 c.write_pieces.ensures.1)
