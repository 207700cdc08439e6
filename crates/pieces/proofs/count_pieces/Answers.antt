-- The counting pass. Invariant: n, and the pieces left from `from` on, are the piece count. The measure is the frames left. Assumes nothing.
use native.Mathlib.Omega.{arith}
use Rattle.pieces.proofs.Passes.{quiet-length, counting-starts, counting-next, counting-last, counting-done}
use Rattle.pieces.proofs.count_pieces.Goals as goal

pub loop-from-init : goal.loop-from-init
loop-from-init c = (quiet-length _ _, (omega arith, (omega arith, counting-starts _)))

pub returns-then-e-from-le-MAX_FRAMES : goal.returns-then-e-from-le-MAX_FRAMES
returns-then-e-from-le-MAX_FRAMES c = counting-last _ _ _ c.loop-from.invariant.1.1.1 (omega arith) (omega arith)

pub loop-from-preserved : goal.loop-from-preserved
loop-from-preserved c = (
  c.loop-from.invariant.0,
  (
    omega arith,
    (
      omega arith,
      counting-next _ _ _ c.loop-from.invariant.1.1.1 (omega arith) c.find_cut-from.ensures.0,
    ),
  ),
)

pub returns : goal.returns
returns c = counting-done _ _ _ c.loop-from.invariant.1.1.1 (omega arith)
