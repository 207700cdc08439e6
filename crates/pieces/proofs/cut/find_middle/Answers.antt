-- The search in a part. Invariant: what is left of it, from the best so far, finds what the whole finds. The measure is the frames left. Assumes nothing.
use native.Mathlib.Omega.{arith}
use Rattle.pieces.proofs.CutParts.{search-starts, search-done, middle-within}
use Rattle.pieces.proofs.cut.find_middle.Goals as goal

pub loop-q-init : goal.loop-q-init
loop-q-init c = search-starts _

pub returns : goal.returns
returns c = middle-within _ (search-done _ _ c.loop-q.invariant (omega arith))
