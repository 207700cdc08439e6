-- The cut, by the search in the part of the levels from frame from + 1,200 on. Assumes nothing.
use native.Mathlib.Omega.{arith}
use Rattle.pieces.proofs.CutParts.{cut-found}
use Rattle.pieces.proofs.cut.find_cut.Goals as goal

pub returns : goal.returns
returns c = cut-found _ _ _ _ _ (omega arith) (omega arith) c.find_middle.ensures.0
