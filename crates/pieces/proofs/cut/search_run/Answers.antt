-- The next run that can be longer, by whether a frame that is not quiet breaks it. Assumes nothing.
use native.Mathlib.Omega.{arith}
use Rattle.pieces.proofs.CutParts.{run-breaks, run-grows}
use Rattle.pieces.proofs.cut.search_run.Goals as goal

pub returns-then-start-from : goal.returns-then-start-from
returns-then-start-from c =
    (run-breaks _ _ c.requires.1 c.requires.0 c.quiet_from-from.ensures.0 (omega arith) (omega arith), omega arith)

pub returns : goal.returns
returns c =
    (run-grows _ _ c.requires.1 c.requires.0 c.quiet_from-from.ensures.0 (omega arith) c.quiet_to-end.ensures.0 (omega arith) (omega arith), omega arith)
