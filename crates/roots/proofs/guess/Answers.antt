-- `roots::guess` meets what its parts ask: the first guess at 1 / √ is a number. Assumes nothing.
use native.Mathlib.Omega.{arith}
use Rattle.roots.proofs.Cases.{finite-bits}
use Rattle.roots.proofs.guess.Goals as goal

pub float_from_bits-b : goal.float_from_bits-b
float_from_bits-b c = finite-bits _ (omega arith)
