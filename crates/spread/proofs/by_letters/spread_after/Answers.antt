-- `spread::by_letters::spread_after` meets its contract. Assumes nothing.
use native.Mathlib.Omega.{arith}
use Rattle.spread.proofs.Sides.{after-made}
use Rattle.spread.proofs.by_letters.spread_after.Goals as goal

pub returns-clause-spread : goal.returns-clause-spread
returns-clause-spread c = after-made _ _ _ _ _ (omega arith) (omega arith) (omega arith) c.spread.ensures
