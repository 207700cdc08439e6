-- `spread::by_letters::spread_before` meets its contract. Assumes nothing.
use Rattle.spread.proofs.Sides.{before-made}
use Rattle.spread.proofs.by_letters.spread_before.Goals as goal

pub returns-clause-spread : goal.returns-clause-spread
returns-clause-spread c = before-made _ _ _ _ _ c.spread.ensures
