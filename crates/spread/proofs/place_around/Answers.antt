-- `spread::place_around` meets its contract. Assumes nothing.
use Rattle.std.proofs.Common.{rules}
use Rattle.spread.specs.Parts.{place_around}
use Rattle.spread.proofs.place_around.Goals as goal

pub returns-clause-placed : goal.returns-clause-placed
unfolding place_around
returns-clause-placed c = search rules
