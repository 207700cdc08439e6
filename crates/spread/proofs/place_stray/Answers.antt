-- `spread::place_stray` meets its contract. Assumes nothing.
use Rattle.std.proofs.Common.{rules}
use Rattle.spread.specs.Spread.{between_turn}
use Rattle.spread.proofs.place_stray.Goals as goal

pub returns-then-inside_at-clause-placed : goal.returns-then-inside_at-clause-placed
unfolding between_turn
returns-then-inside_at-clause-placed c = search rules

pub returns-clause-placed : goal.returns-clause-placed
unfolding between_turn
returns-clause-placed c = search rules
