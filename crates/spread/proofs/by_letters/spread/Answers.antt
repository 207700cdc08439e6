-- `spread::by_letters::spread` meets its contract. Assumes nothing.
use Rattle.spread.specs.Spread as spreads
use Rattle.spread.proofs.by_letters.spread.Goals as goal

pub returns : goal.returns
unfolding spreads.spread
returns c = cc
