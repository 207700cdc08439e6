-- The levels of four frames, by their sums. Assumes nothing.
use Rattle.envelope.proofs.Fours.{four-stored}
use Rattle.envelope.proofs.level.store_four.Goals as goal

pub returns-clause-stored : goal.returns-clause-stored
returns-clause-stored c = four-stored _ _ _ c.four_squares-sums.ensures c.root_mean.ensures c.root_mean-2.ensures c.root_mean-3.ensures c.root_mean-4.ensures
