-- `spread::inside::is_inside` meets its contract, test by test. Assumes nothing.
use Rattle.std.proofs.Common.{rules}
use Rattle.spread.specs.Spread.{inside}
use Rattle.spread.proofs.inside.is_inside.Goals as goal

pub returns-then-w-span-2 : goal.returns-then-w-span-2
unfolding inside
returns-then-w-span-2 c = search rules

pub returns-else-w-span-2 : goal.returns-else-w-span-2
unfolding inside
returns-else-w-span-2 c = search rules
