-- `loops::copy::move_word` meets its contract: one store in each list. Assumes nothing.
use mathlib.Core.Path.{refl}
use Rattle.loops.specs.Parts.{moved}
use Rattle.loops.proofs.copy.move_word.Goals as goal

pub returns-clause-moved : goal.returns-clause-moved
unfolding moved
returns-clause-moved c = refl
