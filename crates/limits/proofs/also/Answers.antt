-- `limits::also` meets its contract: it is the definition. Assumes nothing.
use mathlib.Core.Path.{refl}
use Rattle.limits.specs.Order.{also}
use Rattle.limits.proofs.also.Goals as goal

pub returns : goal.returns
unfolding also
returns c = refl
