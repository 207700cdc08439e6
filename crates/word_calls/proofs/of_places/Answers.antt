-- `word_calls::of_places` meets its contract. Assumes nothing.
use Rattle.base.specs.declared.Refusal.TheVariants.{Places}
use Rattle.limits.proofs.Joined.{when-made}
use Rattle.word_calls.specs.Calls.{of_places}
use Rattle.word_calls.proofs.of_places.Goals as goal

pub returns : goal.returns
unfolding of_places
returns c = when-made Places c.few_places.ensures c.when.ensures
