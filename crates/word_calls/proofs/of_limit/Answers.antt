-- `word_calls::of_limit` meets its contract. Assumes nothing.
use Rattle.base.specs.declared.Refusal.TheVariants.{Time}
use Rattle.limits.proofs.Joined.{when-made}
use Rattle.word_calls.specs.Calls.{of_limit}
use Rattle.word_calls.proofs.of_limit.Goals as goal

pub returns : goal.returns
unfolding of_limit
returns c = when-made Time c.bad_limit.ensures c.when.ensures
