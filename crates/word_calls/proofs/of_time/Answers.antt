-- `word_calls::of_time` meets its contract. Assumes nothing.
use Rattle.base.specs.declared.Refusal.TheVariants.{Time}
use Rattle.limits.proofs.Joined.{when-made}
use Rattle.word_calls.specs.Calls.{of_time}
use Rattle.word_calls.proofs.of_time.Goals as goal

pub returns : goal.returns
unfolding of_time
returns c = when-made Time c.bad_time.ensures c.when.ensures
