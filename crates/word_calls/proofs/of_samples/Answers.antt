-- `word_calls::of_samples` meets its contract. Assumes nothing.
use Rattle.base.specs.declared.Refusal.TheVariants.{Counts}
use Rattle.limits.proofs.Joined.{when-made}
use Rattle.word_calls.specs.Calls.{of_samples}
use Rattle.word_calls.proofs.of_samples.Goals as goal

pub returns : goal.returns
unfolding of_samples
returns c = when-made Counts c.many_samples.ensures c.when.ensures
