-- `word_calls::of_levels` meets its contract. Assumes nothing.
use Rattle.base.specs.declared.Refusal.TheVariants.{Levels}
use Rattle.limits.proofs.Joined.{when-made, also-made}
use Rattle.word_calls.specs.Calls.{of_levels}
use Rattle.word_calls.proofs.of_levels.Goals as goal

pub returns : goal.returns
unfolding of_levels
returns c = also-made c.of_samples.ensures (when-made Levels c.other_levels-other.ensures c.when.ensures) c.also.ensures
