-- `word_calls::of_list` meets its contract. Assumes nothing.
use Rattle.base.specs.declared.Refusal.TheVariants.{Lengths}
use Rattle.limits.proofs.Joined.{when-made}
use Rattle.word_calls.specs.Calls.{of_list}
use Rattle.word_calls.proofs.of_list.Goals as goal

pub returns : goal.returns
unfolding of_list
returns c = when-made Lengths c.differ_in_length.ensures c.when.ensures
