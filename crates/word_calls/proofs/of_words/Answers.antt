-- `word_calls::of_words` meets its contract: four tests, joined. Assumes nothing.
use Rattle.std.proofs.Common.{◌∙◌}
use Rattle.base.specs.declared.Refusal.TheVariants.{Time, Letters, Lengths, Counts}
use Rattle.limits.proofs.Joined.{when-made, also-made}
use Rattle.word_calls.proofs.Differ.{uneven-is}
use Rattle.word_calls.specs.Calls.{of_words}
use Rattle.word_calls.proofs.of_words.Goals as goal

pub returns : goal.returns
unfolding of_words
returns c =
    also-made (when-made Lengths (c.lists_differ-uneven.ensures ∙ uneven-is _ _ _ _ _) c.when.ensures)
    (also-made (when-made Counts c.many.ensures c.when-counts.ensures)
    (also-made (when-made Time c.bad_edges.ensures c.when-times.ensures)
    (when-made Letters c.bad_letters.ensures c.when-letters.ensures) c.also.ensures) c.also-2.ensures) c.also-3.ensures
