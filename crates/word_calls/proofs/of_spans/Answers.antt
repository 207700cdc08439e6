-- `word_calls::of_spans` meets its contract: three tests, joined. Assumes nothing.
use Rattle.std.proofs.Common.{◌∙◌}
use Rattle.base.specs.declared.Refusal.TheVariants.{Time, Lengths, Counts}
use Rattle.limits.proofs.Joined.{when-made, also-made}
use Rattle.word_calls.proofs.Differ.{uneven_spans-is}
use Rattle.word_calls.specs.Calls.{of_spans}
use Rattle.word_calls.proofs.of_spans.Goals as goal

pub returns : goal.returns
unfolding of_spans
returns c =
    also-made (when-made Lengths (c.lists_differ-uneven.ensures ∙ uneven_spans-is _ _ _) c.when.ensures)
    (also-made (when-made Counts c.many_spans.ensures c.when-many.ensures)
    (when-made Time c.bad_edges.ensures c.when-times.ensures) c.also.ensures) c.also-2.ensures
