-- `word_calls::phrases_rule` meets its contract. Assumes nothing.
use Rattle.limits.proofs.Joined.{also-made, chain-made}
use Rattle.word_calls.specs.Calls.{phrases_rule}
use Rattle.word_calls.proofs.phrases_rule.Goals as goal

pub returns : goal.returns
unfolding phrases_rule
returns c =
    chain-made (also-made (also-made c.of_words-a.ensures c.of_levels.ensures c.also-b.ensures)
    (also-made c.of_list.ensures
    (also-made c.of_spans.ensures c.of_places.ensures c.also-d.ensures) c.also.ensures) c.also-2.ensures) c.chain.ensures
