-- `word_calls::spans_rule` meets its contract. Assumes nothing.
use Rattle.limits.proofs.Joined.{also-made, chain-made}
use Rattle.word_calls.specs.Calls.{spans_rule}
use Rattle.word_calls.proofs.spans_rule.Goals as goal

pub returns : goal.returns
unfolding spans_rule
returns c =
    chain-made (also-made c.of_words-a.ensures
    (also-made c.of_spans.ensures c.of_places.ensures c.also-b.ensures) c.also.ensures) c.chain.ensures
