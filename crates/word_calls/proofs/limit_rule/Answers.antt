-- `word_calls::limit_rule` meets its contract. Assumes nothing.
use Rattle.limits.proofs.Joined.{also-made, chain-made}
use Rattle.word_calls.specs.Calls.{limit_rule}
use Rattle.word_calls.proofs.limit_rule.Goals as goal

pub returns : goal.returns
unfolding limit_rule
returns c = chain-made (also-made c.of_words-a.ensures c.of_limit.ensures c.also.ensures) c.chain.ensures
