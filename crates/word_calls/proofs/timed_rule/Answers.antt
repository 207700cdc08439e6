-- `word_calls::timed_rule` meets its contract. Assumes nothing.
use Rattle.limits.proofs.Joined.{also-made, chain-made}
use Rattle.word_calls.specs.Calls.{timed_rule}
use Rattle.word_calls.proofs.timed_rule.Goals as goal

pub returns : goal.returns
unfolding timed_rule
returns c =
    chain-made (also-made (also-made c.of_words-a.ensures c.of_levels.ensures c.also-b.ensures)
    c.of_time.ensures c.also.ensures) c.chain.ensures
