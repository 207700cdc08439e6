-- `word_calls::sound_rule` meets its contract. Assumes nothing.
use Rattle.limits.proofs.Joined.{also-made, chain-made}
use Rattle.word_calls.specs.Calls.{sound_rule}
use Rattle.word_calls.proofs.sound_rule.Goals as goal

pub returns : goal.returns
unfolding sound_rule
returns c = chain-made (also-made c.of_words-a.ensures c.of_levels.ensures c.also.ensures) c.chain.ensures
