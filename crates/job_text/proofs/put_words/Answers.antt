-- `job_text::put_words` meets its contract: after i turns the lines of the first i words are written, with 64 bytes for each at the most. Assumes nothing.
use Rattle.job_text.proofs.Writing.{words-none, words-next}
use Rattle.job_text.proofs.put_words.Goals as goal

pub loop-i-init : goal.loop-i-init
loop-i-init c = words-none _ _ _ _ _

pub loop-i-preserved : goal.loop-i-preserved
loop-i-preserved c = words-next _ _ _ _ _ _ c.loop-i.invariant c.put_word.ensures
