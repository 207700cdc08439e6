-- `job_text::put_word` meets its contract: its parts one after another. Assumes nothing.
use Rattle.job_text.specs.Text.{word_text}
use Rattle.job_text.proofs.Writing.{word-line}
use Rattle.job_text.proofs.put_word.Goals as goal

pub returns : goal.returns
unfolding word_text
returns c =
    word-line _ _ _ _ c.put_text.ensures c.put_bits.ensures c.put_text-2.ensures
    c.put_bits-2.ensures c.put_text-3.ensures c.put_phrase.ensures c.put_text-4.ensures
