-- `word_calls::many_spans` meets its contract. Assumes nothing.
use Rattle.word_calls.specs.Calls.{many_spans}
use Rattle.word_calls.proofs.many_spans.Goals as goal

pub returns : goal.returns
unfolding many_spans
returns c = rw (c.many.ensures, c.bad_counts.ensures)
