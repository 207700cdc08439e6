-- Words that are only looked at, as their edges. Assumes nothing.
use Rattle.base.specs.Words.{Edges, edges}
use Rattle.even.specs.declared.weighed_words.WeighedWords.{WeighedWords}

abbrev pub edges_of : WeighedWords → Edges
edges_of w = edges w.starts.now w.ends.now
