-- The words whose times a stage moves, as their edges. Assumes nothing.
use Rattle.std.specs.Prelude.{◌≡◌}
use Rattle.base.specs.Words.{Edges, edges}
use Rattle.base.specs.declared.timed_words.TimedWords.{TimedWords}

abbrev pub edges_of : TimedWords → Edges
edges_of w = edges w.starts.now w.ends.now

-- ---- Both hold the same lists: what is written to the one is written to the lists that were lent, and the weights stay.
abbrev pub SameLists : TimedWords → TimedWords → Type 0
SameLists a b = (a.starts.ghost_name ≡ b.starts.ghost_name) × ((a.ends.ghost_name ≡ b.ends.ghost_name) × (a.weights.now ≡ b.weights.now))
