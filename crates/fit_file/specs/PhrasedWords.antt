-- The words that are fitted phrase by phrase, as their edges, and the work space. Assumes nothing.
use Rattle.std.specs.Prelude.{◌≡◌, length}
use Rattle.base.specs.Words.{Edges, edges}
use Rattle.fit_file.specs.declared.phrased_words.PhrasedWords.{PhrasedWords}

abbrev pub edges_of : PhrasedWords → Edges
edges_of w = edges w.starts.now w.ends.now

-- ---- Both hold the same lists: what is written to the one is written to the lists that were lent, and letters and phrase numbers stay.
abbrev pub SameLists : PhrasedWords → PhrasedWords → Type 0
SameLists a b =
    (a.starts.ghost_name ≡ b.starts.ghost_name)
    × ((a.ends.ghost_name ≡ b.ends.ghost_name)
    × ((a.letters.now ≡ b.letters.now)
    × ((a.phrases.now ≡ b.phrases.now)
    × ((a.work_starts.ghost_name ≡ b.work_starts.ghost_name)
    × ((a.work_ends.ghost_name ≡ b.work_ends.ghost_name)
    × ((a.work_letters.ghost_name ≡ b.work_letters.ghost_name)
    × ((length a.work_starts.now ≡ length b.work_starts.now)
    × ((length a.work_ends.now ≡ length b.work_ends.now) × (length a.work_letters.now ≡ length b.work_letters.now)))))))))
