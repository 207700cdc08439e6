-- The five lists that a call writes, as a list of words. Assumes nothing.
use Rattle.std.specs.Prelude.{◌≡◌}
use Rattle.base.specs.Words.{Words, words}
use Rattle.base.specs.declared.word_lists_mut.WordListsMut.{WordListsMut}

abbrev pub words_of : WordListsMut → Words
words_of w = words w.starts.now w.ends.now w.letters.now w.units.now w.keys.now

-- ---- Both hold the same lists: what is written to the one is written to the lists that were lent.
abbrev pub SameLists : WordListsMut → WordListsMut → Type 0
SameLists a b =
    (a.starts.ghost_name ≡ b.starts.ghost_name)
    × ((a.ends.ghost_name ≡ b.ends.ghost_name)
    × ((a.letters.ghost_name ≡ b.letters.ghost_name) × ((a.units.ghost_name ≡ b.units.ghost_name) × (a.keys.ghost_name ≡ b.keys.ghost_name))))
