-- The five lists that a call is given, as a list of words. Assumes nothing.
use Rattle.base.specs.Words.{Words, words}
use Rattle.base.specs.declared.word_lists.WordLists.{WordLists}

abbrev pub words_of : WordLists → Words
words_of w = words w.starts.now w.ends.now w.letters.now w.units.now w.keys.now
