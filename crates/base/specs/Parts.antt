-- What only the contracts of unchecked parts cite; a reader of the public calls may skip it. Assumes nothing.
use Rattle.std.specs.Prelude.{ℕ, ◌≡◌, length, take}
use Rattle.base.specs.Words.{Words, words}

-- ---- All five lists of the words have so many places.
abbrev pub OneLength : ℕ → Words → Type 0
OneLength m ws =
    (length ws.starts ≡ m) × ((length ws.ends ≡ m) × ((length ws.letters ≡ m) × ((length ws.units ≡ m) × (length ws.keys ≡ m))))

-- ---- The first so many words.
unfoldable pub first_words : ℕ → Words → Words
first_words m ws = words (take m ws.starts) (take m ws.ends) (take m ws.letters) (take m ws.units) (take m ws.keys)
