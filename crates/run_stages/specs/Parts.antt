-- What only the contracts of the unchecked core cite; a reader of the public call may skip it. Assumes nothing.
use Rattle.std.specs.Prelude.{ℕ, ◌≤◌, ◌≡◌, List, length, get_or}
use Rattle.base.specs.Words.{Words, count, words_in_places}
use Rattle.base.specs.Parts.{OneLength}
use Rattle.run_stages.specs.Stages.{Settled, Run}
use Rattle.pieces.specs.Parts.{starts_over, ends_over}
use Rattle.run_stages.specs.declared.Outcome.{Outcome}

-- ======== `on_words`

-- ---- The words' lists are as long as each other, the words are few, and every word has its places.
abbrev pub Ready : Words → ℕ → ℕ → ℕ → ℕ → Type 0
Ready ws phrases work_starts work_ends work_letters =
    OneLength (count ws) ws
    × ((count ws ≤ 4096) × ((count ws ≤ phrases) × ((count ws ≤ work_starts) × ((count ws ≤ work_ends) × (count ws ≤ work_letters)))))

-- ---- Every number of letters is within its limit.
abbrev pub FewLetters : List ℕ → Type 0
FewLetters letters = (i : ℕ) → get_or letters i 0 ≤ 1000

-- ---- What is left and given back: the final words in so many places, their count, and the phrase places.
pub record Settling (final : Settled) (places n : ℕ) (after : Words) (numbers : List ℕ) : Type 0 where
  pub words : after ≡ words_in_places places final.words
  pub count : n ≡ count final.words
  pub phrases : numbers ≡ final.phrases

-- ======== The call

-- ---- What is left and given back: the pieces over what their places held, the final words in so many places, the phrase places, the counts, and `found`.
pub record Running (run : Run) (places : ℕ) (r : Outcome) (after : Words) (numbers starts₀ ends₀ starts ends : List ℕ) : Type 0 where
  pub pieces : r.pieces ≡ length run.pieces
  pub count : r.words ≡ count run.words
  pub found : r.found ≡ run.found
  pub words : after ≡ words_in_places places run.words
  pub phrases : numbers ≡ run.phrases
  pub piece-starts : starts ≡ starts_over run.pieces starts₀
  pub piece-ends : ends ≡ ends_over run.pieces ends₀
