-- The two lines of document 01's example, and a refusal, by computing the definitions. Assumes nothing.
use mathlib.Core.Path.{◌≡◌, refl}
use mathlib.Core.List.{[], ◌∷◌}
use lib.Ieee.{binary64, of_bits, of_fields, odd, to_bits, size}
use Rattle.job_text.specs.Text.{digit, piece_text, word_text, refused_text, decimal_in, decimal, hex_in, bits_of, refused_line, piece_line, phrase_text, word_line}

-- `piece 0 16000`
piece-line-case : piece_line 0 16000 ≡ 112 ∷ 105 ∷ 101 ∷ 99 ∷ 101 ∷ 32 ∷ 48 ∷ 32 ∷ 49 ∷ 54 ∷ 48 ∷ 48 ∷ 48 ∷ 10 ∷ []
unfolding piece_line piece_text decimal decimal_in digit
piece-line-case = refl

-- `word 0000000000000000 3FE0000000000000 -`, for a word from 0 to 0.5 s
word-line-case : word_line 0 (of_bits binary64 0) (of_bits binary64 0x3fe0_0000_0000_0000) 0 ≡
    119 ∷ 111 ∷ 114 ∷ 100 ∷ 32
    ∷ 48 ∷ 48 ∷ 48 ∷ 48 ∷ 48 ∷ 48 ∷ 48 ∷ 48 ∷ 48 ∷ 48 ∷ 48 ∷ 48 ∷ 48 ∷ 48 ∷ 48 ∷ 48 ∷ 32
    ∷ 51 ∷ 70 ∷ 69 ∷ 48 ∷ 48 ∷ 48 ∷ 48 ∷ 48 ∷ 48 ∷ 48 ∷ 48 ∷ 48 ∷ 48 ∷ 48 ∷ 48 ∷ 48 ∷ 32
    ∷ 45 ∷ 10 ∷ []
unfolding word_line word_text bits_of hex_in digit phrase_text to_bits size of_bits of_fields odd
word-line-case = refl

-- `refused 5`
refused-line-case : refused_line 5 ≡ 114 ∷ 101 ∷ 102 ∷ 117 ∷ 115 ∷ 101 ∷ 100 ∷ 32 ∷ 53 ∷ 10 ∷ []
unfolding refused_line refused_text decimal decimal_in digit
refused-line-case = refl
