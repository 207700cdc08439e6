-- What the program prints, as bytes of ASCII (document 01, "Tally, peak, job file"). Digits in upper case, one space between two parts
-- and a line's end after each line, the last too, are those of document 01's example. Assumes nothing.
use Rattle.std.specs.Prelude.{ℕ, zero, suc, ◌+◌, ◌/◌, ◌%◌, cond, List, [], ◌∷◌, ◌++◌, eqb, ltb, get_or, Float}
use Rattle.std.specs.Float.{nan, binary64}
use Rattle.std.specs.Float.Ieee.{to_bits}
use Rattle.base.specs.Loop.{each}

-- ---- A digit below 16: `0` to `9`, then `A` to `F`.
unfoldable pub digit : ℕ → ℕ
digit d = cond (ltb d 10) (48 + d) (55 + d)

-- ---- A space, the end of a line, and `-`.
abbrev pub space : List ℕ
space = 32 ∷ []

abbrev pub newline : List ℕ
newline = 10 ∷ []

abbrev pub dash : List ℕ
dash = 45 ∷ []

-- ---- `piece `, `word `, `refused `.
unfoldable pub piece_text : List ℕ
piece_text = 112 ∷ 105 ∷ 101 ∷ 99 ∷ 101 ∷ 32 ∷ []

unfoldable pub word_text : List ℕ
word_text = 119 ∷ 111 ∷ 114 ∷ 100 ∷ 32 ∷ []

unfoldable pub refused_text : List ℕ
refused_text = 114 ∷ 101 ∷ 102 ∷ 117 ∷ 115 ∷ 101 ∷ 100 ∷ 32 ∷ []

-- ---- A number below 10^most in decimal digits, without zeros in front: the digits of its tens, then its last.
unfoldable pub decimal_in : ℕ → ℕ → List ℕ
decimal_in zero n = []
decimal_in (suc most) n = cond (ltb n 10) (digit n ∷ []) (decimal_in most (n / 10) ++ (digit (n % 10) ∷ []))

-- ---- A u64 has 20 digits at the most.
unfoldable pub decimal : ℕ → List ℕ
decimal n = decimal_in 20 n

-- ---- The last so many hexadecimal digits of a number.
unfoldable pub hex_in : ℕ → ℕ → List ℕ
hex_in zero n = []
hex_in (suc most) n = hex_in most (n / 16) ++ (digit (n % 16) ∷ [])

-- ---- "bits of start and end in 16 hexadecimal digits"
unfoldable pub bits_of : Float → List ℕ
bits_of x = hex_in 16 (to_bits binary64 x)

-- ---- "prints `refused` and the number"
unfoldable pub refused_line : ℕ → List ℕ
refused_line n = refused_text ++ (decimal n ++ newline)

-- ---- "the pieces (first sample, end)"
unfoldable pub piece_line : ℕ → ℕ → List ℕ
piece_line first end = piece_text ++ (decimal first ++ (space ++ (decimal end ++ newline)))

-- ---- "phrase number or `-`": a word has a phrase number exactly where there are spans ("Without spans: no placing").
unfoldable pub phrase_text : ℕ → ℕ → List ℕ
phrase_text spans phrase = cond (eqb spans 0) dash (decimal phrase)

-- ---- "the words (bits of start and end in 16 hexadecimal digits, phrase number or `-`)"
unfoldable pub word_line : ℕ → Float → Float → ℕ → List ℕ
word_line spans start end phrase = word_text ++ (bits_of start ++ (space ++ (bits_of end ++ (space ++ (phrase_text spans phrase ++ newline)))))

-- ---- A line for each of n, in order.
unfoldable pub lines : (ℕ → List ℕ) → ℕ → List ℕ
lines line n = each (λ (i : ℕ) (text : List ℕ). text ++ line i) n 0 []

unfoldable pub piece_lines : List ℕ → List ℕ → ℕ → List ℕ
piece_lines starts ends n = lines (λ (i : ℕ). piece_line (get_or starts i 0) (get_or ends i 0)) n

unfoldable pub word_lines : ℕ → List Float → List Float → List ℕ → ℕ → List ℕ
word_lines spans starts ends phrases n = lines (λ (i : ℕ). word_line spans (get_or starts i nan) (get_or ends i nan) (get_or phrases i 0)) n
