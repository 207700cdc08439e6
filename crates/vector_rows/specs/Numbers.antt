-- What the numbers of a row stand for.
use Rattle.std.specs.Prelude.{ℕ, ◌+◌, ◌*◌, ◌-◌, ◌^◌, ◌/◌, ◌%◌, leb, Bool, cond, ◌&&◌, ◌==◌, List, [], ◌∷◌, Option, Some, None, option_and_then, Float, from_bits}
use Rattle.std.specs.Float.{binary64}
use Rattle.std.specs.Int.{bit_at}

-- the value of an upper-case hexadecimal digit
abbrev pub digit_value : ℕ → Option ℕ
digit_value c = cond (leb 48 c && leb c 57) (Some (c - 48)) (cond (leb 65 c && leb c 70) (Some (c - 55)) None)

-- the number n with the digits of a text behind it
abbrev pub number_after : ℕ → List ℕ → Option ℕ
number_after n [] = Some n
number_after n (c ∷ text) = option_and_then (λ d. number_after (n * 16 + d) text) (digit_value c)

-- the number that a text of digits is
abbrev pub number_of : List ℕ → Option ℕ
number_of text = number_after 0 text

-- digit i of the 16 of a number, from the highest on
abbrev pub digit_at : ℕ → ℕ → ℕ
digit_at number i = number / 2 ^ (60 - 4 * i) % 16

-- whether a frame of a recording is loud
abbrev pub is_loud : ℕ → ℕ → Bool
is_loud recording frame = bit_at recording frame == 1

-- the level of a frame, 1 or 0
abbrev pub level_of : ℕ → ℕ → Float
level_of recording frame = cond (is_loud recording frame) (from_bits binary64 0x3ff0000000000000) (from_bits binary64 0)
