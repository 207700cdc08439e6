-- Document 01, "How much is taken, and which check is first": the tests behind the refusals. Assumes nothing.
use Rattle.std.specs.Prelude.{ℕ, ◌/◌, Bool, not, false, cond, ◌&&◌, ◌||◌, List, [], ◌∷◌, eqb, ltb, Float, Result, Ok, Err, is_err}
use Rattle.std.specs.Float.{nan, inf, fin, binary64}
use Rattle.std.specs.Float.Ieee.{le, of_bits}
use Rattle.limits.specs.declared.times.NoTime.{NoTime}
use Rattle.limits.specs.declared.times.NoTime.TheVariants.{NotFinite, Outside}

-- ======== The tests of counts and lengths.

-- ---- 3: "lists that belong together differ in length"
abbrev pub differ : ℕ → ℕ → Bool
differ a b = not (eqb a b)

-- ---- 4: "Samples: 0 to 57,600,000"
abbrev pub many_samples : ℕ → Bool
many_samples n = ltb 57600000 n

-- ---- 4: "Words and spans: 0 to 4,096 each."
abbrev pub many : ℕ → Bool
many n = ltb 4096 n

-- ---- 6: "too few places for the result or work space"
abbrev pub few_places : ℕ → ℕ → Bool
few_places places need = ltb places need

-- ---- 7: "the number of levels isn't samples / 160, rounded down"
abbrev pub other_levels : ℕ → ℕ → Bool
other_levels levels samples = not (eqb levels (samples / 160))

-- ======== The tests of a time and of a limit.

-- ---- 1: "Times, spans, duration: finite, -7,200 to 7,200 inclusive". A time is fine, not finite, or outside.
abbrev pub most : Float
most = of_bits binary64 0x40bc_2000_0000_0000

abbrev pub least : Float
least = of_bits binary64 0xc0bc_2000_0000_0000

unfoldable pub time_of : Float → Result (Unit {0}) NoTime
time_of nan = Err NotFinite
time_of (inf s) = Err NotFinite
time_of (fin s m e) = cond (le least (fin s m e) && le (fin s m e) most) (Ok tt) (Err Outside)

abbrev pub bad_time : Float → Bool
bad_time t = is_err (time_of t)

-- ---- "a limit for evening may also be +infinity"
unfoldable pub limit_of : Float → Result (Unit {0}) NoTime
limit_of nan = Err NotFinite
limit_of (inf s) = cond s (Err NotFinite) (Ok tt)
limit_of (fin s m e) = time_of (fin s m e)

abbrev pub bad_limit : Float → Bool
bad_limit t = is_err (limit_of t)

-- ======== The tests of lists.

-- ---- Whether a test holds of some element.
unfoldable pub any : {A : Type 0} → (A → Bool) → List A → Bool
any p [] = false
any p (x ∷ xs) = p x || any p xs

-- ---- 1: a start or an end that is not fine: a time of a word, or of a span.
abbrev pub bad_edges : List Float → List Float → Bool
bad_edges starts ends = any bad_time starts || any bad_time ends

abbrev pub bad_word_times : List Float → List Float → Bool
bad_word_times starts ends = bad_edges starts ends

abbrev pub bad_span_times : List Float → List Float → Bool
bad_span_times starts ends = bad_edges starts ends

-- ---- 2: "Letters 1 to 1,000, units 1 to 10,000"
abbrev pub outside : ℕ → ℕ → ℕ → Bool
outside least most n = ltb n least || ltb most n

abbrev pub bad_letters : List ℕ → List ℕ → Bool
bad_letters letters units = any (outside 1 1000) letters || any (outside 1 10000) units

-- ---- 4: "A span's word count: 0 to 4,096."
abbrev pub bad_counts : List ℕ → Bool
bad_counts counts = any (outside 0 4096) counts
