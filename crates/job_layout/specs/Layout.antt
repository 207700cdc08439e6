-- The job file, byte for byte (document 01, "Tally, peak, job file"). Assumes nothing.
use Rattle.std.specs.Prelude.{ℕ, ◌+◌, ◌*◌, Bool, ◌&&◌, ◌||◌, List, [], ◌∷◌, eqb, ltb, take, drop, Float}
use Rattle.std.specs.Float.{binary32, binary64}
use Rattle.std.specs.Float.Ieee.{of_bits}
use Rattle.base.specs.Loop.{table}
use Rattle.base.specs.Words.{Words, words, Spans, spans}

-- ---- "little-endian": a whole number from its bytes, the lowest first.
unfoldable pub whole : List ℕ → ℕ
whole [] = 0
whole (b ∷ bs) = b + 256 * whole bs

-- ---- A u32, an f64 and an f32, at a byte of the file.
unfoldable pub u32_at : List ℕ → ℕ → ℕ
u32_at file at = whole (take 4 (drop at file))

unfoldable pub f64_at : List ℕ → ℕ → Float
f64_at file at = of_bits binary64 (whole (take 8 (drop at file)))

unfoldable pub f32_at : List ℕ → ℕ → Float
f32_at file at = of_bits binary32 (whole (take 4 (drop at file)))

-- ---- "a table of three pairs of u32, offset and number, for words, spans, samples"
pub record Contents : Type 0 where
  pub words_at : ℕ
  pub words : ℕ
  pub spans_at : ℕ
  pub spans : ℕ
  pub samples_at : ℕ
  pub samples : ℕ

abbrev pub table_size : ℕ
table_size = 24

unfoldable pub contents : List ℕ → Contents
contents file = record {
  words_at = u32_at file 0;
  words = u32_at file 4;
  spans_at = u32_at file 8;
  spans = u32_at file 12;
  samples_at = u32_at file 16;
  samples = u32_at file 20;
}

-- ---- "at most 512 words, 64 spans, 960,159 samples"
unfoldable pub too_many : Contents → Bool
too_many c = ltb 512 c.words || (ltb 64 c.spans || ltb 960159 c.samples)

-- ---- "Word, 28 bytes", "Span, 20 bytes", "Sample: f32"
abbrev pub word_size : ℕ
word_size = 28

abbrev pub span_size : ℕ
span_size = 20

abbrev pub sample_size : ℕ
sample_size = 4

-- ---- "bodies follow in that order from byte 24 without gaps": the three offsets.
unfoldable pub gapless : Contents → Bool
gapless c =
    eqb c.words_at table_size
    && (eqb c.spans_at (table_size + word_size * c.words)
    && eqb c.samples_at (table_size + word_size * c.words + span_size * c.spans))

-- ---- ".. to the file's end": how many bytes the file has.
unfoldable pub file_size : Contents → ℕ
file_size c = table_size + word_size * c.words + span_size * c.spans + sample_size * c.samples

-- ---- A value of each of n records, which are `size` bytes apart.
unfoldable pub column : {A : Type 0} → (List ℕ → ℕ → A) → List ℕ → ℕ → ℕ → ℕ → List A
column read file at size n = table (λ (i : ℕ). read file (at + size * i)) n 0

-- ---- "Word, 28 bytes: start, end (f64), letters, units, key (u32)."
unfoldable pub words_from : List ℕ → ℕ → ℕ → Words
words_from file at n =
    words (column f64_at file at word_size n) (column f64_at file (at + 8) word_size n)
    (column u32_at file (at + 16) word_size n) (column u32_at file (at + 20) word_size n) (column u32_at file (at + 24) word_size n)

-- ---- "Span, 20 bytes: start, end (f64), count (u32)."
unfoldable pub spans_from : List ℕ → ℕ → ℕ → Spans
spans_from file at n = spans (column f64_at file at span_size n) (column f64_at file (at + 8) span_size n) (column u32_at file (at + 16) span_size n)

-- ---- "Sample: f32."
unfoldable pub samples_from : List ℕ → ℕ → ℕ → List Float
samples_from file at n = column f32_at file at sample_size n

-- ---- The words, the spans and the samples of a file, where its table says that they are.
abbrev pub job_words : List ℕ → Words
job_words file = words_from file (contents file).words_at (contents file).words

abbrev pub job_spans : List ℕ → Spans
job_spans file = spans_from file (contents file).spans_at (contents file).spans

abbrev pub job_samples : List ℕ → List Float
job_samples file = samples_from file (contents file).samples_at (contents file).samples
