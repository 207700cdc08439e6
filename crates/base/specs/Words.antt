-- Lists of words and spans, as document 01 describes them, and a word's two times. Assumes nothing.
use Rattle.std.specs.Prelude.{ℕ, ◌-◌, List, ◌++◌, get_or, length, set, take, drop, replicate, Float}
use Rattle.std.specs.Float.{nan, binary64}
use Rattle.std.specs.Float.Ieee.{of_bits}
use Rattle.base.specs.declared.Times.{Times}

-- ---- "A word has a start and end in seconds (f64) and three whole numbers": letters, units and key.
pub record Words : Type 0 where
  pub starts : List Float
  pub ends : List Float
  pub letters : List ℕ
  pub units : List ℕ
  pub keys : List ℕ

abbrev pub words : List Float → List Float → List ℕ → List ℕ → List ℕ → Words
words s e l u k = record { starts = s; ends = e; letters = l; units = u; keys = k }

-- ---- A span: where a phrase lies, and how many words it has. "Span, 20 bytes: start, end (f64), count (u32)."
pub record Spans : Type 0 where
  pub starts : List Float
  pub ends : List Float
  pub counts : List ℕ

abbrev pub spans : List Float → List Float → List ℕ → Spans
spans s e n = record { starts = s; ends = e; counts = n }

-- ---- The words' edges: where each starts and ends. The stages on sound move these, and nothing else of a word.
pub record Edges : Type 0 where
  pub starts : List Float
  pub ends : List Float

abbrev pub edges : List Float → List Float → Edges
edges s e = record { starts = s; ends = e }

-- ---- "a word's two times travel together"
abbrev pub times : Float → Float → Times
times s e = record { start = s; end = e }

-- ---- words[i]
abbrev pub times_at : Edges → ℕ → Times
times_at es i = times (get_or es.starts i nan) (get_or es.ends i nan)

-- ---- words[i] = w
abbrev pub set_times : Edges → ℕ → Times → Edges
set_times es i w = edges (set es.starts i w.start) (set es.ends i w.end)

-- ---- The words with other edges: letters, units and keys stay.
abbrev pub with_edges : Edges → Words → Words
with_edges es ws = words es.starts es.ends ws.letters ws.units ws.keys

-- ---- How many words there are.
abbrev pub count : Words → ℕ
count ws = length ws.keys

-- ---- xs[a..e], and xs with ys in its place
abbrev pub part : {A : Type 0} → ℕ → ℕ → List A → List A
part a e xs = take (e - a) (drop a xs)

abbrev pub with_part : {A : Type 0} → ℕ → ℕ → List A → List A → List A
with_part a e xs ys = take a xs ++ (ys ++ drop (e - a) (drop a xs))

-- ---- words[a..e], and f(&mut words[a..e])
unfoldable pub part_edges : ℕ → ℕ → Edges → Edges
part_edges a e es = edges (part a e es.starts) (part a e es.ends)

unfoldable pub on_part : ℕ → ℕ → (Edges → Edges) → Edges → Edges
on_part a e f es =
    let v = f (part_edges a e es) in edges (with_part a e es.starts v.starts) (with_part a e es.ends v.ends)

-- ---- "Places past it become all zero": a list in so many places.
abbrev pub in_places : {A : Type 0} → A → ℕ → List A → List A
in_places zero places xs = xs ++ replicate (places - length xs) zero

abbrev pub zero_f : Float
zero_f = of_bits binary64 0

unfoldable pub words_in_places : ℕ → Words → Words
words_in_places places ws =
    words (in_places zero_f places ws.starts) (in_places zero_f places ws.ends)
    (in_places 0 places ws.letters) (in_places 0 places ws.units) (in_places 0 places ws.keys)

-- ---- EDGE_QUIET of onsets.rs: so many quiet frames in a row, 80 ms, end a search.
abbrev pub edge_quiet : ℕ
edge_quiet = 8

-- ---- END_SILENCE of fit.rs: so many quiet frames in a row, 150 ms, end a word.
abbrev pub end_silence : ℕ
end_silence = 15

-- ---- LOOSE of onsets.rs and of fit.rs, 0.05 s.
abbrev pub loose : Float
loose = of_bits binary64 0x3fa9_9999_9999_999a
