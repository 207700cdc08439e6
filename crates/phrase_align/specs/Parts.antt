-- What only the contracts of unchecked parts cite; a reader of the public call may skip it. Assumes nothing.
use Rattle.std.specs.Prelude.{ℕ, ◌+◌, ◌-◌, min, List, get_or, length, replicate, Float}
use Rattle.std.specs.Float.{nan}
use Rattle.base.specs.Loop.{each}
use Rattle.base.specs.Words.{Spans, Edges, edges, part, with_part, on_part}
use Rattle.spread.specs.Spread.{place_group}

-- ---- The times and the phrase places, and how many words are placed so far.
pub record Held : Type 0 where
  pub edges : Edges
  pub phrases : List ℕ
  pub at : ℕ

abbrev pub held : List Float → List Float → List ℕ → ℕ → Held
held s e f a = record { edges = edges s e; phrases = f; at = a }

-- ---- Words a to e placed in a span, in place, and their phrase numbers.
unfoldable pub held_span : List ℕ → Float → Float → ℕ → ℕ → ℕ → Held → Held
held_span letters from to a e p h =
    record { edges = on_part a e (place_group (part a e letters) from to) h.edges; phrases = with_part a e h.phrases (replicate (e - a) p); at = e }

-- ---- Span p takes its count of words.
unfoldable pub held_turn : List ℕ → Spans → ℕ → Held → Held
held_turn letters spans p h =
    held_span letters (get_or spans.starts p nan) (get_or spans.ends p nan) h.at (min (length letters) (h.at + get_or spans.counts p 0)) p h

unfoldable pub held_spans : List ℕ → Spans → Held → Held
held_spans letters spans h = each (held_turn letters spans) (length spans.counts) 0 h
