-- The share-out of a time by letters: the loop of `spread` in phrase_align.rs, and the last loop of `even_out` in even.rs. `room` is the time to share, of
-- either sign, `total` the letters of all words. Assumes nothing.
use Rattle.std.specs.Prelude.{ℕ, ◌+◌, List, get_or, length, Float}
use Rattle.base.specs.Loop.{each, fold}
use Rattle.base.specs.Floats.{◌⊕◌, ◌⊗◌, ◌⊘◌, num}
use Rattle.base.specs.Words.{Edges, times, set_times}

-- ---- weight.iter().sum::<usize>()
unfoldable pub sum : List ℕ → ℕ
sum letters = fold ◌+◌ 0 letters

-- ---- let d = (room * n as f64) / total;
abbrev pub share_of : Float → Float → ℕ → Float
share_of room total n = room ⊗ num n ⊘ total

-- ---- The words, and where the next one starts.
pub record Sharing : Type 0 where
  pub edges : Edges
  pub t : Float

-- ---- w.start = t; w.end = t + d; t += d;
abbrev pub share_turn : List ℕ → Float → Float → ℕ → Sharing → Sharing
share_turn letters room total i s =
    let d = share_of room total (get_or letters i 0) in record { edges = set_times s.edges i (times s.t (s.t ⊕ d)); t = s.t ⊕ d }

-- ---- let mut t = from; for (w, &n) in words.iter_mut().zip(weight)
unfoldable pub share : List ℕ → Float → Float → Float → Edges → Edges
share letters room total from es = (each (share_turn letters room total) (length letters) 0 (record { edges = es; t = from })).edges

-- ---- The boundary after j words: where word j starts, and where the word before it ends.
unfoldable pub boundary : List ℕ → Float → Float → Float → ℕ → Float
boundary letters room total from j = each (λ (i : ℕ) (t : Float). t ⊕ share_of room total (get_or letters i 0)) j 0 from
