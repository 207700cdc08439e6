-- What only the contracts of unchecked parts and the laws of their pass cite; a reader of the public call may skip it. Assumes nothing.
use Rattle.std.specs.Prelude.{ℕ, suc, ◌+◌, ◌-◌, Bool, false, cond, List, ◌++◌, ltb, get_or, set, drop}
use Rattle.base.specs.Loop.{each, table}
use Rattle.base.specs.Words.{Edges}
use Rattle.tally.specs.Tally.{span_turn}

-- ---- One frame more, where it is loud.
unfoldable pub loud_turn : List Bool → ℕ → ℕ → ℕ
loud_turn row k n = cond (get_or row k false) (suc n) n

-- ---- How many frames from lo to before hi are loud.
unfoldable pub loud_between : List Bool → ℕ → ℕ → ℕ
loud_between row lo hi = each (loud_turn row) (hi - lo) lo 0

-- ---- So many more at place p, where p is the number of one of so many spans.
unfoldable pub added_at : ℕ → ℕ → ℕ → List ℕ → List ℕ
added_at spans p n places = cond (ltb p spans) (set places p (get_or places p 0 + n)) places

-- ---- The sum over the words of span p among the first i.
abbrev pub sofar : List Bool → List ℕ → Edges → ℕ → ℕ → ℕ
sofar row phrases es i p = each (span_turn row phrases es p) i 0 0

-- ---- What the places hold after i words: these sums, and behind them what they held.
unfoldable pub filled : List Bool → List ℕ → Edges → ℕ → ℕ → List ℕ → List ℕ
filled row phrases es spans i places = table (sofar row phrases es i) spans 0 ++ drop spans places
