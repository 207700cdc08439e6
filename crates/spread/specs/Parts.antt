-- What only the contracts of unchecked parts cite; a reader of the public calls may skip it. Assumes nothing.
use Rattle.std.specs.Prelude.{ℕ, List, Float}
use Rattle.base.specs.Words.{Edges}
use Rattle.spread.specs.Spread.{last_inside, spread_before, spread_after, place_between}

-- ---- The words of a phrase of which word `first` is the first inside one.
unfoldable pub place_around : List ℕ → Float → Float → ℕ → Edges → Edges
place_around letters from to first es =
    place_between from to first (last_inside from to es) (spread_after letters to (last_inside from to es) (spread_before letters from first es))
