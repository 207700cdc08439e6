-- What only the contracts of unchecked parts cite, by frames from zero: a reader of the promises may skip it. Assumes nothing.
use Rattle.std.specs.Prelude.{ℕ, ◌+◌, ◌-◌, Bool, false, cond, List, ltb, eqb, pos, Float}
use Rattle.std.specs.Float.Ieee.{le}
use Rattle.base.specs.Words.{loose}
use Rattle.base.specs.Floats.{◌⊖◌}
use Rattle.envelope.specs.Envelope.{loud}

-- ---- The sound runs across the start of frame f.
unfoldable pub across : List Bool → ℕ → Bool
across row f = cond (eqb f 0) false (cond (loud row (pos (f - 1))) (loud row (pos f)) false)

-- ---- A word starts on the tail of the word before it, in frame f.
unfoldable pub lands : List Bool → Float → Float → ℕ → Bool
lands row prev_end start f = cond (le loose (start ⊖ prev_end)) false (across row f)

-- ---- Frame k lies before hi and is loud.
unfoldable pub below : List Bool → ℕ → ℕ → Bool
below row hi k = cond (ltb k hi) (loud row (pos k)) false

-- ---- Three such frames from k on.
unfoldable pub three : List Bool → ℕ → ℕ → Bool
three row hi k = cond (below row hi k) (cond (below row hi (k + 1)) (below row hi (k + 2)) false) false
