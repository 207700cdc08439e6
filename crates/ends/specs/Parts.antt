-- What only the contracts of unchecked parts cite: a reader of the promises may skip it. Assumes nothing.
use Rattle.std.specs.Prelude.{ℕ, ◌-◌, Bool, ◌||◌, List, ℤ, pos, Float}
use Rattle.std.proofs.Math.IntN.{pred_ℤ}
use Rattle.std.specs.Float.Ieee.{lt}
use Rattle.base.specs.Loop.{on, run}
use Rattle.ends.specs.Ends.{Last, last_turn, no_length}
use Rattle.base.specs.Floats.{◌⊕◌, ◌⊖◌}
use Rattle.base.specs.Words.{loose}
use Rattle.base.specs.declared.Times.{Times}

-- ======== `sound`

-- ---- The loop's numbers at frame k, where the last loud frame lies before frame `past` (0: none yet).
unfoldable pub seen : ℕ → ℕ → Last
seen k past = record { last = pred_ℤ (pos past); quiet = k - past }

-- ---- What the rest of the loop finds, from frame k on, where frame k - 1 was loud.
unfoldable pub sound_on : ℕ → List Bool → ℕ → ℕ → ℤ
sound_on edge row k hi = (run (last_turn edge row) (hi - k) (pos k) (on (seen k k))).last

-- ======== `one_word`

-- ---- An end that is loose, or a word that is too short.
unfoldable pub is_loose : Float → Times → Bool
is_loose sound w = lt (sound ⊕ loose) w.end || lt (w.end ⊖ w.start) no_length
