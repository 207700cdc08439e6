-- What only the contracts of the unchecked core cite; a reader of the public call may skip it. Assumes nothing.
use Rattle.std.specs.Prelude.{◌≡◌, ℕ, ◌+◌, ◌<◌, ◌≤◌, Bool, true, false, not, T, List, length, pos, is_nan, slice_index_or, slice_set, Float}
use Rattle.std.specs.Float.{nan}
use Rattle.envelope.specs.declared.level.Four.{Four}
use Rattle.envelope.specs.Envelope.{squares, level, frame, loud}

-- ======== `level`

-- ---- No sample is a NaN.
pub record NoNan (samples : List Float) : Type 0 where
  pub at : (i : ℕ) → i < length samples → T (not (is_nan (slice_index_or samples i nan)))

-- ---- The sums of the squares of frames 0 to 3.
pub record Summed (samples : List Float) (sums : Four) : Type 0 where
  pub first : sums.first ≡ squares (frame samples 0)
  pub second : sums.second ≡ squares (frame samples 1)
  pub third : sums.third ≡ squares (frame samples 2)
  pub fourth : sums.fourth ≡ squares (frame samples 3)

-- ---- levels[k] = the level of frame k
abbrev pub stored : List Float → ℕ → List Float → List Float
stored samples k places = slice_set places k (level (frame samples k))

-- ======== The searches among the frames

-- ---- Each frame from lo to before hi is loud, where `is` is true; none of them is, where it is false.
abbrev pub Throughout : List Bool → Bool → ℕ → ℕ → Type 0
Throughout row is lo hi = (j : ℕ) → lo ≤ j → j < hi → loud row (pos j) ≡ is

-- ---- k is the first frame from lo to before hi that is loud, where `want` is true, or that is not, where it is false.
pub record IsFirst (row : List Bool) (want : Bool) (lo hi k : ℕ) : Type 0 where
  pub from : lo ≤ k
  pub to : k < hi
  pub found : loud row (pos k) ≡ want
  pub before : Throughout row (not want) lo k

-- ---- k is the last loud frame from lo to before hi.
pub record IsLast (row : List Bool) (lo hi k : ℕ) : Type 0 where
  pub from : lo ≤ k
  pub to : k < hi
  pub found : loud row (pos k) ≡ true
  pub after : Throughout row false (k + 1) hi
