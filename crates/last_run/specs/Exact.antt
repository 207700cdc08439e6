-- Document 01's last run, with no word on how it is found: which frames it has, and which frames are searched. Assumes nothing.
use Rattle.std.specs.Prelude.{ℕ, ◌+◌, ◌-◌, ◌<◌, ◌≤◌, min, Bool, true, false, List, ◌⊎◌, ◌≡◌, pos, length, Float}
use Rattle.base.specs.Whole.{to_nat}
use Rattle.frames.specs.Frames.{frame_from_zero, frame_seconds}
use Rattle.envelope.specs.Envelope.{loud}

-- ---- "no loud frame is in the range": of the frames from lo to before hi.
abbrev pub NoneLoud : List Bool → ℕ → ℕ → Type 0
NoneLoud row lo hi = (j : ℕ) → lo ≤ j → j < hi → loud row (pos j) ≡ false

-- ---- "It bridges 15 quiet frames and stops at 16": the last run of the frames from lo to before hi goes from the loud frame `first` to the
-- loud frame `last`. `is_last`: no frame after it is loud. `bridges`: a loud frame of it, other than the first, has 15 quiet frames at the
-- most between it and the loud frame before. `stops`: 16 quiet frames lie before the first, or fewer where the range begins there.
pub record RunIs (row : List Bool) (lo hi first last : ℕ) : Type 0 where
  pub from : lo ≤ first
  pub order : first ≤ last
  pub to : last < hi
  pub first-loud : loud row (pos first) ≡ true
  pub last-loud : loud row (pos last) ≡ true
  pub is_last : (j : ℕ) → last < j → j < hi → loud row (pos j) ≡ false
  pub bridges : (j : ℕ) → first < j → j ≤ last → loud row (pos j) ≡ true → (i : ℕ) × ((first ≤ i) × ((i < j) × ((j ≤ i + 16) × (loud row (pos i) ≡ true))))
  pub stops : (i : ℕ) → lo ≤ i → i < first → first ≤ i + 16 → loud row (pos i) ≡ false

-- ---- "no loud frame is in the range or last minus first frame of the run is under 3"
abbrev pub NoSound : List Bool → ℕ → ℕ → Type 0
NoSound row lo hi = NoneLoud row lo hi ⊎ ((first : ℕ) × ((last : ℕ) × (RunIs row lo hi first last × (last - first < 3))))

-- ---- "either a start and an end in seconds": where the first frame of the run starts, and where the last ends.
abbrev pub SoundIs : List Bool → ℕ → ℕ → Float → Float → Type 0
SoundIs row lo hi start end =
    (first : ℕ)
    × ((last : ℕ)
    × ((RunIs row lo hi first last × (3 ≤ last - first)) × ((start ≡ frame_seconds (pos first)) × (end ≡ frame_seconds (pos (last + 1))))))

-- ---- The range of a search between two times: from the frame of the first to before the frame of the second, both from zero, or to the last frame there is.
abbrev pub first_frame : Float → ℕ
first_frame from = to_nat (frame_from_zero from)

abbrev pub end_frame : List Bool → Float → ℕ
end_frame row to = min (length row) (to_nat (frame_from_zero to))
