-- Document 01's "What demand 3 compares": when one recording is another times a power of two, perhaps reversed, and when both reach the limit 1e-9.
-- Assumes nothing.
use Rattle.std.specs.Prelude.{ℕ, ◌*◌, ◌<◌, ◌≡◌, ◌⊎◌, Bool, List, [], ◌∷◌, ℤ, T, length, get_or, Float}
use Rattle.std.specs.Float.{nan, inf, fin, binary32}
use Rattle.std.specs.Float.Ieee.{up, down, unlike, le, fits}
use Rattle.envelope.specs.Envelope.{zero_f, frames, levels, min_peak}

-- ---- "each sample of the second is, as a number, exactly the first's times 2^k with that sign; either zero may stand for 0"
-- `fin s m e` is the number m * 2 ^ e, negative where s is true, and 2 ^ k is up k / down k: the equation is n * 2 ^ d = m * 2 ^ e * 2 ^ k.
-- `reversed` says that the sign is a minus. A NaN is no number; an infinity times 2 ^ k is that infinity, with its sign.
abbrev pub Scaled : ℤ → Bool → Float → Float → Type 0
Scaled k reversed nan y = ⊥
Scaled k reversed (inf s) nan = ⊥
Scaled k reversed (inf s) (inf r) = r ≡ unlike reversed s
Scaled k reversed (inf s) (fin r n d) = ⊥
Scaled k reversed (fin s m e) nan = ⊥
Scaled k reversed (fin s m e) (inf r) = ⊥
Scaled k reversed (fin s m e) (fin r n d) = (n * up d * (down e * down k) ≡ m * up e * up k * down d) × ((m ≡ 0) ⊎ (r ≡ unlike reversed s))

-- ---- Two samples: each is an f32, and the second is the first, scaled.
pub record Sampled (k : ℤ) (reversed : Bool) (x y : Float) : Type 0 where
  pub first : T (fits binary32 x)
  pub second : T (fits binary32 y)
  pub scaled : Scaled k reversed x y

-- ---- "equally many", and place by place in the relation R
pub data Pairwise (R : Float → Float → Type 0) : List Float → List Float → Type 0 where
  none : Pairwise R [] []
  next : {x y : Float} {xs ys : List Float} → R x y → Pairwise R xs ys → Pairwise R (x ∷ xs) (y ∷ ys)

-- ---- "The two recordings have equally many samples. One whole number k, of either sign or 0, and one sign serve for all of them"
abbrev pub Recorded : ℤ → Bool → List Float → List Float → Type 0
Recorded k reversed xs ys = Pairwise (Sampled k reversed) xs ys

-- ---- The loudest level is at least 1e-9, "the double in the peak": some level is. The maximum itself is not named, for `peak` has 1e-9 in it.
abbrev pub LimitReached : List Float → Type 0
LimitReached ls = (i : ℕ) × (i < length ls) × T (le min_peak (get_or ls i zero_f))

-- ---- Demand 3's condition: there is no frame, or both loudest levels are at least 1e-9.
abbrev pub Loudest : List Float → List Float → Type 0
Loudest xs ys = (frames xs ≡ 0) ⊎ (LimitReached (levels xs) × LimitReached (levels ys))
