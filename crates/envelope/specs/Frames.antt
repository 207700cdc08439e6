-- Which frames of an envelope are loud, and which are quiet; and the searches among them. Assumes nothing.
use Rattle.std.specs.Prelude.{ℕ, zero, suc, ◌+◌, ◌-◌, Bool, not, cond, List, pos, Option, Some, None}
use Rattle.envelope.specs.Envelope.{loud_row, quiet_row, loud}
use Rattle.envelope.specs.declared.view.Envelope.{Envelope}

abbrev pub loud_in : Envelope → List Bool
loud_in e = loud_row e.floor e.levels.now

abbrev pub quiet_in : Envelope → List Bool
quiet_in e = quiet_row e.floor e.levels.now

-- ======== The searches

-- ---- env.loud(k), where `want` is true; !env.loud(k), where it is false (onsets.rs)
abbrev pub wanted : List Bool → Bool → ℕ → Bool
wanted row want k = cond want (loud row (pos k)) (not (loud row (pos k)))

-- ---- (k..k + n).find(|&k| env.loud(k)), or of !env.loud(k) (onsets.rs)
unfoldable pub first_of : List Bool → Bool → ℕ → ℕ → Option ℕ
first_of row want zero k = None
first_of row want (suc n) k = cond (wanted row want k) (Some k) (first_of row want n (suc k))

-- ---- (k..k + n).rev().find(|&k| env.loud(k)): no line of the Rust; a sound that goes on is looked for from the back
unfoldable pub last_of : List Bool → ℕ → ℕ → Option ℕ
last_of row zero k = None
last_of row (suc n) k = cond (loud row (pos (k + n))) (Some (k + n)) (last_of row n k)

-- ---- (lo..hi).find(..) and (lo..hi).rev().find(..)
abbrev pub first_frame : List Bool → Bool → ℕ → ℕ → Option ℕ
first_frame row want lo hi = first_of row want (hi - lo) lo

abbrev pub last_frame : List Bool → ℕ → ℕ → Option ℕ
last_frame row lo hi = last_of row (hi - lo) lo
