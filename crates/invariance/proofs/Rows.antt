-- THE THEOREMS. A recording is multiplied by a power of two, and perhaps reversed. Then each level is multiplied by that power, exactly; and where
-- there is no frame or both recordings reach 1e-9, the same frames are loud, and the same are quiet. A power below 1 is one above 1 with the recordings
-- exchanged, so all is proved for 2 ^ t with a t of ℕ. Assumes nothing.
use mathlib.Core.Path.{◌≡◌, refl, sym, ap, ◌∙◌, subst₂}
use mathlib.Core.Logic.{inl, inr, ⊎_elim}
use mathlib.Core.Bool.{Bool, false}
use mathlib.Core.List.{List, []}
use Prim.Native.Nat.{ℕ, suc, ◌*◌, ◌/◌, ◌^◌}
use native.Mathlib.Nat.{mul-one}
use lib.IntN.{ℤ, pos, negsuc}
use lib.Ieee.{Float, binary64, lt, le}
use Rattle.base.specs.Loop.{table}
use Rattle.envelope.specs.Envelope.{hop, frames, levels, floor, loud_row, quiet_row}
use Rattle.invariance.specs.Scaled.{Scaled, Recorded, Pairwise, LimitReached, Loudest}
use Rattle.invariance.proofs.Lists.{pairwise-length, pairwise-tests, pairwise-each, pairwise-turned}
use Rattle.invariance.proofs.Twin.{Twin}
use Rattle.invariance.proofs.Compare.{twin-lt, twin-le}
use Rattle.invariance.proofs.Infinite.{Infinite, Pair, finite-or-not, rows-infinite}
use Rattle.invariance.proofs.Sizes.{scaled-units}
use Rattle.invariance.proofs.Samples.{louder, softer}
use Rattle.invariance.proofs.Levels.{levels-twin}
use Rattle.invariance.proofs.Floor.{floor-twin}

-- ---- a pair of levels
infinite-scaled : (k : ℤ) (x y : Float) → Infinite x y → Scaled k false x y
infinite-scaled k x y p = subst₂ (Scaled k false) (sym p.0) (sym p.1) refl

louder-scaled : (t : ℕ) (x y : Float) → Pair t x y → Scaled (pos t) false x y
louder-scaled t x y (inl p) = scaled-units binary64 (pos t) x y p.at (p.at * 2 ^ t) p.left p.right (mul-one (p.at * 2 ^ t))
louder-scaled t x y (inr p) = infinite-scaled (pos t) x y p

softer-scaled : (j : ℕ) (y x : Float) → Pair (suc j) y x → Scaled (negsuc j) false x y
softer-scaled j y x (inl p) = scaled-units binary64 (negsuc j) x y (p.at * 2 ^ suc j) p.at p.right p.left (sym (mul-one (p.at * 2 ^ suc j)))
softer-scaled j y x (inr p) = infinite-scaled (negsuc j) x y (p.1, p.0)

-- ---- the levels are multiplied by 2 ^ k, and not reversed
pub levels-scaled : (k : ℤ) (reversed : Bool) (xs ys : List Float) → Recorded k reversed xs ys → Pairwise (Scaled k false) (levels xs) (levels ys)
levels-scaled (pos t) reversed xs ys r = pairwise-each (louder-scaled t) (levels-twin t (pairwise-each (louder t reversed) r))
levels-scaled (negsuc j) reversed xs ys r = pairwise-turned (softer-scaled j) (levels-twin (suc j) (pairwise-turned (softer j reversed) r))

finite-rows : (t : ℕ) (ls ms : List Float) → Pairwise (Twin binary64 t) ls ms → LimitReached ls → LimitReached ms → (loud_row (floor ls) ls ≡ loud_row (floor ms) ms) × (quiet_row (floor ls) ls ≡ quiet_row (floor ms) ms)
unfolding loud_row quiet_row
finite-rows t ls ms e h g =
    let p = floor-twin t e h g in (
      pairwise-tests (λ v. lt (floor ls) v) (λ v. lt (floor ms) v) (λ x y q. twin-lt binary64 t (floor ls) (floor ms) x y p q) e,
      pairwise-tests (λ v. le v (floor ls)) (λ v. le v (floor ms)) (λ x y q. twin-le binary64 t x y (floor ls) (floor ms) q p) e,
    )

rows : (t : ℕ) (ls ms : List Float) → Pairwise (Pair t) ls ms → LimitReached ls → LimitReached ms → (loud_row (floor ls) ls ≡ loud_row (floor ms) ms) × (quiet_row (floor ls) ls ≡ quiet_row (floor ms) ms)
rows t ls ms e h g = ⊎_elim (λ d. finite-rows t ls ms d h g) (λ p. rows-infinite t (floor ls) (floor ms) e p) (finite-or-not t e)

no-level : (xs : List Float) → frames xs ≡ 0 → levels xs ≡ []
unfolding levels table
no-level xs z = rw z

-- ---- the same frames are loud, and the same are quiet
pub rows_alike : (k : ℤ) (reversed : Bool) (xs ys : List Float) → Recorded k reversed xs ys → Loudest xs ys
    → (loud_row (floor (levels xs)) (levels xs) ≡ loud_row (floor (levels ys)) (levels ys)) × (quiet_row (floor (levels xs)) (levels xs) ≡ quiet_row (floor (levels ys)) (levels ys))
unfolding loud_row quiet_row
rows_alike k reversed xs ys r (inl z) = rw (no-level xs z, no-level ys (ap (λ (n : ℕ). n / hop) (sym (pairwise-length r)) ∙ z)) (refl, refl)
rows_alike (pos t) reversed xs ys r (inr h) = rows t (levels xs) (levels ys) (levels-twin t (pairwise-each (louder t reversed) r)) h.0 h.1
rows_alike (negsuc j) reversed xs ys r (inr h) =
    let p = rows (suc j) (levels ys) (levels xs) (levels-twin (suc j) (pairwise-turned (softer j reversed) r)) h.1 h.0 in (sym p.0, sym p.1)
