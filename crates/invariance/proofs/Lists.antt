-- Two lists that are related place by place (`Pairwise`): their lengths, parts and tables, and the relation changed at each place. Assumes nothing.
use mathlib.Core.Path.{◌≡◌, refl, ap, ap₂}
use mathlib.Core.Bool.{Bool}
use mathlib.Core.List.{List, ◌∷◌, map}
use Prim.Native.Nat.{ℕ, zero, suc}
use lib.ListN.{length, take, drop}
use lib.Ieee.{Float}
use Rattle.base.specs.Loop.{table}
use Rattle.invariance.specs.Scaled.{Pairwise, none, next}

module _ {R : Float → Float → Type 0} where
  pub pairwise-length : {xs ys : List Float} → Pairwise R xs ys → length xs ≡ length ys
  pairwise-length none = refl
  pairwise-length (next h e) = ap suc (pairwise-length e)

  pub pairwise_take : {xs ys : List Float} (n : ℕ) → Pairwise R xs ys → Pairwise R (take n xs) (take n ys)
  pairwise_take zero e = none
  pairwise_take (suc n) none = none
  pairwise_take (suc n) (next h e) = next h (pairwise_take n e)

  pub pairwise_drop : {xs ys : List Float} (n : ℕ) → Pairwise R xs ys → Pairwise R (drop n xs) (drop n ys)
  pairwise_drop zero e = e
  pairwise_drop (suc n) none = none
  pairwise_drop (suc n) (next h e) = pairwise_drop n e

  pub pairwise-table : (f g : ℕ → Float) → ((k : ℕ) → R (f k) (g k)) → (n k : ℕ) → Pairwise R (table f n k) (table g n k)
  unfolding table
  pairwise-table f g h zero k = none
  pairwise-table f g h (suc n) k = next (h k) (pairwise-table f g h n (suc k))

  -- a test that answers alike at each place
  pub pairwise-tests : (p q : Float → Bool) → ((x y : Float) → R x y → p x ≡ q y) → {xs ys : List Float} → Pairwise R xs ys → map p xs ≡ map q ys
  pairwise-tests p q h none = refl
  pairwise-tests p q h (next {x} {y} r e) = ap₂ ◌∷◌ (h x y r) (pairwise-tests p q h e)

  module _ {S : Float → Float → Type 0} where
    pub pairwise-each : ((x y : Float) → R x y → S x y) → {xs ys : List Float} → Pairwise R xs ys → Pairwise S xs ys
    pairwise-each f none = none
    pairwise-each f (next {x} {y} h e) = next (f x y h) (pairwise-each f e)

    pub pairwise-turned : ((x y : Float) → R x y → S y x) → {xs ys : List Float} → Pairwise R xs ys → Pairwise S ys xs
    pairwise-turned f none = none
    pairwise-turned f (next {x} {y} h e) = next (f x y h) (pairwise-turned f e)
