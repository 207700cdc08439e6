-- The sum of the letters; of the first words; and how large it can be. Assumes nothing.
use Prim.Native.Nat.{ℕ, zero, suc, ◌+◌, ◌*◌, ◌≤◌, ◌<◌}
use mathlib.Core.Path.{◌≡◌, refl, ◌∙◌}
use mathlib.Core.List.{List, [], ◌∷◌}
use native.Mathlib.Nat.{zero-add}
use native.Mathlib.Omega.{arith}
use lib.ListN.{length, take, drop, get_or}
use Rattle.std.specs.List.{sum as sum_all}
use Rattle.base.specs.Loop.{fold}
use Rattle.base.proofs.Loops.{fold-is, fold_done}
use Rattle.share.specs.Share.{sum}

-- ---- past the last letter, the sum so far is the sum
pub sum_done : (letters : List ℕ) (n i : ℕ) → length letters ≤ i → fold ◌+◌ n (drop i letters) ≡ n
sum_done letters n i h = fold_done ◌+◌ letters i n h

-- ---- the first letters apart
fold-plus : (n : ℕ) (letters : List ℕ) → fold ◌+◌ n letters ≡ n + fold ◌+◌ 0 letters
unfolding fold
fold-plus n [] = omega arith
fold-plus n (m ∷ ms) = rw (fold-plus (n + m) ms, zero-add m, fold-plus m ms) (omega arith)

sum-cons : (n : ℕ) (letters : List ℕ) → sum (n ∷ letters) ≡ n + sum letters
unfolding sum fold
sum-cons n letters = rw zero-add (fold-plus n letters)

pub sum-nil : sum [] ≡ 0
unfolding sum fold
sum-nil = refl

-- ---- it is the sum of the list
pub sum-is : (letters : List ℕ) → sum_all letters ≡ sum letters
unfolding sum
sum-is letters = fold-is ◌+◌ 0 letters

-- ---- the first i words, and one more
pub sum-take : (letters : List ℕ) (i : ℕ) → i < length letters → sum (take (suc i) letters) ≡ sum (take i letters) + get_or letters i 0
sum-take [] i h = absurd (omega arith)
sum-take (n ∷ ns) zero h = sum-cons n [] ∙ rw sum-nil (omega arith)
sum-take (n ∷ ns) (suc i) h =
    let l = sum-take ns i (omega arith) in rw (sum-cons n (take (suc i) ns), sum-cons n (take i ns)) (omega arith)

pub sum-take-most : (letters : List ℕ) (i : ℕ) → sum (take i letters) ≤ sum letters
sum-take-most letters zero = rw sum-nil (omega arith)
sum-take-most [] (suc i) = omega arith
sum-take-most (n ∷ ns) (suc i) = let l = sum-take-most ns i in rw (sum-cons n (take i ns), sum-cons n ns) (omega arith)

-- ---- of words of at least a and at most b letters
module _ (a b : ℕ) where
  pub sum-between : (letters : List ℕ) → ((i : ℕ) → i < length letters → (a ≤ get_or letters i 0) × (get_or letters i 0 ≤ b)) → (a * length letters ≤ sum letters) × (sum letters ≤ b * length letters)
  sum-between [] h = rw sum-nil (omega arith)
  sum-between (n ∷ ns) h =
      let l = sum-between ns (λ i k. h (suc i) (omega arith)) in
      let m = h 0 (omega arith) in rw (sum-cons n ns) (omega arith)
