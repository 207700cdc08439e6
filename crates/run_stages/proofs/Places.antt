-- Lists in their places, seen by parts: the first places lent and given back. Assumes nothing.
use Prim.Native.Nat.{ℕ, ◌+◌, ◌-◌, ◌≤◌}
use mathlib.Core.Path.{◌≡◌, sym, ap, ◌∙◌}
use mathlib.Core.List.{List, ◌++◌, append-nil, append_assoc}
use native.Mathlib.Omega.{arith}
use lib.ListN.{length, replicate, length-append, replicate-append-replicate}
use lib.Seq.{take_at, drop_at}
use Rattle.base.specs.Words.{part, with_part, in_places}

module _ {A : Type 0} (none : A) where
  -- ---- as many places as there are elements
  pub places-all : (n : ℕ) (xs : List A) → length xs ≡ n → xs ≡ in_places none n xs
  places-all n xs l = let z : n - length xs ≡ 0 = omega arith in rw z (sym (append-nil xs))

  -- ---- the first places hold the list itself
  pub places-first : (m n : ℕ) (xs : List A) → length xs ≡ n → part 0 n (in_places none m xs) ≡ xs
  places-first m n xs l = let z : n - 0 ≡ n = omega arith in rw z (take_at xs (replicate (m - length xs) none) n l)

  -- ---- another list of that length, given back in the first places
  pub places-back : (m n : ℕ) (xs ys : List A) → length xs ≡ n → length ys ≡ n → with_part 0 n (in_places none m xs) ys ≡ in_places none m ys
  places-back m n xs ys l k =
      let z : n - 0 ≡ n = omega arith in
      let e : m - length xs ≡ m - length ys = omega arith in
      rw (z, drop_at xs (replicate (m - length xs) none) n l, e)

  -- ---- the first places lent, of which some became empty
  pub places-more : (m n : ℕ) (xs ys : List A) → length xs ≡ n → length (in_places none n ys) ≡ n → n ≤ m → with_part 0 n (in_places none m xs) (in_places none n ys) ≡ in_places none m ys
  places-more m n xs ys l k h =
      let z : n - 0 ≡ n = omega arith in
      let some : length ys ≤ n = omega (arith, k, length-append ys (replicate (n - length ys) none)) in
      let sum : (n - length ys) + (m - length xs) ≡ m - length ys = omega arith in
      let rest : replicate (n - length ys) none ++ replicate (m - length xs) none ≡ replicate (m - length ys) none =
      replicate-append-replicate (n - length ys) (m - length xs) none ∙ ap (λ (j : ℕ). replicate j none) sum in
      rw (z, drop_at xs (replicate (m - length xs) none) n l) (append_assoc ys (replicate (n - length ys) none) (replicate (m - length xs) none) ∙ ap (λ (zs : List A). ys ++ zs) rest)
