-- A list without the places from p to e: its length, its parts, and how it stays the same when the element at e moves to p. Assumes nothing.
use Prim.Native.Nat.{ℕ, zero, suc, ◌+◌, ◌-◌, ◌≤◌, ◌<◌}
use mathlib.Core.Path.{◌≡◌, refl, sym, ap, ◌∙◌}
use mathlib.Core.List.{List, [], ◌∷◌, ◌++◌, append-nil}
use native.Mathlib.Omega.{arith}
use native.Mathlib.Numerals.{add-one}
use lib.ListN.{length, take, drop, get_or, set, length-append, length-drop, drop_of_length-le}
use lib.Seq.{get_or-take, length-take-le, take_at, drop-append-add, drop-append-le, take-append-le, drop-drop, take-take, take-suc-set, drop-set-lt, take-set-lt, drop-cons, append_snoc}
use Rattle.loops.specs.Loops.{drained}

module _ {A : Type 0} where
  -- a part of the first p
  pub part-first : (i n p : ℕ) (xs : List A) → i + n ≤ p → take n (drop i (take p xs)) ≡ take n (drop i xs)
  part-first zero n p xs h = take-take n p xs (omega arith)
  part-first (suc i) n zero xs h = absurd (omega arith)
  part-first (suc i) n (suc p) [] h = refl
  part-first (suc i) n (suc p) (x ∷ xs) h = part-first i n p xs (omega arith)

  module _ (xs : List A) (p e : ℕ) (room : p ≤ length xs) where
    front : length (take p xs) ≡ p
    front = length-take-le p xs room

    pub length-drained : length (drained p e xs) ≡ p + (length xs - e)
    length-drained = simp (length-append, length-drop, front) refl

    behind : (j : ℕ) → drop (p + j) (drained p e xs) ≡ drop (e + j) xs
    behind j = ap (λ (m : ℕ). drop (m + j) (drained p e xs)) (sym front) ∙ drop-append-add (take p xs) (drop e xs) j ∙ drop-drop j e xs

    pub part-front : (i n : ℕ) → i + n ≤ p → take n (drop i (drained p e xs)) ≡ take n (drop i xs)
    part-front i n h =
        ap (take n) (drop-append-le i (take p xs) (drop e xs) (omega (arith, front)))
        ∙ take-append-le n (drop i (take p xs)) (drop e xs) (rw (length-drop i (take p xs), front) (omega arith)) ∙ part-first i n p xs h

    pub part-back : (j n : ℕ) → take n (drop (p + j) (drained p e xs)) ≡ take n (drop (e + j) xs)
    part-back j n = ap (take n) (behind j)

    -- drained again from the same place
    pub drained-again : (j : ℕ) → drained p (p + j) (drained p e xs) ≡ drained p (e + j) xs
    drained-again j = ap (λ (ys : List A). ys ++ drop (p + j) (drained p e xs)) (take_at (take p xs) (drop e xs) p front) ∙ ap (λ (ys : List A). take p xs ++ ys) (behind j)

    pub drained-rest : length xs ≤ e → drained p e xs ≡ take p xs
    drained-rest h = ap (λ (ys : List A). take p xs ++ ys) (drop_of_length-le xs h) ∙ append-nil (take p xs)

  move-whole : (xs : List A) (p e : ℕ) (v : A) → p ≤ e → e < length xs → drop e xs ≡ v ∷ drop (suc e) xs → drained p e xs ≡ drained (p + 1) (e + 1) (set xs p v)
  move-whole xs p e v h k cut =
      rw (add-one p, add-one e, cut) (sym (ap (λ (ys : List A). ys ++ drop (suc e) (set xs p v)) (take-suc-set xs p v (omega arith))
      ∙ ap (λ (ys : List A). (take p xs ++ (v ∷ [])) ++ ys) (drop-set-lt (suc e) xs p v (omega arith)) ∙ append_snoc (take p xs) v (drop (suc e) xs)))

  -- of the first m places: the element at e moves to p
  pub drained-move : (xs : List A) (m p e : ℕ) (d : A) → p ≤ e → e < m → m ≤ length xs
      → drained p e (take m xs) ≡ drained (p + 1) (e + 1) (take m (set xs p (get_or xs e d)))
  drained-move xs m p e d h k l =
      let n : length (take m xs) ≡ m = length-take-le m xs l in
      move-whole (take m xs) p e (get_or xs e d) h (omega arith)
      (drop-cons (take m xs) e d (omega arith) ∙ ap (λ (v : A). v ∷ drop (suc e) (take m xs)) (get_or-take m xs e d k))
      ∙ ap (drained (p + 1) (e + 1)) (sym (take-set-lt m xs p (get_or xs e d) (omega arith)))
