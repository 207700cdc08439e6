-- A list of which the part from a to e was lent, and came back as ys: its length, and its elements before and after the part.
-- Assumes nothing.
use mathlib.Core.Path.{◌≡◌, sym, ap, ◌∙◌}
use mathlib.Core.List.{List, ◌++◌}
use Prim.Native.Nat.{ℕ, ◌+◌, ◌-◌, ◌≤◌, ◌<◌}
use native.Mathlib.Omega.{arith}
use lib.ListN.{length, take, drop, get_or, length-append, length-drop, get_or-append}
use lib.Seq.{length-take-le, get_or-append-add, get_or-take, get_or-drop}
use Rattle.base.specs.Words.{with_part}

module _ {A : Type 0} (xs ys : List A) (a e : ℕ) (from : a ≤ e) (to : e ≤ length xs) (lent : length ys ≡ e - a) where
  abbrev pub joined : List A
  joined = with_part a e xs ys

  front : length (take a xs) ≡ a
  front = length-take-le a xs (omega arith)

  -- element i of what follows the first a
  rest_at : (i : ℕ) (d : A) → get_or joined (a + i) d ≡ get_or (ys ++ drop (e - a) (drop a xs)) i d
  rest_at i d = ap (λ (n : ℕ). get_or joined (n + i) d) (sym front) ∙ get_or-append-add (take a xs) (ys ++ drop (e - a) (drop a xs)) i d

  pub part_length : length joined ≡ length xs
  part_length = simp (length-append, length-drop, front) (omega arith)

  pub part-before : (i : ℕ) (d : A) → i < a → get_or joined i d ≡ get_or xs i d
  part-before i d h = get_or-append (take a xs) (ys ++ drop (e - a) (drop a xs)) d i (omega (arith, front)) ∙ get_or-take a xs i d h

  pub part-after : (i : ℕ) (d : A) → get_or joined (e + i) d ≡ get_or xs (e + i) d
  part-after i d =
      let n : e + i ≡ a + (length ys + i) = omega arith in
      let m : a + (e - a + i) ≡ e + i = omega arith in
      ap (λ (k : ℕ). get_or joined k d) n ∙ rest_at (length ys + i) d ∙ get_or-append-add ys (drop (e - a) (drop a xs)) i d
      ∙ get_or-drop (e - a) (drop a xs) i d ∙ get_or-drop a xs (e - a + i) d ∙ ap (λ (k : ℕ). get_or xs k d) m
