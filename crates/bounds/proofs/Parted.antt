-- What holds of each element of a list holds of each element of a part of it, and of the list with a part replaced by one of which it holds. So a bound on times is
-- kept where words a to e are lent and come back within it. Assumes nothing.
use Prim.Native.Nat.{ℕ, ◌+◌, ◌-◌, ◌<◌, ◌≤◌}
use mathlib.Core.List.{List, ◌++◌}
use mathlib.Core.Path.{◌≡◌, sym, subst}
use native.Mathlib.Omega.{arith}
use lib.ListN.{length, get_or, take, drop, length-take, length-drop}
use lib.Seq.{get_or-take, get_or-drop}
use lib.Ieee.{nan}
use Rattle.base.specs.Words.{Edges, part, with_part, part_edges, on_part}
use Rattle.loops.proofs.Kept.{all_append, all-at, at_all}
use Rattle.bounds.specs.Bounds.{UnderIn, EdgesUnderIn}
use Rattle.bounds.proofs.Rounding.{under_more}

-- ---- P of each element
module _ {A : Type 0} (P : A → Type 0) (d : A) where
  abbrev pub Each : List A → Type 0
  Each xs = (i : ℕ) → i < length xs → P (get_or xs i d)

  pub each_append : (xs ys : List A) → Each xs → Each ys → Each (xs ++ ys)
  each_append xs ys h k = all-at P d (xs ++ ys) (all_append P xs ys (at_all P d xs h) (at_all P d ys k))

  pub each_take : (n : ℕ) (xs : List A) → Each xs → Each (take n xs)
  each_take n xs h i l = let m = length-take n xs in subst P (sym (get_or-take n xs i d (omega arith))) (h i (omega arith))

  each-drop : (n : ℕ) (xs : List A) → Each xs → Each (drop n xs)
  each-drop n xs h i l = let m = length-drop n xs in subst P (sym (get_or-drop n xs i d)) (h (n + i) (omega arith))

  pub each_part : (a e : ℕ) (xs : List A) → Each xs → Each (part a e xs)
  each_part a e xs h = each_take (e - a) (drop a xs) (each-drop a xs h)

  each-with : (a e : ℕ) (xs ys : List A) → Each xs → Each ys → Each (with_part a e xs ys)
  each-with a e xs ys h k =
      each_append (take a xs) (ys ++ drop (e - a) (drop a xs)) (each_take a xs h) (each_append ys (drop (e - a) (drop a xs)) k (each-drop (e - a) (drop a xs) (each-drop a xs h)))

-- ---- parts of lists that are as long as each other
pub part_same : {A B : Type 0} (a e : ℕ) (xs : List A) (ys : List B) → length xs ≡ length ys → length (part a e xs) ≡ length (part a e ys)
part_same a e xs ys h =
    let l = length-take (e - a) (drop a xs) in
    let m = length-take (e - a) (drop a ys) in omega (arith, length-drop a xs, length-drop a ys)

pub part-few : {A : Type 0} (a e n : ℕ) (xs : List A) → length xs ≤ n → length (part a e xs) ≤ n
part-few a e n xs h = let l = length-take (e - a) (drop a xs) in omega (arith, length-drop a xs)

-- ---- words a to e
module _ (d b a e : ℕ) (f : Edges → Edges) (es : Edges) where
  pub on_part-under : EdgesUnderIn d b es → EdgesUnderIn d b (f (part_edges a e es)) → EdgesUnderIn d b (on_part a e f es)
  unfolding on_part
  on_part-under u v = record {
    starts = each-with (UnderIn d b) nan a e es.starts (f (part_edges a e es)).starts u.starts v.starts;
    ends = each-with (UnderIn d b) nan a e es.ends (f (part_edges a e es)).ends u.ends v.ends;
  }

pub edges_more : (d a b : ℕ) (es : Edges) → a ≤ b → EdgesUnderIn d a es → EdgesUnderIn d b es
edges_more d a b es l u = record {
  starts = λ i h. under_more d a b (get_or es.starts i nan) l (u.starts i h);
  ends = λ i h. under_more d a b (get_or es.ends i nan) l (u.ends i h);
}
