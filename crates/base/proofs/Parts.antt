-- A part from a to e that was lent and came back: what stands before and behind it, an empty part, and a part filled place by place. Assumes nothing.
use Prim.Native.Nat.{ℕ, ◌+◌, ◌-◌, ◌≤◌, ◌<◌}
use mathlib.Core.Path.{◌≡◌, sym, ap, ◌∙◌}
use mathlib.Core.List.{List, [], ◌++◌, append_assoc}
use native.Mathlib.Omega.{arith}
use lib.ListN.{length, take, drop, replicate, length-append, length-drop, take-append-drop}
use lib.Seq.{length-take-le, take-add, take_at, drop_at, drop-drop}
use lib.Ieee.{Float, nan}
use Rattle.base.specs.Words.{Edges, edges, times, times_at, part, with_part, part_edges, on_part}
use Rattle.base.proofs.Lists.{part-before, part-after}

module _ {A : Type 0} where
  -- ---- nothing is lent
  pub part_none : (a : ℕ) (xs : List A) → part a a xs ≡ []
  part_none a xs = let z : a - a ≡ 0 = omega arith in rw z

  pub back_none : (a : ℕ) (xs : List A) → with_part a a xs [] ≡ xs
  back_none a xs = let z : a - a ≡ 0 = omega arith in rw z (take-append-drop a xs)

  pub part-long : (a e : ℕ) (xs : List A) → e ≤ length xs → length (part a e xs) ≡ e - a
  part-long a e xs h = length-take-le (e - a) (drop a xs) (rw (length-drop a xs) (omega arith))

  -- ---- what stands behind the part
  rest-is : (a e : ℕ) (xs : List A) → a ≤ e → drop (e - a) (drop a xs) ≡ drop e xs
  rest-is a e xs h = let z : a + (e - a) ≡ e = omega arith in drop-drop (e - a) a xs ∙ ap (λ (k : ℕ). drop k xs) z

  module _ (a e : ℕ) (xs ys : List A) (h : a ≤ e) (k : e ≤ length xs) (lent : length ys ≡ e - a) where
    front : length (take a xs ++ ys) ≡ e
    front = rw (length-append, length-take-le a xs (omega arith), lent) (omega arith)

    cut : with_part a e xs ys ≡ (take a xs ++ ys) ++ drop e xs
    cut = rw (rest-is a e xs h) (sym (append_assoc (take a xs) ys (drop e xs)))

    pub back-first : take e (with_part a e xs ys) ≡ take a xs ++ ys
    back-first = rw cut (take_at (take a xs ++ ys) (drop e xs) e front)

    pub back-rest : drop e (with_part a e xs ys) ≡ drop e xs
    back-rest = rw cut (drop_at (take a xs ++ ys) (drop e xs) e front)

  -- ---- the first a, and the part behind them
  pub take_part : (a e : ℕ) (xs : List A) → a ≤ e → take a xs ++ part a e xs ≡ take e xs
  take_part a e xs h = let z : a + (e - a) ≡ e = omega arith in sym (ap (λ (k : ℕ). take k xs) (sym z) ∙ take-add a (e - a) xs)

  -- ---- places i to e filled with v
  unfoldable pub filled : ℕ → ℕ → A → List A → List A
  filled i e v xs = with_part i e xs (replicate (e - i) v)

  -- with none left to fill, it is the list
  pub fill_done : (i e : ℕ) (v : A) (xs : List A) → i ≤ e → e ≤ i → filled i e v xs ≡ xs
  unfolding filled
  fill_done i e v xs h k = let z : e ≡ i = omega arith in let n : i - i ≡ 0 = omega arith in rw (z, n) (take-append-drop i xs)

-- ---- both lists of times
pub part-made : (a e : ℕ) (f : Edges → Edges) (es : Edges) {s t : List Float} → edges s t ≡ f (part_edges a e es)
    → edges (with_part a e es.starts s) (with_part a e es.ends t) ≡ on_part a e f es
unfolding on_part
part-made a e f es h = ap (λ (v : Edges). edges (with_part a e es.starts v.starts) (with_part a e es.ends v.ends)) h

-- ---- how long the two lists are
abbrev pub long : Edges → ℕ × ℕ
long es = (length es.starts, length es.ends)

pub both : {a b c d : ℕ} → a ≡ c → b ≡ d → ◌≡◌ {A = ℕ × ℕ} (a, b) (c, d)
both p q = rw (p, q)

-- ---- a part that comes back as long as it was leaves the list as long as it was
module _ {A : Type 0} where
  split : (n : ℕ) (xs : List A) → length (take n xs) + length (drop n xs) ≡ length xs
  split n xs = sym (length-append (take n xs) (drop n xs)) ∙ ap length (take-append-drop n xs)

  with_part-long : (a e : ℕ) (xs ys : List A) → length ys ≡ length (part a e xs) → length (with_part a e xs ys) ≡ length xs
  with_part-long a e xs ys h = simp length-append (omega (arith, split a xs, split (e - a) (drop a xs), h))

pub on_part-long : (a e : ℕ) (f : Edges → Edges) (es : Edges) → long (f (part_edges a e es)) ≡ long (part_edges a e es) → long (on_part a e f es) ≡ long es
unfolding on_part part_edges
on_part-long a e f es h =
    let v = f (part_edges a e es) in
    both (with_part-long a e es.starts v.starts (ap (λ (n : ℕ × ℕ). n.0) h)) (with_part-long a e es.ends v.ends (ap (λ (n : ℕ × ℕ). n.1) h))

-- ---- a word's two times
pub times-alike : {s s' t t' : Float} → s ≡ s' → t ≡ t' → times s t ≡ times s' t'
times-alike p q = rw (p, q)

-- ---- a word before the part, and one behind it, stays as it is
module _ (a e : ℕ) (f : Edges → Edges) (es : Edges) (from : a ≤ e) (to : e ≤ length es.starts) (to-2 : e ≤ length es.ends) (kept : long (f (part_edges a e es)) ≡ long (part_edges a e es)) where
  starts-lent : length (f (part_edges a e es)).starts ≡ e - a
  starts-lent = ap (λ (n : ℕ × ℕ). n.0) kept ∙ unfold part_edges in part-long a e es.starts to

  ends-lent : length (f (part_edges a e es)).ends ≡ e - a
  ends-lent = ap (λ (n : ℕ × ℕ). n.1) kept ∙ unfold part_edges in part-long a e es.ends to-2

  pub on_part-before : (j : ℕ) → j < a → times_at (on_part a e f es) j ≡ times_at es j
  unfolding on_part
  on_part-before j h =
      times-alike (part-before es.starts (f (part_edges a e es)).starts a e from to starts-lent j nan h) (part-before es.ends (f (part_edges a e es)).ends a e from to-2 ends-lent j nan h)

  pub on_part-after : (j : ℕ) → e ≤ j → times_at (on_part a e f es) j ≡ times_at es j
  unfolding on_part
  on_part-after j h =
      let z : e + (j - e) ≡ j = omega arith in
      rw (← z) (times-alike (part-after es.starts (f (part_edges a e es)).starts a e from to starts-lent (j - e) nan) (part-after es.ends (f (part_edges a e es)).ends a e from to-2 ends-lent (j - e) nan))
