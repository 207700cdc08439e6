-- Two lists of keys are equal as `==` of two lists compares them, key by key; and two runs of keys, compared key by key. Assumes nothing.
use Prim.Native.Nat.{ℕ, zero, suc, ◌+◌, ◌-◌, ◌≤◌, ◌<◌}
use mathlib.Core.Path.{◌≡◌, refl, sym, ap, ◌∙◌}
use mathlib.Core.Bool.{Bool, false, ◌&&◌}
use mathlib.Core.List.{List, [], ◌∷◌}
use native.Mathlib.Omega.{arith}
use native.Mathlib.Nat.{add-zero, sub-zero}
use borrow.Author.Tests.{eq-eqb, ne_eqb}
use lib.ListN.{length, get_or}
use lib.Seq.{drop-cons}
use lib.Dec.{eqb}
use Rattle.std.specs.Cmp.Lexicographic.{pointwise}
use Rattle.std.specs.List.{list_all, range_with_len}
use Rattle.loops.specs.Loops.{equal, part, same}
use Rattle.loops.specs.Parts.{only_keys}

pub equal-pointwise : (xs ys : List ℕ) → pointwise eqb xs ys ≡ equal xs ys
unfolding equal
equal-pointwise [] [] = refl
equal-pointwise [] (y ∷ ys) = refl
equal-pointwise (x ∷ xs) [] = refl
equal-pointwise (x ∷ xs) (y ∷ ys) = ap (λ t. eqb x y && t) (equal-pointwise xs ys)

-- ---- What is left of two runs, from their key k on, is equal.
unfoldable pub same_from : ℕ → List ℕ → ℕ → ℕ → ℕ → Bool
same_from n keys a b k = equal (part keys (a + k) (n - k)) (part keys (b + k) (n - k))

module _ (n : ℕ) (keys : List ℕ) (a b k : ℕ) where
  -- what is left of a run: its key k, and what is left behind it
  one_more : k < n → (c : ℕ) → c + n ≤ length keys → part keys (c + k) (n - k) ≡ get_or keys (c + k) 0 ∷ part keys (c + (k + 1)) (n - (k + 1))
  one_more more c h =
      let m : n - k ≡ suc (n - (k + 1)) = omega arith in
      let s : suc (c + k) ≡ c + (k + 1) = omega arith in
      rw (m, drop-cons keys (c + k) 0 (omega arith), s)

  module _ (more : k < n) (left : a + n ≤ length keys) (right : b + n ≤ length keys) where
    -- where both have the same key k, the next keys decide
    pub same_next : get_or keys (a + k) 0 ≡ get_or keys (b + k) 0 → same_from n keys a b k ≡ same_from n keys a b (k + 1)
    unfolding same_from equal
    same_next e = rw (one_more more a left, one_more more b right, eq-eqb (get_or keys (a + k) 0) (get_or keys (b + k) 0) e)

    -- where they have not, the runs are not equal
    pub same_stop : (get_or keys (a + k) 0 ≡ get_or keys (b + k) 0 → ⊥) → same_from n keys a b k ≡ false
    unfolding same_from equal
    same_stop e = rw (one_more more a left, one_more more b right, ne_eqb (get_or keys (a + k) 0) (get_or keys (b + k) 0) e)

-- from their first key on, it is whether the runs are the same
pub same_first : (n : ℕ) (keys : List ℕ) (a b : ℕ) → same n (only_keys keys) a b ≡ same_from n keys a b 0
unfolding same same_from
same_first n keys a b = rw (add-zero a, add-zero b, sub-zero)

-- ---- `all` of the code compares two runs key by key
unfoldable pub key_same : List ℕ → ℕ → ℕ → ℕ → Bool
key_same keys a b k = eqb (get_or keys (a + k) 0) (get_or keys (b + k) 0)

module _ (n : ℕ) (keys : List ℕ) (a b : ℕ) (left : a + n ≤ length keys) (right : b + n ≤ length keys) where
  all-from : (m k : ℕ) → k + m ≡ n → list_all (key_same keys a b) (range_with_len k m) ≡ same_from n keys a b k
  unfolding key_same same_from equal
  all-from zero k e = let z : n - k ≡ 0 = omega (arith, e) in rw z refl
  all-from (suc m) k e =
      let h : k < n = omega (arith, e) in
      rw (one_more n keys a b k h a left, one_more n keys a b k h b right) (ap (λ t. eqb (get_or keys (a + k) 0) (get_or keys (b + k) 0) && t) (all-from m (k + 1) (omega (arith, e))))

  pub all-same : list_all (key_same keys a b) (range_with_len 0 n) ≡ same n (only_keys keys) a b
  all-same = all-from n 0 (omega arith) ∙ sym (same_first n keys a b)
