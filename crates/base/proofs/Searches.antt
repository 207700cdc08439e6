-- The code's searches, `find` over a range upwards or downwards, stop where those of the definitions do, `up` and `down`. Assumes nothing.
use Prim.Native.Nat.{ℕ, zero, suc, ◌+◌, ◌-◌, ◌<◌, ◌≤◌}
use mathlib.Core.Path.{◌≡◌, refl, sym, ap, subst, ◌∙◌}
use mathlib.Core.Bool.{Bool, true, false, not, true≢false}
use mathlib.Core.List.{List, [], ◌∷◌}
use native.Mathlib.Omega.{arith}
use lib.Dec.{ltb}
use lib.ListN.{length, get_or}
use borrow.Author.Tests.{ltb-true, ltb-false}
use denote.Ref.{Bor}
use denote.Param.Members.{Mut}
use Rattle.std.specs.Bool.{⊤}
use Rattle.std.specs.Fn.{CalledAt}
use Rattle.std.specs.Iterator.{YieldsThen}
use Rattle.std.specs.List.{FoldsTo, AllWithin, HoldsAt}
use Rattle.std.specs.Prelude.{Option, Some, None, MatchOption, IfSome, unwrap_or}
use Rattle.std.specs.Range.{range_inclusive_left}
use Rattle.std.specs.declared.iter.Rev.{Rev}
use Rattle.std.specs.declared.ops.Range.{Range}
use Rattle.std.specs.declared.ops.RangeInclusive.{RangeInclusive}
use Rattle.std.proofs.iter.Yields.{nat_range_steps}
use Rattle.std.proofs.lemmas.Iterator.{YieldsList, first_from_find, first_from_Range}
use Rattle.std.proofs.lemmas.Iterator.Consumers.{YieldsList-from_shown}
use Rattle.base.specs.Loop.{up, down}
use Rattle.base.proofs.Loops.{up-ge, up_le, up-seen, up-found, down_le, down-seen, down-found}

-- ---- the place where the test fails, or the last one, and before which it holds
module _ (p : ℕ → Bool) where
  pub up-at : (n b r : ℕ) → b ≤ r → r ≤ b + n → (r < b + n → p r ≡ false) → ((k : ℕ) → b ≤ k → k < r → p k ≡ true) → r ≡ up p n b
  up-at n b r low high stop pass = go (ltb (up p n b) r) (ltb r (up p n b)) refl refl where
    go : (t u : Bool) → ltb (up p n b) r ≡ t → ltb r (up p n b) ≡ u → r ≡ up p n b
    go true u e f = let h : up p n b < r = ltb-true _ _ e in absurd (true≢false (sym (pass (up p n b) (up-ge p n b) h) ∙ up-found p n b (omega arith)))
    go false true e f = let h : r < up p n b = ltb-true _ _ f in absurd (true≢false (sym (up-seen p n b r low h) ∙ stop (omega (arith, up_le p n b))))
    go false false e f = omega (arith, ltb-false _ _ e, ltb-false _ _ f)

  pub down-at : (n r : ℕ) → r ≤ n → (0 < r → p r ≡ false) → ((k : ℕ) → r < k → k ≤ n → p k ≡ true) → r ≡ down p n
  down-at n r high stop pass = go (ltb r (down p n)) (ltb (down p n) r) refl refl where
    go : (t u : Bool) → ltb r (down p n) ≡ t → ltb (down p n) r ≡ u → r ≡ down p n
    go true u e f = let h : r < down p n = ltb-true _ _ e in absurd (true≢false (sym (pass (down p n) h (down_le p n)) ∙ down-found p n (omega arith)))
    go false true e f = let h : down p n < r = ltb-true _ _ f in absurd (true≢false (sym (down-seen p n r high h) ∙ stop (omega arith)))
    go false false e f = omega (arith, ltb-false _ _ e, ltb-false _ _ f)

not-yes : (b : Bool) → true ≡ not b → b ≡ false
not-yes false e = refl
not-yes true e = e

not-no : (b : Bool) → false ≡ not b → b ≡ true
not-no false e = e
not-no true e = refl

-- ---- the numbers of `(a..=e).rev()`, n of them
countdown : ℕ → ℕ → List ℕ
countdown e zero = []
countdown e (suc n) = e ∷ countdown (e - 1) n

length-countdown : (e n : ℕ) → length (countdown e n) ≡ n
unfolding countdown
length-countdown e zero = refl
length-countdown e (suc n) = ap suc (length-countdown (e - 1) n)

get_or-countdown : (e n k : ℕ) → k < n → get_or (countdown e n) k 0 ≡ e - k
unfolding countdown
get_or-countdown e zero k h = absurd (omega arith)
get_or-countdown e (suc n) zero h = omega arith
get_or-countdown e (suc n) (suc k) h = omega (arith, get_or-countdown (e - 1) n k (omega arith))

-- ---- what `(a..=e).rev()` gives
abbrev left : RangeInclusive ℕ → ℕ
left s = range_inclusive_left (λ x y. y - x) s

abbrev steps_back : Rev (RangeInclusive ℕ) → Option ℕ → Rev (RangeInclusive ℕ) → Type 0
steps_back s r t =
    (t.iter.start ≡ s.iter.start) × MatchOption r ((left s.iter ≡ 0) × (t.iter ≡ s.iter))
    (λ x. (x ≡ s.iter.end) × (left t.iter + 1 ≡ left s.iter) × (t.iter.exhausted ≡ false → s.iter.end ≡ t.iter.end + 1))

yields_back : (s : Rev (RangeInclusive ℕ)) → YieldsList steps_back (λ x. x) s (countdown s.iter.end (left s.iter))
unfolding countdown
yields_back = YieldsList-from_shown steps_back (λ x. x) (λ s. countdown s.iter.end (left s.iter)) none some where
  none : (s t : Rev (RangeInclusive ℕ)) → steps_back s None t → length (countdown s.iter.end (left s.iter)) ≡ 0
  none s t h = length-countdown _ _ ∙ h.1.0

  some : (s : Rev (RangeInclusive ℕ)) (x : ℕ) (t : Rev (RangeInclusive ℕ)) → steps_back s (Some x) t → countdown s.iter.end (left s.iter) ≡ x ∷ countdown t.iter.end (left t.iter)
  some s x t h =
      let fewer : left s.iter ≡ suc (left t.iter) = omega (arith, h.1.1) in
      rw (fewer, h.1.0) (ap (λ l. s.iter.end ∷ l) (go t.iter.exhausted refl)) where
        go : (b : Bool) → t.iter.exhausted ≡ b → countdown (s.iter.end - 1) (left t.iter) ≡ countdown t.iter.end (left t.iter)
        go true e = rw e
        go false e = let z : s.iter.end - 1 ≡ t.iter.end = omega (arith, h.1.2 e) in rw z

-- ---- what `(a..n).rev()` gives
abbrev steps_below : Rev (Range ℕ) → Option ℕ → Rev (Range ℕ) → Type 0
steps_below s r t =
    (t.iter.start ≡ s.iter.start) × MatchOption r ((s.iter.end - s.iter.start ≡ 0) × (t.iter.end ≡ s.iter.end))
    (λ x. (0 < s.iter.end - s.iter.start) × (x ≡ t.iter.end) × (s.iter.end ≡ t.iter.end + 1))

yields_below : (s : Rev (Range ℕ)) → YieldsList steps_below (λ x. x) s (countdown (s.iter.end - 1) (s.iter.end - s.iter.start))
unfolding countdown
yields_below = YieldsList-from_shown steps_below (λ x. x) (λ s. countdown (s.iter.end - 1) (s.iter.end - s.iter.start)) none some where
  none : (s t : Rev (Range ℕ)) → steps_below s None t → length (countdown (s.iter.end - 1) (s.iter.end - s.iter.start)) ≡ 0
  none s t h = length-countdown _ _ ∙ h.1.0

  some : (s : Rev (Range ℕ)) (x : ℕ) (t : Rev (Range ℕ)) → steps_below s (Some x) t
      → countdown (s.iter.end - 1) (s.iter.end - s.iter.start) ≡ x ∷ countdown (t.iter.end - 1) (t.iter.end - t.iter.start)
  some s x t h =
      let fewer : s.iter.end - s.iter.start ≡ suc (t.iter.end - t.iter.start) = omega (arith, h.0, h.1.0, h.1.2) in
      let at : s.iter.end - 1 ≡ t.iter.end = omega (arith, h.1.2) in
      rw (fewer, at, h.1.1)

module _ {F : Type 0} {g : Mut F (Bor ℕ × Unit {0}) Bool} (f : F) (p : ℕ → Bool) (acts : (x : ℕ) (b : Bool) (q : F) → CalledAt g f x b q → (q ≡ f) × (b ≡ not (p x))) where
  yes : (x : ℕ) (q : F) → CalledAt g f x true q → p x ≡ false
  yes x q k = not-yes (p x) (acts x true q k).1

  no : (x : ℕ) (q : F) → CalledAt g f x false q → (q ≡ f) × (p x ≡ true)
  no x q k = ((acts x false q k).0, not-no (p x) (acts x false q k).1)

  -- ---- upwards from the start; the end, where the test fails nowhere
  pub found_up : (s u : Range ℕ) (r : Option ℕ) → s.start ≤ s.end
      → (xs : List ℕ) × (j : F) × YieldsThen nat_range_steps s xs r u × FoldsTo (λ p x q. CalledAt g p x false q) f xs j × MatchOption r ⊤ (λ x. (h : F) × CalledAt g j x true h)
      → unwrap_or r s.end ≡ up p (s.end - s.start) s.start
  found_up s u r room ran = go r (first_from_Range s u f r (λ x. p x ≡ false) (λ x. p x ≡ true) ran yes no) where
    go : (r : Option ℕ) → MatchOption r ((k : ℕ) → s.start ≤ k → k < s.end → p k ≡ true) (λ i. (s.start ≤ i) × (i < s.end) × (p i ≡ false) × ((k : ℕ) → s.start ≤ k → k < i → p k ≡ true))
        → unwrap_or r s.end ≡ up p (s.end - s.start) s.start
    go None h = up-at p _ _ _ room (omega arith) (λ l. absurd (omega arith)) h
    go (Some i) h = up-at p _ _ _ h.0 (omega (arith, h.1)) (λ l. h.2) h.3

  -- ---- what is found lies before the end
  pub found_under : (s u : Range ℕ) (r : Option ℕ) → s.start ≤ s.end
      → (xs : List ℕ) × (j : F) × YieldsThen nat_range_steps s xs r u × FoldsTo (λ p x q. CalledAt g p x false q) f xs j × MatchOption r ⊤ (λ x. (h : F) × CalledAt g j x true h)
      → IfSome r (λ i. i < s.end)
  found_under s u r room ran = go r (first_from_Range s u f r (λ x. p x ≡ false) (λ x. p x ≡ true) ran yes no) where
    go : (r : Option ℕ) → MatchOption r ((k : ℕ) → s.start ≤ k → k < s.end → p k ≡ true) (λ i. (s.start ≤ i) × (i < s.end) × (p i ≡ false) × ((k : ℕ) → s.start ≤ k → k < i → p k ≡ true))
        → IfSome r (λ i. i < s.end)
    go None h = tt
    go (Some i) h = h.1

  -- ---- downwards from e to 1; 0, where the test fails nowhere
  counted : {S : Type 0} {steps : S → Option ℕ → S → Type 0} (s u : S) (r : Option ℕ) (e : ℕ) → YieldsList steps (λ x. x) s (countdown e e)
      → (xs : List ℕ) × (j : F) × YieldsThen steps s xs r u × FoldsTo (λ p x q. CalledAt g p x false q) f xs j × MatchOption r ⊤ (λ x. (h : F) × CalledAt g j x true h)
      → unwrap_or r 0 ≡ down p e
  counted s u r e yields ran = go r (first_from_find u f r (λ x. p x ≡ false) (λ x. p x ≡ true) ran yields yes no) where
    all : List ℕ
    all = countdown e e

    long : length all ≡ e
    long = length-countdown e e

    below : (n : ℕ) → n ≤ e → AllWithin (λ x. p x ≡ true) all 0 n → (k : ℕ) → e < k + n → k ≤ e → p k ≡ true
    below n l h k a b =
        let z : get_or all (e - k) 0 ≡ k = get_or-countdown e e (e - k) (omega arith) ∙ omega arith in
        rw z at (h (e - k) 0 (omega arith) (omega arith))

    go : (r : Option ℕ)
        → MatchOption r (AllWithin (λ x. p x ≡ true) all 0 (length all)) (λ x. (p x ≡ false) × (i : ℕ) × (i < length all) × HoldsAt (λ y. y ≡ x) all i × AllWithin (λ x. p x ≡ true) all 0 i)
        → unwrap_or r 0 ≡ down p e
    go None h = down-at p _ _ (omega arith) (λ l. absurd (omega arith)) (λ k a b. below (length all) (omega (arith, long)) h k (omega (arith, long)) b)
    go (Some x) h =
        let l : h.1 < e = omega (arith, h.2, long) in
        let at : x ≡ e - h.1 = sym (h.3 0) ∙ get_or-countdown e e h.1 l in
        down-at p _ _ (omega arith) (λ _. h.0) (λ k a b. below h.1 (omega arith) h.4 k (omega arith) b)

  -- ---- `(1..=e).rev()`
  pub found_down : (s u : Rev (RangeInclusive ℕ)) (r : Option ℕ) (e : ℕ) → s.iter.start ≡ 1 → s.iter.end ≡ e → s.iter.exhausted ≡ false
      → (xs : List ℕ) × (j : F) × YieldsThen steps_back s xs r u × FoldsTo (λ p x q. CalledAt g p x false q) f xs j × MatchOption r ⊤ (λ x. (h : F) × CalledAt g j x true h)
      → unwrap_or r 0 ≡ down p e
  found_down s u r e one top fresh ran =
      let many : left s.iter ≡ e = rw (one, top, fresh) (omega arith) in
      let same : countdown s.iter.end (left s.iter) ≡ countdown e e = rw (many, top) in
      let P : List ℕ → Type 0 = λ l. YieldsList steps_back (λ x. x) s l in
      counted s u r e (subst P same (yields_back s)) ran

  -- ---- `(1..n).rev()`
  pub found_below : (s u : Rev (Range ℕ)) (r : Option ℕ) (n : ℕ) → s.iter ≡ record { start = 1; end = n }
      → (xs : List ℕ) × (j : F) × YieldsThen steps_below s xs r u × FoldsTo (λ p x q. CalledAt g p x false q) f xs j × MatchOption r ⊤ (λ x. (h : F) × CalledAt g j x true h)
      → unwrap_or r 0 ≡ down p (n - 1)
  found_below s u r n is ran =
      let same : countdown (s.iter.end - 1) (s.iter.end - s.iter.start) ≡ countdown (n - 1) (n - 1) = rw is in
      let P : List ℕ → Type 0 = λ l. YieldsList steps_below (λ x. x) s l in
      counted s u r (n - 1) (subst P same (yields_below s)) ran
