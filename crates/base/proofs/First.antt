-- The first refusal that applies, both ways round: it is none exactly when no test applies, and its number is n exactly when n is the first of the numbers that apply. So a call
-- that says what its tests find keeps its promise, once for all calls. And where one test alone is for a refusal, its number is given exactly when that test applies and none before
-- it. Assumes nothing.
use mathlib.Core.Path.{◌≡◌, refl, sym, ap, subst, ◌∙◌}
use mathlib.Core.Bool.{Bool, true, false, true≢false}
use mathlib.Core.Logic.{◌↔◌, ◌⊎◌, inl, inr}
use mathlib.Core.List.{List, [], ◌∷◌, ◌++◌, append-nil}
use Prim.Native.Nat.{ℕ}
use native.Mathlib.Omega.{arith}
use Rattle.std.proofs.lemmas.Result.{err_from_is_err_and}
use Rattle.base.specs.declared.Refusal.{Refusal}
use Rattle.std.specs.Prelude.{Ok, Err, Result, IsErrAnd}
use Rattle.base.specs.Refusals.{Rule, number, Test, first, NoneApplies, First, Says, accepts, refuses, says_of, Among, Listed, Judged, Without}

pub first-skip : (t : Test) (ts : List Test) → t.applies ≡ false → first (t ∷ ts) ≡ first ts
unfolding first
first-skip t ts h = rw h

pub first-here : (t : Test) (ts : List Test) → t.applies ≡ true → first (t ∷ ts) ≡ Err t.refusal
unfolding first
first-here t ts h = rw h

pub first-end : first [] ≡ Ok tt
unfolding first
first-end = refl

-- what the exit of a `?` gives back is the refusal that the call before it gave
pub refused : {A : Type 0} {why : Refusal} (r : Result A Refusal) → IsErrAnd r (λ (x : Refusal). x ≡ why) → r ≡ Err why
refused r h = let p = err_from_is_err_and r h in p.1 ∙ ap (λ (x : Refusal). Err x) p.2

-- nothing is said to be accepted and refused
pub apart : {A B : Type 0} {v : A} {n : ℕ} → accepts v ≡ refuses n → B
apart h = absurd (let z : ◌≡◌ {A = ℕ} 0 1 = cc in omega arith)

-- ---- no test applies
pub none-fine : (ts : List Test) → NoneApplies ts → first ts ≡ Ok tt
unfolding first
none-fine [] n = refl
none-fine (t ∷ ts) n = first-skip t ts n.0 ∙ none-fine ts n.1

pub fine-none : (ts : List Test) → first ts ≡ Ok tt → NoneApplies ts
fine-none [] h = tt
fine-none (t ∷ ts) h = go t.applies refl (fine-none ts) where
  go : (b : Bool) → t.applies ≡ b → (first ts ≡ Ok tt → NoneApplies ts) → NoneApplies (t ∷ ts)
  go true e later = absurd (let k = sym (first-here t ts e) ∙ h in let z : ◌≡◌ {A = ℕ} 0 1 = cc in omega arith)
  go false e later = (e, later (sym (first-skip t ts e) ∙ h))

module _ {A : Type 0} (v : A) where
  -- ---- what is said tells what was found
  says-fine : (r : Rule) → says_of v r ≡ accepts v → r ≡ Ok tt
  says-fine (Ok u) h = refl
  says-fine (Err r) h = apart (sym h)

  -- ---- n is the first of the numbers that apply
  first-after : (us : List Test) (t : Test) (ts : List Test) → NoneApplies us → t.applies ≡ true → first (us ++ t ∷ ts) ≡ Err t.refusal
  first-after [] t ts n e = first-here t ts e
  first-after (u ∷ us) t ts n e = first-skip u (us ++ t ∷ ts) n.0 ∙ first-after us t ts n.1 e

  pub first_says : (n : ℕ) (ts : List Test) → First n ts → says_of v (first ts) ≡ refuses n
  first_says n ts f =
      ap (λ (us : List Test). says_of v (first us)) f.split
      ∙ ap (says_of v) (first-after f.before f.test f.after f.none f.applies)
      ∙ ap (λ (m : ℕ). refuses m) f.is

  after_one : (n : ℕ) (t : Test) (ts : List Test) → t.applies ≡ false → First n ts → First n (t ∷ ts)
  after_one n t ts e f = record {
    before = t ∷ f.before;
    test = f.test;
    after = f.after;
    split = ap (λ (us : List Test). t ∷ us) f.split;
    none = (e, f.none);
    applies = f.applies;
    is = f.is;
  }

  pub says_first : (n : ℕ) (ts : List Test) → says_of v (first ts) ≡ refuses n → First n ts
  unfolding first
  says_first n [] h = apart h
  says_first n (t ∷ ts) h = go t.applies refl (says_first n ts) where
    go : (b : Bool) → t.applies ≡ b → (says_of v (first ts) ≡ refuses n → First n ts) → First n (t ∷ ts)
    go true e later = record {
      before = [];
      test = t;
      after = ts;
      split = refl;
      none = tt;
      applies = e;
      is = let k : ◌≡◌ {A = Says A} (refuses (number t.refusal)) (refuses n) = sym (ap (says_of v) (first-here t ts e)) ∙ h in cc;
    }
    go false e later = after_one n t ts e (later (sym (ap (says_of v) (first-skip t ts e)) ∙ h))

-- ---- a number that is refused is listed
listed-first : {A : Type 0} (v : A) (numbers : List ℕ) (n : ℕ) (ts : List Test) → Listed numbers ts → says_of v (first ts) ≡ refuses n → Among n numbers
unfolding first
listed-first v numbers n [] l h = apart h
listed-first {A} v numbers n (t ∷ ts) l h = go t.applies refl l.0 (listed-first v numbers n ts l.1)
  where
    go : (b : Bool) → t.applies ≡ b → (t.applies ≡ false) ⊎ Among (number t.refusal) numbers → (says_of v (first ts) ≡ refuses n → Among n numbers) → Among n numbers
    go false e k later = later (sym (ap (says_of v) (first-skip t ts e)) ∙ h)
    go true e (inl k) later = absurd (true≢false (sym e ∙ k))
    go true e (inr k) later =
        let s : ◌≡◌ {A = Says A} (refuses (number t.refusal)) (refuses n) = sym (ap (says_of v) (first-here t ts e)) ∙ h in
        let m : number t.refusal ≡ n = cc in
        subst (λ (x : ℕ). Among x numbers) m k

-- ---- A call that says what its tests find keeps its promise.
pub judged : {A : Type 0} {within : Type 0} {numbers : List ℕ} {ts : List Test} {says : Says A} (v : A) → within ↔ NoneApplies ts → Listed numbers ts → says ≡ says_of v (first ts) → Judged within numbers ts v says
judged {A} {within} {numbers} {ts} v w l s = record {
  accepted-exactly = (λ h. s ∙ ap (says_of v) (none-fine ts (w.0 h)), λ h. w.1 (fine-none ts (says-fine v (first ts) (sym s ∙ h))));
  refused-exactly = λ n. (λ f. s ∙ first_says v n ts f, λ h. says_first v n ts (sym s ∙ h));
  refused-among = λ n h. listed-first v numbers n ts l (sym s ∙ h);
}

-- what is said by the tests alone
abbrev said : List Test → Says ℕ
said ts = says_of {A = ℕ} 0 (first ts)

-- no test of a list is for n, and n is found with others behind it: then none of the list applies, and n is found by the others
without-said : (n : ℕ) (us ts : List Test) → Without n us → said (us ++ ts) ≡ refuses n → NoneApplies us × (said ts ≡ refuses n)
without-said n [] ts w h = (tt, h)
without-said n (u ∷ us) ts w h = go u.applies refl (without-said n us ts w.1)
  where
    go : (b : Bool) → u.applies ≡ b → (said (us ++ ts) ≡ refuses n → NoneApplies us × (said ts ≡ refuses n)) → NoneApplies (u ∷ us) × (said ts ≡ refuses n)
    go false e later = let k = later (sym (ap (says_of {A = ℕ} 0) (first-skip u (us ++ ts) e)) ∙ h) in ((e, k.0), k.1)
    go true e later =
        let s : ◌≡◌ {A = Says ℕ} (refuses (number u.refusal)) (refuses n) = sym (ap (says_of {A = ℕ} 0) (first-here u (us ++ ts) e)) ∙ h in
        absurd (w.0 cc)

-- ---- Where one test alone is for a refusal, its number is the first that applies exactly when that test applies and none before it does.
pub first-exactly : (us : List Test) (t : Test) (ts : List Test) → Without (number t.refusal) us → Without (number t.refusal) ts
    → (NoneApplies us × (t.applies ≡ true)) ↔ First (number t.refusal) (us ++ t ∷ ts)
first-exactly us t ts before after = (
  λ h. record { before = us; test = t; after = ts; split = refl; none = h.0; applies = h.1; is = refl },
  λ f. let k = without-said n us (t ∷ ts) before (first_says {A = ℕ} 0 n (us ++ t ∷ ts) f) in (k.0, go t.applies refl k.1),
)
  where
    n : ℕ
    n = number t.refusal

    go : (b : Bool) → t.applies ≡ b → said (t ∷ ts) ≡ refuses n → t.applies ≡ true
    go true e h = e
    go false e h =
        let behind = ap said (append-nil ts) ∙ sym (ap (says_of {A = ℕ} 0) (first-skip t ts e)) ∙ h in
        apart (sym (ap (says_of {A = ℕ} 0) first-end) ∙ (without-said n ts [] after behind).1)
