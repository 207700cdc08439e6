-- What is put back at a phrase's places is found there, and at no other place: the members of a phrase are distinct, and those of two phrases have
-- none in common. Assumes nothing.
use Prim.Native.Nat.{ℕ, zero, suc, ◌<◌, ◌≤◌}
use mathlib.Core.Bool.{Bool, true, false}
use mathlib.Core.Path.{◌≡◌, refl, sym, ap, ◌∙◌}
use mathlib.Core.Logic.{inl, inr, ◌≢◌}
use mathlib.Core.List.{List, [], ◌∷◌, ◌++◌, map}
use native.Mathlib.Omega.{arith}
use native.Mathlib.Nat.{eq-or-lt_of_le}
use native.Mathlib.Numerals.{add-one}
use borrow.Author.Tests.{eqb-true, eqb-false}
use lib.Dec.{eqb}
use lib.ListN.{length, get_or, set, length-append, length-map, length-set, get_or-append}
use lib.Seq.{get_or-append_seam, get_or-set_same, get_or-set_other}
use lib.Ieee.{Float, nan}
use Rattle.base.specs.Words.{Edges, times_at}
use Rattle.base.specs.Loop.{each}
use Rattle.base.proofs.Parts.{long, times-alike}
use Rattle.fit_file.specs.FitFile.{member_turn, members_of, picked, picked_edges, put_back, put_edges}
use Rattle.fit_file.specs.Parts.{AllOf, Distinct}
use Rattle.fit_file.proofs.Members.{turn-hit, turn-miss, members-next}

all_more : (P : ℕ → Type 0) (is : List ℕ) (i : ℕ) → AllOf P is → P i → AllOf P (is ++ (i ∷ []))
all_more P [] i h p = (p, tt)
all_more P (j ∷ is) i h p = (h.0, all_more P is i h.1 p)

pub all-each : (P Q : ℕ → Type 0) → ((i : ℕ) → P i → Q i) → (is : List ℕ) → AllOf P is → AllOf Q is
all-each P Q f [] h = tt
all-each P Q f (i ∷ is) h = (f i h.0, all-each P Q f is h.1)

distinct_more : (is : List ℕ) (i : ℕ) → AllOf (λ (j : ℕ). j < i) is → Distinct is → Distinct (is ++ (i ∷ []))
distinct_more [] i h d = (tt, tt)
distinct_more (j ∷ is) i h d = (all_more (λ (k : ℕ). j ≢ k) is i d.0 (λ e. let l = h.0 in absurd (omega arith)), distinct_more is i h.1 d.1)

-- ---- a number stands in a list
abbrev pub In : ℕ → List ℕ → Type 0
In i is = (r : ℕ) × ((r < length is) × (get_or is r 0 ≡ i))

in-more : (is : List ℕ) (i j : ℕ) → In i is → In i (is ++ (j ∷ []))
in-more is i j (r, (l, e)) = (r, (rw (length-append is (j ∷ [])) (omega arith), get_or-append is (j ∷ []) 0 r l ∙ e))

in-last : (is : List ℕ) (i : ℕ) → In i (is ++ (i ∷ []))
in-last is i = (length is, (rw (length-append is (i ∷ [])) (omega arith), get_or-append_seam is i [] 0))

-- ---- the members of phrase p among the first n words
module _ (phrases : List ℕ) (p : ℕ) where
  abbrev Member : ℕ → ℕ → Type 0
  Member n i = (i < n) × (get_or phrases i 0 ≡ p)

  -- one word more, by whether it is a member
  turn : (R : List ℕ → Type 0) (n : ℕ) → (get_or phrases n 0 ≡ p → R (members_of phrases p n ++ (n ∷ []))) → ((get_or phrases n 0 ≡ p → ⊥) → R (members_of phrases p n)) → R (members_of phrases p (suc n))
  turn R n hit miss = rw (add-one n) at (rw (members-next phrases p n) at (go (eqb (get_or phrases n 0) p) refl)) where
    go : (t : Bool) → eqb (get_or phrases n 0) p ≡ t → R (member_turn phrases p n (members_of phrases p n))
    go true t = let h = eqb-true (get_or phrases n 0) p t in rw (turn-hit phrases p n (members_of phrases p n) h) (hit h)
    go false t = let h = eqb-false (get_or phrases n 0) p t in rw (turn-miss phrases p n (members_of phrases p n) h) (miss h)

  -- each is below n and has the number p
  pub members-all : (n : ℕ) → AllOf (Member n) (members_of phrases p n)
  members-all zero = unfold members_of each in tt
  members-all (suc n) =
      let before = all-each (Member n) (Member (suc n)) (λ i m. (let l = m.0 in omega arith, m.1)) (members_of phrases p n) (members-all n) in
      turn (AllOf (Member (suc n))) n (λ h. all_more (Member (suc n)) (members_of phrases p n) n before (omega arith, h)) (λ _. before)

  pub members-distinct : (n : ℕ) → Distinct (members_of phrases p n)
  members-distinct zero = unfold members_of each in tt
  members-distinct (suc n) =
      let below = all-each (Member n) (λ (i : ℕ). i < n) (λ i m. m.0) (members_of phrases p n) (members-all n) in
      turn Distinct n (λ _. distinct_more (members_of phrases p n) n below (members-distinct n)) (λ _. members-distinct n)

  -- and a word with the number p is a member
  pub member-in : (n i : ℕ) → i < n → get_or phrases i 0 ≡ p → In i (members_of phrases p n)
  member-in zero i h e = absurd (omega arith)
  member-in (suc n) i h e =
      elim (eq-or-lt_of_le h) [
        | inl z ↦ let w : i ≡ n = omega arith in turn (In i) n (λ _. rw w (in-last (members_of phrases p n) n)) (λ no. absurd (no (rw w at e)))
        | inr l ↦ let before = member-in n i (omega arith) e in turn (In i) n (λ _. in-more (members_of phrases p n) i n before) (λ _. before)
      ]

-- ---- what is put back
module _ {A : Type 0} (none : A) where
  pub put-long : (members : List ℕ) (group xs : List A) → length (put_back members group xs) ≡ length xs
  unfolding put_back
  put-long [] group xs = refl
  put-long (i ∷ members) [] xs = refl
  put-long (i ∷ members) (w ∷ group) xs = put-long members group (set xs i w) ∙ length-set xs i w

  -- of a longer list the first are put back
  pub put_front : (members : List ℕ) (group rest xs : List A) → length members ≤ length group → put_back members (group ++ rest) xs ≡ put_back members group xs
  unfolding put_back
  put_front [] group rest xs h = refl
  put_front (i ∷ members) [] rest xs h = absurd (omega arith)
  put_front (i ∷ members) (w ∷ group) rest xs h = put_front members group rest (set xs i w) (omega arith)

  -- a place that is no member's stays
  pub put-elsewhere : (members : List ℕ) (group xs : List A) (j : ℕ) → AllOf (λ (i : ℕ). j ≢ i) members → get_or (put_back members group xs) j none ≡ get_or xs j none
  unfolding put_back
  put-elsewhere [] group xs j h = refl
  put-elsewhere (i ∷ members) [] xs j h = refl
  put-elsewhere (i ∷ members) (w ∷ group) xs j h = put-elsewhere members group (set xs i w) j h.1 ∙ get_or-set_other xs i j w none h.0

  -- the members' places hold the group
  pub picked-own : (members : List ℕ) (group xs : List A) → Distinct members → AllOf (λ (i : ℕ). i < length xs) members → length group ≡ length members
      → picked none members (put_back members group xs) ≡ group
  unfolding put_back picked
  picked-own [] [] xs d h e = refl
  picked-own [] (w ∷ group) xs d h e = absurd (omega arith)
  picked-own (i ∷ members) [] xs d h e = absurd (omega arith)
  picked-own (i ∷ members) (w ∷ group) xs d h e =
      let l = length-set xs i w in
      let first = put-elsewhere members group (set xs i w) i d.0 ∙ get_or-set_same xs i w none h.0 in
      let rest = picked-own members group (set xs i w) d.1 (all-each (λ (j : ℕ). j < length xs) (λ (j : ℕ). j < length (set xs i w)) (λ j m. rw l m) members h.1) (omega arith) in
      rw (first, rest)

  -- other members' places stay
  pub picked-other : (others members : List ℕ) (group xs : List A) → AllOf (λ (j : ℕ). AllOf (λ (i : ℕ). j ≢ i) members) others
      → picked none others (put_back members group xs) ≡ picked none others xs
  unfolding picked
  picked-other [] members group xs h = refl
  picked-other (j ∷ others) members group xs h = rw (put-elsewhere members group xs j h.0, picked-other others members group xs h.1)

  -- of members alike, each place is alike
  pub picked-at : (members : List ℕ) (xs : List A) (i : ℕ) (at : In i members) → get_or (picked none members xs) at.0 none ≡ get_or xs i none
  unfolding picked
  picked-at members xs i (r, (l, e)) = go members r l ∙ ap (λ (k : ℕ). get_or xs k none) e where
    go : (is : List ℕ) (r : ℕ) → r < length is → get_or (map (λ (k : ℕ). get_or xs k none) is) r none ≡ get_or xs (get_or is r 0) none
    go [] r h = absurd (omega arith)
    go (j ∷ is) zero h = refl
    go (j ∷ is) (suc r) h = go is r (omega arith)

  pub picked-long : (members : List ℕ) (xs : List A) → length (picked none members xs) ≡ length members
  unfolding picked
  picked-long members xs = length-map members (λ (i : ℕ). get_or xs i none)

  -- and the other way about: alike at each place, alike as a group
  pub picked-alike : (members : List ℕ) (xs ys : List A) → AllOf (λ (i : ℕ). get_or xs i none ≡ get_or ys i none) members → picked none members xs ≡ picked none members ys
  unfolding picked
  picked-alike [] xs ys h = refl
  picked-alike (i ∷ members) xs ys h = rw (h.0, picked-alike members xs ys h.1)

-- ---- the words of phrase p, and those of another phrase
module _ (phrases : List ℕ) (n : ℕ) (p : ℕ) where
  disjoint : (q : ℕ) → q ≢ p → AllOf (λ (j : ℕ). AllOf (λ (i : ℕ). j ≢ i) (members_of phrases q n)) (members_of phrases p n)
  disjoint q other =
      all-each (λ (j : ℕ). (j < n) × (get_or phrases j 0 ≡ p)) (λ (j : ℕ). AllOf (λ (i : ℕ). j ≢ i) (members_of phrases q n))
      (λ j m. all-each (λ (i : ℕ). (i < n) × (get_or phrases i 0 ≡ q)) (λ (i : ℕ). j ≢ i) (λ i k e. other (sym k.1 ∙ ap (λ (x : ℕ). get_or phrases x 0) (sym e) ∙ m.1)) (members_of phrases q n) (members-all phrases q n))
      (members_of phrases p n) (members-all phrases p n)

  pub put-own : (group es : Edges) → length es.starts ≡ n → length es.ends ≡ n → long group ≡ long (picked_edges (members_of phrases p n) es)
      → picked_edges (members_of phrases p n) (put_edges (members_of phrases p n) group es) ≡ group
  unfolding picked_edges put_edges
  put-own group es s e l =
      let ms = members_of phrases p n in
      let within : (xs : List Float) → length xs ≡ n → AllOf (λ (i : ℕ). i < length xs) ms = (λ xs k. all-each (λ (i : ℕ). (i < n) × (get_or phrases i 0 ≡ p)) (λ (i : ℕ). i < length xs) (λ i m. rw k m.0) ms (members-all phrases p n)) in
      let d = members-distinct phrases p n in
      rw (
        picked-own nan ms group.starts es.starts d (within es.starts s) (ap (λ (k : ℕ × ℕ). k.0) l ∙ picked-long nan ms es.starts),
        picked-own nan ms group.ends es.ends d (within es.ends e) (ap (λ (k : ℕ × ℕ). k.1) l ∙ picked-long nan ms es.ends),
      )

  pub put_other : (q : ℕ) → q ≢ p → (group es : Edges) → picked_edges (members_of phrases p n) (put_edges (members_of phrases q n) group es) ≡ picked_edges (members_of phrases p n) es
  unfolding picked_edges put_edges
  put_other q o group es =
      let ms = members_of phrases p n in
      let d = disjoint q o in
      rw (picked-other nan ms (members_of phrases q n) group.starts es.starts d, picked-other nan ms (members_of phrases q n) group.ends es.ends d)

  -- a word with a number that is no phrase's among those put back stays
  pub put-stays : (q i : ℕ) → i < n → get_or phrases i 0 ≢ q → (group es : Edges) → times_at (put_edges (members_of phrases q n) group es) i ≡ times_at es i
  unfolding put_edges
  put-stays q i l o group es =
      let d = all-each (λ (j : ℕ). (j < n) × (get_or phrases j 0 ≡ q)) (λ (j : ℕ). i ≢ j) (λ j m e. o (ap (λ (x : ℕ). get_or phrases x 0) e ∙ m.1)) (members_of phrases q n) (members-all phrases q n) in
      times-alike (put-elsewhere nan (members_of phrases q n) group.starts es.starts i d) (put-elsewhere nan (members_of phrases q n) group.ends es.ends i d)

  -- groups alike, and each word's times alike
  pub group-place : (es es' : Edges) → picked_edges (members_of phrases p n) es ≡ picked_edges (members_of phrases p n) es' → (i : ℕ) → i < n → get_or phrases i 0 ≡ p → times_at es i ≡ times_at es' i
  unfolding picked_edges
  group-place es es' h i l e =
      let at = member-in phrases p n i l e in
      let ms = members_of phrases p n in
      times-alike
      (sym (picked-at nan ms es.starts i at) ∙ ap (λ (x : Edges). get_or x.starts at.0 nan) h ∙ picked-at nan ms es'.starts i at)
      (sym (picked-at nan ms es.ends i at) ∙ ap (λ (x : Edges). get_or x.ends at.0 nan) h ∙ picked-at nan ms es'.ends i at)

  pub place-group : {A : Type 0} (none : A) (xs ys : List A) → ((i : ℕ) → i < n → get_or phrases i 0 ≡ p → get_or xs i none ≡ get_or ys i none)
      → picked none (members_of phrases p n) xs ≡ picked none (members_of phrases p n) ys
  place-group none xs ys h =
      picked-alike none (members_of phrases p n) xs ys
      (all-each (λ (i : ℕ). (i < n) × (get_or phrases i 0 ≡ p)) (λ (i : ℕ). get_or xs i none ≡ get_or ys i none) (λ i m. h i m.0 m.1) (members_of phrases p n) (members-all phrases p n))
