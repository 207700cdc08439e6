-- The loops that take a phrase's words out and put them back: each turn adds a member. Assumes nothing.
use Prim.Native.Nat.{ℕ, ◌+◌, ◌<◌}
use mathlib.Core.Path.{◌≡◌, refl, sym, ap, ◌∙◌}
use mathlib.Core.List.{List, [], ◌∷◌, ◌++◌, map}
use native.Mathlib.Omega.{arith}
use native.Mathlib.Numerals.{add-one}
use borrow.Author.Tests.{eq-eqb, ne_eqb}
use lib.ListN.{length, take, set, get_or, length-append}
use lib.Seq.{take-suc-set}
use lib.Ieee.{Float, nan}
use Rattle.base.specs.Words.{Edges, edges}
use Rattle.base.specs.Loop.{each}
use Rattle.base.proofs.Loops.{each_last}
use Rattle.fit_file.specs.FitFile.{member_turn, members_of, picked, put_back, put_edges}
use Rattle.fit_file.specs.Parts.{Holds, Put}

-- ---- one member more
map_more : {A B : Type 0} (f : A → B) (xs : List A) (x : A) → map f (xs ++ (x ∷ [])) ≡ map f xs ++ (f x ∷ [])
map_more f [] x = refl
map_more f (y ∷ xs) x = ap (◌∷◌ (f y)) (map_more f xs x)

module _ {A : Type 0} where
  picked_more : (none : A) (members : List ℕ) (i n : ℕ) (work xs : List A) → n < length work → take n work ≡ picked none members xs
      → take (n + 1) (set work n (get_or xs i none)) ≡ picked none (members ++ (i ∷ [])) xs
  unfolding picked
  picked_more none members i n work xs h e =
      rw (add-one, take-suc-set work n (get_or xs i none) h, e, map_more (λ (j : ℕ). get_or xs j none) members i)

  pub put-more : (none : A) (members : List ℕ) (i : ℕ) (group xs : List A) → length members < length group
      → put_back (members ++ (i ∷ [])) group xs ≡ set (put_back members group xs) i (get_or group (length members) none)
  unfolding put_back
  put-more none [] i [] xs h = absurd (omega arith)
  put-more none [] i (w ∷ group) xs h = refl
  put-more none (j ∷ members) i [] xs h = absurd (omega arith)
  put-more none (j ∷ members) i (w ∷ group) xs h = put-more none members i group (set xs j w) (omega arith)

length_more : (members : List ℕ) (i : ℕ) → length (members ++ (i ∷ [])) ≡ length members + 1
length_more members i = length-append members (i ∷ [])

-- ---- the turn of word i
module _ (phrases : List ℕ) (p i : ℕ) (members : List ℕ) where
  pub turn-hit : get_or phrases i 0 ≡ p → member_turn phrases p i members ≡ members ++ (i ∷ [])
  unfolding member_turn
  turn-hit h = rw (eq-eqb (get_or phrases i 0) p h)

  pub turn-miss : (get_or phrases i 0 ≡ p → ⊥) → member_turn phrases p i members ≡ members
  unfolding member_turn
  turn-miss h = rw (ne_eqb (get_or phrases i 0) p h)

  module _ (es : Edges) (letters : List ℕ) (n : ℕ) (ws we : List Float) (wl : List ℕ) (at : Holds members es letters n ws we wl) where
    pub taken : get_or phrases i 0 ≡ p → n < length ws → n < length we → n < length wl
        → Holds (member_turn phrases p i members) es letters (n + 1) (set ws n (get_or es.starts i nan)) (set we n (get_or es.ends i nan)) (set wl n (get_or letters i 0))
    taken h a b d = rw (turn-hit h) (record {
      many = ap (λ (k : ℕ). k + 1) at.many ∙ sym (length_more members i);
      starts = picked_more nan members i n ws es.starts a at.starts;
      ends = picked_more nan members i n we es.ends b at.ends;
      letters = picked_more 0 members i n wl letters d at.letters;
    })

    pub passed : (get_or phrases i 0 ≡ p → ⊥) → Holds (member_turn phrases p i members) es letters n ws we wl
    passed h = rw (turn-miss h) at

  module _ (group es : Edges) (n : ℕ) (starts ends : List Float) (at : Put members group es n (edges starts ends)) where
    pub stored : get_or phrases i 0 ≡ p → n < length group.starts → n < length group.ends
        → Put (member_turn phrases p i members) group es (n + 1) (edges (set starts i (get_or group.starts n nan)) (set ends i (get_or group.ends n nan)))
    unfolding put_edges
    stored h a b =
        let m = at.many in
        let s : starts ≡ put_back members group.starts es.starts = ap (λ (x : Edges). x.starts) at.edges in
        let e : ends ≡ put_back members group.ends es.ends = ap (λ (x : Edges). x.ends) at.edges in
        rw (turn-hit h) (record {
          many = ap (λ (k : ℕ). k + 1) m ∙ sym (length_more members i);
          edges = rw (s, e, m, put-more nan members i group.starts es.starts (omega arith), put-more nan members i group.ends es.ends (omega arith));
        })

    pub left : (get_or phrases i 0 ≡ p → ⊥) → Put (member_turn phrases p i members) group es n (edges starts ends)
    left h = rw (turn-miss h) at

-- ---- the members among the first i words
module _ (phrases : List ℕ) (p : ℕ) where
  pub members-next : (i : ℕ) → member_turn phrases p i (members_of phrases p i) ≡ members_of phrases p (i + 1)
  unfolding members_of
  members-next i = let z : 0 + i ≡ i = omega arith in rw add-one (sym (rw z at (each_last (member_turn phrases p) i 0 [])))

  module _ (es : Edges) (letters : List ℕ) where
    pub holds-none : (ws we : List Float) (wl : List ℕ) → Holds (members_of phrases p 0) es letters 0 ws we wl
    unfolding members_of each picked
    holds-none ws we wl = record { many = refl; starts = refl; ends = refl; letters = refl }

    module _ (i n : ℕ) (ws we : List Float) (wl : List ℕ) where
      pub holds-next : Holds (member_turn phrases p i (members_of phrases p i)) es letters n ws we wl → Holds (members_of phrases p (i + 1)) es letters n ws we wl
      holds-next h = rw (members-next i) at h

  module _ (group es : Edges) where
    pub put-none : Put (members_of phrases p 0) group es 0 es
    unfolding members_of each put_edges put_back
    put-none = record { many = refl; edges = refl }

    module _ (i n : ℕ) (now : Edges) where
      pub put_next : Put (member_turn phrases p i (members_of phrases p i)) group es n now → Put (members_of phrases p (i + 1)) group es n now
      put_next h = rw (members-next i) at h

      pub put_all : (e : ℕ) → i ≡ e → Put (members_of phrases p i) group es n now → now ≡ put_edges (members_of phrases p e) group es
      put_all e z h = rw z at h.edges
