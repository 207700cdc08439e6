-- One pass over the words gives each span's sum: after i words the place of each span holds the sum over its words among them. A word adds to the
-- place of its own number, and for every other span its turn changes nothing. Assumes nothing.
use Prim.Native.Nat.{ℕ, zero, suc, ◌+◌, ◌*◌, ◌<◌, ◌≤◌, ◌^◌}
use mathlib.Core.Bool.{Bool, true, false, cond}
use mathlib.Core.List.{List, ◌∷◌, ◌++◌, append-nil}
use mathlib.Core.Path.{◌≡◌, refl, sym, ap, ◌∙◌, subst}
use native.Mathlib.Omega.{arith}
use native.Mathlib.Nat.{mul-le-mul, le_trans, suc-mul}
use native.Mathlib.Numerals.{add-one}
use borrow.Author.Tests.{ltb-true, ltb-false, eqb-true, eqb-false, eq-eqb, ne_eqb}
use lib.Dec.{ltb, eqb}
use lib.ListN.{length, get_or, set, replicate, drop, length-set, drop_of_length-le}
use lib.Seq.{get_or-set_other}
use lib.Ieee.{nan}
use Rattle.base.specs.Loop.{each, table}
use Rattle.base.specs.Words.{Edges, times_at, set_times}
use Rattle.base.specs.declared.Times.{Times}
use Rattle.base.proofs.Loops.{each_last, each_seen}
use Rattle.tally.specs.Tally.{loud_under, span_turn, span_tally, tallies}
use Rattle.tally.specs.Parts.{added_at, sofar, filled}
use Rattle.tally.proofs.Frames.{under-most}

-- ---- two loops with equal turns
each_same : (f g : ℕ → ℕ → ℕ) → ((i n : ℕ) → f i n ≡ g i n) → (m i n : ℕ) → each f m i n ≡ each g m i n
each_same f g same m i n = each_seen (λ (x : ℕ). x) f g same m i n

-- ---- tables: equal entries, an entry, one entry replaced
table-alike : (f g : ℕ → ℕ) (n i : ℕ) → ((q : ℕ) → i ≤ q → q < i + n → f q ≡ g q) → table f n i ≡ table g n i
unfolding table
table-alike f g zero i h = refl
table-alike f g (suc n) i h = rw (h i (omega arith) (omega arith), table-alike f g n (suc i) (λ (q : ℕ) (a : suc i ≤ q) (b : q < suc i + n). h q (omega arith) (omega arith)))

entry : (f : ℕ → ℕ) (rest : List ℕ) (n i p : ℕ) → p < n → get_or (table f n i ++ rest) p 0 ≡ f (i + p)
unfolding table
entry f rest zero i p h = absurd (omega arith)
entry f rest (suc n) i zero h = let z : i + 0 ≡ i = omega arith in rw z
entry f rest (suc n) i (suc p) h = let z : i + suc p ≡ suc i + p = omega arith in rw z (entry f rest n (suc i) p (omega arith))

replaced : (f g : ℕ → ℕ) (rest : List ℕ) (n i p : ℕ) → p < n → ((q : ℕ) → (q ≡ i + p → ⊥) → f q ≡ g q) → set (table f n i ++ rest) p (g (i + p)) ≡ table g n i ++ rest
unfolding table
replaced f g rest zero i p h e = absurd (omega arith)
replaced f g rest (suc n) i zero h e =
    let z : i + 0 ≡ i = omega arith in
    rw (z, table-alike f g n (suc i) (λ (q : ℕ) (a : suc i ≤ q) (b : q < suc i + n). e q (λ (x : q ≡ i + 0). absurd (omega arith))))
replaced f g rest (suc n) i (suc p) h e =
    let z : i + suc p ≡ suc i + p = omega arith in
    rw (z, e i (λ (x : i ≡ i + suc p). absurd (omega arith)), replaced f g rest n (suc i) p (omega arith) (λ (q : ℕ) (a : q ≡ suc i + p → ⊥). e q (λ (x : q ≡ i + suc p). a (omega arith))))

-- ---- place k made zero
unfoldable pub zero_at : ℕ → List ℕ → List ℕ
zero_at k places = set places k 0

-- ---- so many zeros
unfoldable pub zeros : ℕ → List ℕ
zeros n = table (λ (_ : ℕ). 0) n 0

-- ---- so many equal values are so many zeros
all_zero : (n i : ℕ) → replicate {A = ℕ} n 0 ≡ table (λ (_ : ℕ). 0) n i
unfolding table
all_zero zero i = refl
all_zero (suc n) i = ap (λ (l : List ℕ). 0 ∷ l) (all_zero n (suc i))

pub zeros_are : (n : ℕ) {l : List ℕ} → l ≡ replicate n 0 → l ≡ zeros n
unfolding zeros
zeros_are n e = e ∙ all_zero n 0

-- ---- no place lies behind the last
no-rest : (spans : ℕ) (places : List ℕ) (l : List ℕ) → length places ≡ spans → l ++ drop spans places ≡ l
no-rest spans places l h = rw (drop_of_length-le places {i = spans} (omega arith), append-nil l)

module _ (row : List Bool) (phrases : List ℕ) (es : Edges) where
  -- and its next turn, for the word's own span and for another
  own : (i p : ℕ) → get_or phrases i 0 ≡ p → sofar row phrases es (i + 1) p ≡ sofar row phrases es i p + loud_under row (times_at es i)
  unfolding span_turn
  own i p h = let z : 0 + i ≡ i = omega arith in rw (add-one, rw z at (each_last (span_turn row phrases es p) i 0 0), eq-eqb (get_or phrases i 0) p h)

  other : (i p : ℕ) → (get_or phrases i 0 ≡ p → ⊥) → sofar row phrases es (i + 1) p ≡ sofar row phrases es i p
  unfolding span_turn
  other i p h = let z : 0 + i ≡ i = omega arith in rw (add-one, rw z at (each_last (span_turn row phrases es p) i 0 0), ne_eqb (get_or phrases i 0) p h)

  filled_none : (spans : ℕ) (places : List ℕ) → zeros spans ++ drop spans places ≡ filled row phrases es spans 0 places
  unfolding filled zeros each
  filled_none spans places = refl

  filled-all : (spans i : ℕ) (places : List ℕ) → i ≡ length es.starts → filled row phrases es spans i places ≡ tallies row phrases es spans ++ drop spans places
  unfolding filled tallies span_tally
  filled-all spans i places h = rw h

  filled_next : (spans i : ℕ) (places : List ℕ) → added_at spans (get_or phrases i 0) (loud_under row (times_at es i)) (filled row phrases es spans i places) ≡ filled row phrases es spans (i + 1) places
  unfolding filled added_at
  filled_next spans i places = go (ltb p spans) refl where
    p : ℕ
    p = get_or phrases i 0

    rest : List ℕ
    rest = drop spans places

    go : (t : Bool) → ltb p spans ≡ t → cond (ltb p spans) (set (table (sofar row phrases es i) spans 0 ++ rest) p (get_or (table (sofar row phrases es i) spans 0 ++ rest) p 0 + loud_under row (times_at es i))) (table (sofar row phrases es i) spans 0 ++ rest) ≡ table (sofar row phrases es (i + 1)) spans 0 ++ rest
    go true t =
        let h = ltb-true p spans t in
        let z : 0 + p ≡ p = omega arith in
        let v : get_or (table (sofar row phrases es i) spans 0 ++ rest) p 0 + loud_under row (times_at es i) ≡ sofar row phrases es (i + 1) (0 + p) = rw (entry (sofar row phrases es i) rest spans 0 p h, z) (sym (own i p refl)) in
        rw (t, v) (replaced (sofar row phrases es i) (sofar row phrases es (i + 1)) rest spans 0 p h (λ (q : ℕ) (a : q ≡ 0 + p → ⊥). sym (other i q (λ (x : p ≡ q). a (omega arith)))))
    go false t =
        let h = ltb-false p spans t in
        rw t (ap (λ (l : List ℕ). l ++ rest) (table-alike (sofar row phrases es i) (sofar row phrases es (i + 1)) spans 0 (λ (q : ℕ) (a : 0 ≤ q) (b : q < 0 + spans). sym (other i q (λ (x : p ≡ q). absurd (omega arith))))))

  -- ---- no sum is above the words times the frames
  sofar-most : (i p : ℕ) → sofar row phrases es i p ≤ i * length row
  unfolding each
  sofar-most zero p = omega arith
  sofar-most (suc i) p = subst (λ (k : ℕ). sofar row phrases es k p ≤ k * length row) (add-one i) (go (sofar-most i p) (eqb (get_or phrases i 0) p) refl) where
    more : (n u x f : ℕ) → n ≤ x → u ≤ f → n + u ≤ x + f
    more n u x f a b = omega arith

    less : (n x f : ℕ) → n ≤ x → n ≤ x + f
    less n x f a = omega arith

    go : sofar row phrases es i p ≤ i * length row → (t : Bool) → eqb (get_or phrases i 0) p ≡ t → sofar row phrases es (i + 1) p ≤ (i + 1) * length row
    go h true e =
        rw (own i p (eqb-true (get_or phrases i 0) p e), add-one i, suc-mul i (length row))
        (more (sofar row phrases es i p) (loud_under row (times_at es i)) (i * length row) (length row) h (under-most row (times_at es i)))
    go h false e = rw (other i p (eqb-false (get_or phrases i 0) p e), add-one i, suc-mul i (length row)) (less (sofar row phrases es i p) (i * length row) (length row) h)

  room : (spans i p : ℕ) (places : List ℕ) → i ≤ 4096 → length row ≤ 2 ^ 40 → p < spans → get_or (filled row phrases es spans i places) p 0 ≤ 2 ^ 52
  unfolding filled
  room spans i p places few short h =
      let z : 0 + p ≡ p = omega arith in
      rw (entry (sofar row phrases es i) (drop spans places) spans 0 p h, z) (le_trans (sofar-most i p) (mul-le-mul few short))

-- ---- the code's pass: `now` is what the places hold after i words
module _ (row : List Bool) (phrases : List ℕ) (es : Edges) (spans : ℕ) (places : List ℕ) where
  pub pass-begins : length places ≡ spans → places ≡ zeros spans → places ≡ filled row phrases es spans 0 places
  pass-begins n h = h ∙ sym (no-rest spans places (zeros spans) n) ∙ filled_none row phrases es spans places

  module _ (i : ℕ) {now : List ℕ} (is : now ≡ filled row phrases es spans i places) where
    pub pass-room : (p : ℕ) → i ≤ 4096 → length row ≤ 2 ^ 40 → p < spans → get_or now p 0 ≤ 2 ^ 52
    pass-room p few short h = rw is (room row phrases es spans i p places few short h)

    pub pass-next : {later : List ℕ} → later ≡ added_at spans (get_or phrases i 0) (loud_under row (times_at es i)) now → later ≡ filled row phrases es spans (i + 1) places
    pass-next h = h ∙ ap (added_at spans (get_or phrases i 0) (loud_under row (times_at es i))) is ∙ filled_next row phrases es spans i places

    pub pass-done : i ≡ length es.starts → now ≡ tallies row phrases es spans ++ drop spans places
    pass-done h = is ∙ filled-all row phrases es spans i places h

    pub pass-ends : length places ≡ spans → i ≡ length es.starts → now ≡ tallies row phrases es spans
    pass-ends n h = pass-done h ∙ no-rest spans places (tallies row phrases es spans) n

-- ---- a word whose number has no span counts nowhere: with other times it leaves every tally as it was
module _ (row : List Bool) (phrases : List ℕ) (es : Edges) (spans i : ℕ) (w : Times) (none : spans ≤ get_or phrases i 0) where
  same_turn : (p j n : ℕ) → p < spans → span_turn row phrases (set_times es i w) p j n ≡ span_turn row phrases es p j n
  unfolding span_turn
  same_turn p j n h = go (eqb (get_or phrases j 0) p) refl where
    go : (t : Bool) → eqb (get_or phrases j 0) p ≡ t
        → cond (eqb (get_or phrases j 0) p) (n + loud_under row (times_at (set_times es i w) j)) n ≡ cond (eqb (get_or phrases j 0) p) (n + loud_under row (times_at es j)) n
    go true t =
        let q = eqb-true (get_or phrases j 0) p t in
        let apart : j ≡ i → ⊥ = λ (e : j ≡ i). let a : get_or phrases i 0 ≡ p = ap (λ (k : ℕ). get_or phrases k 0) (sym e) ∙ q in absurd (omega arith) in
        rw (t, get_or-set_other es.starts i j w.start nan apart, get_or-set_other es.ends i j w.end nan apart)
    go false t = rw t

  pub no_span : tallies row phrases (set_times es i w) spans ≡ tallies row phrases es spans
  unfolding tallies span_tally
  no_span =
      table-alike (span_tally row phrases (set_times es i w)) (span_tally row phrases es) spans 0
      (λ (p : ℕ) (a : 0 ≤ p) (b : p < 0 + spans). rw (length-set es.starts i w.start) (each_same (span_turn row phrases (set_times es i w) p) (span_turn row phrases es p) (λ (j n : ℕ). same_turn p j n (omega arith)) (length es.starts) 0 0))
