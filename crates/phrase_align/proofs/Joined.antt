-- Placing in place, joined with the definition that builds the placed words from groups: of the words held in place, the first ones are those placed so
-- far, and the rest stand as they were given. Assumes nothing.
use Prim.Native.Nat.{ℕ, ◌+◌, ◌-◌, ◌≤◌, ◌<◌, min}
use mathlib.Core.Path.{◌≡◌, refl, sym, ap, subst, ◌∙◌}
use mathlib.Core.Bool.{Bool, true, false, cond}
use mathlib.Core.List.{List, [], ◌++◌, append-nil, append_assoc}
use native.Mathlib.Omega.{arith}
use borrow.Author.Tests.{eqb-true}
use lib.Dec.{eqb}
use lib.ListN.{get_or, length, take, drop, replicate, length-replicate}
use lib.Seq.{length-take-le, drop-drop}
use lib.Ieee.{Float, nan}
use Rattle.base.specs.Loop.{each}
use Rattle.base.specs.Words.{Words, words, Spans, Edges, edges, with_edges, count, part, with_part, part_edges, on_part, in_places}
use Rattle.base.specs.Parts.{OneLength, first_words}
use Rattle.base.proofs.Loops.{each-alike}
use Rattle.base.proofs.Cleared.{words-alike}
use Rattle.base.proofs.Lists.{part_length}
use Rattle.base.proofs.Parts.{part_none, part-long, back-first, back-rest, take_part}
use Rattle.share.specs.Share.{share}
use Rattle.spread.specs.Spread.{first_inside, spread, place_group}
use Rattle.phrase_align.specs.PhraseAlign.{Placing, group_of, extend, placed_in, place_turn, align_phrases}
use Rattle.phrase_align.specs.Parts.{Held, held, held_span, held_turn, held_spans}
use Rattle.spread.proofs.Long.{group-long}

abbrev pub placing : Words → List ℕ → ℕ → Placing
placing ws f k = record { words = ws; phrases = f; k = k }

-- ---- a span that gets no words: placing none of them adds nothing
none-placed : (from to : Float) → place_group [] from to (edges [] []) ≡ edges [] []
unfolding place_group first_inside spread share each Rattle.base.specs.Loop.up
none-placed from to = refl

module _ (all : Words) (spans : Spans) (p : ℕ) (out : Placing) where
  abbrev next : ℕ
  next = out.k + get_or spans.counts p 0

  abbrev group : Words
  group = group_of (min out.k (count all)) (min next (count all)) all

  abbrev turned : Placing
  turned = placing (extend out.words (placed_in spans p group)) (out.phrases ++ replicate (count group) p) next

  -- the words of a group from a to a
  empty-adds : (a : ℕ) → extend out.words (placed_in spans p (group_of a a all)) ≡ out.words
  unfolding extend placed_in group_of
  empty-adds a =
      rw (part_none a all.starts, part_none a all.ends, part_none a all.letters, part_none a all.units, part_none a all.keys, none-placed (get_or spans.starts p nan) (get_or spans.ends p nan))
      (words-alike (append-nil out.words.starts) (append-nil out.words.ends) (append-nil out.words.letters) (append-nil out.words.units) (append-nil out.words.keys))

  pub count-group : (a e : ℕ) → e ≤ count all → count (group_of a e all) ≡ e - a
  unfolding group_of
  count-group a e h = part-long a e all.keys h

  -- so the turn is the same for a span that gets no words
  pub turn-always : place_turn all spans p out ≡ turned
  unfolding place_turn
  turn-always = go (eqb (count group) 0) refl
    where
      a : ℕ
      a = min out.k (count all)

      e : ℕ
      e = min next (count all)

      alike : {ws vs : Words} {f g : List ℕ} → ws ≡ vs → f ≡ g → placing ws f next ≡ placing vs g next
      alike q r = rw (q, r)

      go : (t : Bool) → eqb (count group) 0 ≡ t → cond (eqb (count group) 0) (placing out.words out.phrases next) turned ≡ turned
      go false t = rw t
      go true t =
          let none : count group ≡ 0 = eqb-true (count group) 0 t in
          let z : e ≡ a = omega (arith, count-group a e (omega arith)) in
          rw t (alike (sym (ap (λ (n : ℕ). extend out.words (placed_in spans p (group_of a n all))) z ∙ empty-adds a)) (rw none (sym (append-nil out.phrases))))

-- ---- where both stand: so many words are placed, and the rest are as they were given
module _ (all : Words) (even : OneLength (count all) all) (phrases : List ℕ) (room : count all ≤ length phrases) where
  pub record Stands (h : Held) (out : Placing) : Type 0 where
    pub at : h.at ≡ min out.k (count all)
    pub long-starts : length h.edges.starts ≡ count all
    pub long-ends : length h.edges.ends ≡ count all
    pub long-phrases : length h.phrases ≡ length phrases
    pub placed : first_words h.at (with_edges h.edges all) ≡ out.words
    pub numbered : take h.at h.phrases ≡ out.phrases
    pub rest-starts : drop h.at h.edges.starts ≡ drop h.at all.starts
    pub rest-ends : drop h.at h.edges.ends ≡ drop h.at all.ends
    pub rest-phrases : drop h.at h.phrases ≡ drop h.at phrases

  -- lists that are alike from a on are alike from e on
  later : {A : Type 0} (a e : ℕ) (xs ys : List A) → a ≤ e → drop a xs ≡ drop a ys → drop e xs ≡ drop e ys
  later a e xs ys h k =
      let z : a + (e - a) ≡ e = omega arith in
      ap (λ (n : ℕ). drop n xs) (sym z) ∙ sym (drop-drop (e - a) a xs) ∙ ap (drop (e - a)) k ∙ drop-drop (e - a) a ys ∙ ap (λ (n : ℕ). drop n ys) z

  -- one span, with words a to e
  module _ (spans : Spans) (p : ℕ) (h : Held) (out : Placing) (s : Stands h out) (a e k : ℕ) (is : h.at ≡ a) (from : a ≤ e) (to : e ≤ count all) (after : e ≡ min k (count all)) where
    abbrev low : Float
    low = get_or spans.starts p nan

    abbrev high : Float
    high = get_or spans.ends p nan

    -- what the group's words get
    abbrev given : Edges
    given = place_group (part a e all.letters) low high (edges (part a e all.starts) (part a e all.ends))

    same-starts : part a e h.edges.starts ≡ part a e all.starts
    same-starts = ap (take (e - a)) (rw is at s.rest-starts)

    same_ends : part a e h.edges.ends ≡ part a e all.ends
    same_ends = ap (take (e - a)) (rw is at s.rest-ends)

    same-given : place_group (part a e all.letters) low high (part_edges a e h.edges) ≡ given
    unfolding part_edges
    same-given = rw (same-starts, same_ends)

    given-starts : length given.starts ≡ e - a
    given-starts = ap (λ (n : ℕ × ℕ). n.0) (group-long (part a e all.letters) low high (edges (part a e all.starts) (part a e all.ends))) ∙ part-long a e all.starts (omega (arith, even.0))

    given-ends : length given.ends ≡ e - a
    given-ends = ap (λ (n : ℕ × ℕ). n.1) (group-long (part a e all.letters) low high (edges (part a e all.starts) (part a e all.ends))) ∙ part-long a e all.ends (omega (arith, even.1.0))

    -- the lists afterwards
    abbrev starts : List Float
    starts = with_part a e h.edges.starts given.starts

    abbrev ends : List Float
    ends = with_part a e h.edges.ends given.ends

    abbrev numbers : List ℕ
    numbers = with_part a e h.phrases (replicate (e - a) p)

    lists-are : held_span all.letters low high a e p h ≡ held starts ends numbers e
    unfolding held_span on_part
    lists-are = rw same-given

    -- the words placed before
    first-words : first_words a (with_edges h.edges all) ≡ out.words
    first-words = rw is at s.placed

    -- one list: the first a, then the group's
    joins : {A : Type 0} (xs ys zs : List A) → length xs ≡ count all → length ys ≡ e - a → take a xs ≡ zs → take e (with_part a e xs ys) ≡ zs ++ ys
    joins {A = A} xs ys zs l m q = back-first a e xs ys from (omega arith) m ∙ ap (λ (v : List A). v ++ ys) q

    stays : {A : Type 0} (xs zs : List A) → take a xs ≡ zs → take e xs ≡ zs ++ part a e xs
    stays {A = A} xs zs q = sym (take_part a e xs from) ∙ ap (λ (v : List A). v ++ part a e xs) q

    placed-now : first_words e (with_edges (edges starts ends) all) ≡ extend out.words (placed_in spans p (group_of a e all))
    unfolding first_words extend placed_in group_of
    placed-now =
        words-alike (joins h.edges.starts given.starts out.words.starts s.long-starts given-starts (ap (λ (ws : Words). ws.starts) first-words))
        (joins h.edges.ends given.ends out.words.ends s.long-ends given-ends (ap (λ (ws : Words). ws.ends) first-words))
        (stays all.letters out.words.letters (ap (λ (ws : Words). ws.letters) first-words)) (stays all.units out.words.units (ap (λ (ws : Words). ws.units) first-words))
        (stays all.keys out.words.keys (ap (λ (ws : Words). ws.keys) first-words))

    rests : {A : Type 0} (xs ys zs : List A) → e ≤ length xs → length ys ≡ e - a → drop h.at xs ≡ drop h.at zs → drop e (with_part a e xs ys) ≡ drop e zs
    rests xs ys zs l m q = back-rest a e xs ys from l m ∙ later a e xs zs from (rw is at q)

    span-stands : Stands (held_span all.letters low high a e p h) (placing (extend out.words (placed_in spans p (group_of a e all))) (out.phrases ++ replicate (e - a) p) k)
    span-stands =
        let many : length (replicate (e - a) p) ≡ e - a = length-replicate (e - a) p in
        let few : e ≤ length h.phrases = omega (arith, s.long-phrases) in
        rw lists-are
        (record {
          at = after;
          long-starts = part_length h.edges.starts given.starts a e from (omega (arith, s.long-starts)) given-starts ∙ s.long-starts;
          long-ends = part_length h.edges.ends given.ends a e from (omega (arith, s.long-ends)) given-ends ∙ s.long-ends;
          long-phrases = part_length h.phrases (replicate (e - a) p) a e from few many ∙ s.long-phrases;
          placed = placed-now;
          numbered = back-first a e h.phrases (replicate (e - a) p) from few many ∙ ap (λ (v : List ℕ). v ++ replicate (e - a) p) (rw is at s.numbered);
          rest-starts = rests h.edges.starts given.starts all.starts (omega (arith, s.long-starts)) given-starts s.rest-starts;
          rest-ends = rests h.edges.ends given.ends all.ends (omega (arith, s.long-ends)) given-ends s.rest-ends;
          rest-phrases = rests h.phrases (replicate (e - a) p) phrases few many s.rest-phrases;
        })

  turn-stands : (spans : Spans) (p : ℕ) (h : Held) (out : Placing) → Stands h out → Stands (held_turn all.letters spans p h) (place_turn all spans p out)
  unfolding held_turn
  turn-stands spans p h out s =
      let n = count all in
      let c = get_or spans.counts p 0 in
      let a = min out.k n in
      let e = min (out.k + c) n in
      let to : min (length all.letters) (h.at + c) ≡ e = omega (arith, even.1.1.0, s.at) in
      let many : count (group_of a e all) ≡ e - a = count-group all spans p out a e (omega arith) in
      let given = extend out.words (placed_in spans p (group_of a e all)) in
      rw (turn-always all spans p out, to, many)
      (subst (λ (x : ℕ). Stands (held_span all.letters (get_or spans.starts p nan) (get_or spans.ends p nan) x e p h) (placing given (out.phrases ++ replicate (e - a) p) (out.k + c))) (sym s.at)
      (span-stands spans p h out s a e (out.k + c) s.at (omega arith) (omega arith) refl))

  spans-stand : (spans : Spans) → length spans.counts ≡ length spans.starts → Stands (held_spans all.letters spans (held all.starts all.ends phrases 0)) (align_phrases all spans)
  unfolding held_spans align_phrases
  spans-stand spans l =
      rw l
      (each-alike (λ (_ : ℕ). Stands) (held_turn all.letters spans) (place_turn all spans) 0 (length spans.starts)
      (λ (i : ℕ) (h : Held) (out : Placing) (_ : i < length spans.starts) (s : Stands h out). go i h out s) (length spans.starts) 0 (held all.starts all.ends phrases 0)
      (placing (words [] [] [] [] []) [] 0) (omega arith) begin)
    where
      go : (i : ℕ) (h : Held) (out : Placing) → Stands h out → Stands (held_turn all.letters spans (0 + i) h) (place_turn all spans i out)
      go i h out s = let z : 0 + i ≡ i = omega arith in rw z (turn-stands spans i h out s)

      begin : Stands (held all.starts all.ends phrases 0) (placing (words [] [] [] [] []) [] 0)
      begin = record {
        at = let z : 0 ≡ min 0 (count all) = omega arith in z;
        long-starts = even.0;
        long-ends = even.1.0;
        long-phrases = refl;
        placed = unfold first_words in refl;
        numbered = refl;
        rest-starts = refl;
        rest-ends = refl;
        rest-phrases = refl;
      }

  -- ---- what the code leaves: the words placed, and their count and numbers
  module _ (spans : Spans) (l : length spans.counts ≡ length spans.starts) {s e : List Float} {f : List ℕ} {r : ℕ}
      (is : held s e f r ≡ held_spans all.letters spans (held all.starts all.ends phrases 0)) (most : r ≤ count all) where
    stands : Stands (held s e f r) (align_phrases all spans)
    stands = rw is (spans-stand spans l)

    pub words_are : first_words r (words s e all.letters all.units all.keys) ≡ (align_phrases all spans).words
    words_are = stands.placed

    pub counted : count (align_phrases all spans).words ≡ r
    unfolding first_words
    counted = rw (← words_are) (length-take-le r all.keys most)

    pub numbers-are : with_part r (count all) f (replicate (count all - r) 0) ≡ in_places 0 (count all) (align_phrases all spans).phrases ++ drop (count all) phrases
    numbers-are =
        let n = count all in
        let t : length (take r f) ≡ r = length-take-le r f (omega (arith, stands.long-phrases)) in
        let z : r + (n - r) ≡ n = omega arith in
        let d : drop (n - r) (drop r f) ≡ drop n phrases = ap (drop (n - r)) stands.rest-phrases ∙ drop-drop (n - r) r phrases ∙ ap (λ (k : ℕ). drop k phrases) z in
        rw (← stands.numbered, t, d) (sym (append_assoc (take r f) (replicate (n - r) 0) (drop n phrases)))
