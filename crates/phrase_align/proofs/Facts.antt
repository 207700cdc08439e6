-- Facts of placing: the new count is the least of the words and the sum of the counts; each word's phrase number is that of the span whose words it is
-- among; a word inside that span keeps both its times; letters, units and keys are those of the first words. By following the spans. Assumes nothing.
use Prim.Native.Nat.{ℕ, suc, ◌+◌, ◌-◌, ◌<◌, min}
use mathlib.Core.Path.{◌≡◌, refl, sym, ap, subst, ◌∙◌}
use mathlib.Core.Bool.{Bool, true, false}
use mathlib.Core.List.{List, [], ◌++◌}
use native.Mathlib.Omega.{arith}
use borrow.Author.Tests.{ltb-true, ltb-false}
use lib.Dec.{ltb}
use lib.ListN.{get_or, length, take, drop, replicate, length-append, length-replicate, get_or-replicate, get_or-append}
use lib.Seq.{length-take-le, take_all, get_or-append-add, get_or-take, get_or-drop}
use lib.Ieee.{Float, nan}
use Rattle.base.specs.Words.{Words, words, Spans, Edges, edges, times_at, count, part}
use Rattle.base.specs.Parts.{OneLength}
use Rattle.base.proofs.Loops.{each_holds}
use Rattle.base.proofs.Parts.{part-long, take_part, times-alike}
use Rattle.share.specs.Share.{sum}
use Rattle.share.proofs.Sums.{sum-nil, sum-take}
use Rattle.spread.specs.Spread.{inside, place_group}
use Rattle.phrase_align.specs.PhraseAlign.{Placing, group_of, extend, placed_in, place_turn, align_phrases}
use Rattle.spread.proofs.Long.{group-long}
use Rattle.spread.proofs.Untouched.{group-keeps}
use Rattle.phrase_align.specs.Placed.{word_times, PlacedWord}
use Rattle.phrase_align.proofs.Joined.{placing, turn-always, count-group}

module _ (all : Words) (even : OneLength (count all) all) (spans : Spans) (paired : length spans.counts ≡ length spans.starts) where
  pub record After (q : ℕ) (out : Placing) : Type 0 where
    pub counted : out.k ≡ sum (take q spans.counts)
    pub starts-long : length out.words.starts ≡ min out.k (count all)
    pub ends-long : length out.words.ends ≡ min out.k (count all)
    pub phrases-long : length out.phrases ≡ min out.k (count all)
    pub letters : out.words.letters ≡ take (min out.k (count all)) all.letters
    pub units : out.words.units ≡ take (min out.k (count all)) all.units
    pub keys : out.words.keys ≡ take (min out.k (count all)) all.keys
    pub each_word : (i : ℕ) → i < min out.k (count all) → PlacedWord all spans q (get_or out.phrases i 0) i (word_times out.words i)

  -- one span more, with words a to e
  module _ (q : ℕ) (out : Placing) (h : After q out) (in-spans : q < length spans.starts) (a e k : ℕ) (is : min out.k (count all) ≡ a) (e-is : e ≡ min k (count all)) (k-is : k ≡ out.k + get_or spans.counts q 0)
    where
      abbrev low : Float
      low = get_or spans.starts q nan

      abbrev high : Float
      high = get_or spans.ends q nan

      abbrev group : Edges
      group = edges (part a e all.starts) (part a e all.ends)

      abbrev given : Edges
      given = place_group (part a e all.letters) low high group

      group-starts : length group.starts ≡ e - a
      group-starts = part-long a e all.starts (omega (arith, even.0))

      group-ends : length group.ends ≡ e - a
      group-ends = part-long a e all.ends (omega (arith, even.1.0))

      given-starts : length given.starts ≡ e - a
      given-starts = ap (λ (n : ℕ × ℕ). n.0) (group-long (part a e all.letters) low high group) ∙ group-starts

      given-ends : length given.ends ≡ e - a
      given-ends = ap (λ (n : ℕ × ℕ). n.1) (group-long (part a e all.letters) low high group) ∙ group-ends

      joined-long : {A : Type 0} (xs ys : List A) → length xs ≡ min out.k (count all) → length ys ≡ e - a → length (xs ++ ys) ≡ min k (count all)
      joined-long xs ys l m = rw (length-append, l, m) (omega arith)

      taken : {A : Type 0} (xs zs : List A) → xs ≡ take (min out.k (count all)) zs → xs ++ part a e zs ≡ take (min k (count all)) zs
      taken {A = A} xs zs l = rw (← e-is) (ap (λ (v : List A). v ++ part a e zs) (l ∙ ap (λ (n : ℕ). take n zs) is) ∙ take_part a e zs (omega arith))

      -- a word placed before, and a word of this span
      next-sum : sum (take (suc q) spans.counts) ≡ k
      next-sum = sum-take spans.counts q (omega arith) ∙ rw (← h.counted) (sym k-is)

      first_part : {A : Type 0} (xs ys : List A) (d : A) (i : ℕ) → length xs ≡ min out.k (count all) → i < a → get_or (xs ++ ys) i d ≡ get_or xs i d
      first_part xs ys d i l m = get_or-append xs ys d i (omega arith)

      second-part : {A : Type 0} (xs ys : List A) (d : A) (j : ℕ) → length xs ≡ min out.k (count all) → get_or (xs ++ ys) (a + j) d ≡ get_or ys j d
      second-part xs ys d j l = let z : a ≡ length xs = sym (l ∙ is) in rw z (get_or-append-add xs ys j d)

      group_at : (xs : List Float) (j : ℕ) → j < e - a → get_or (part a e xs) j nan ≡ get_or xs (a + j) nan
      group_at xs j l = get_or-take (e - a) (drop a xs) j nan l ∙ get_or-drop a xs j nan

      abbrev after : Words
      after = extend out.words (placed_in spans q (group_of a e all))

      abbrev numbers : List ℕ
      numbers = out.phrases ++ replicate (e - a) q

      earlier : (i : ℕ) → i < a → word_times after i ≡ word_times out.words i
      unfolding extend
      earlier i l = times-alike (first_part out.words.starts _ nan i h.starts-long l) (first_part out.words.ends _ nan i h.ends-long l)

      now-placed : (j : ℕ) → word_times after (a + j) ≡ times_at given j
      unfolding extend placed_in group_of
      now-placed j = times-alike (second-part out.words.starts given.starts nan j h.starts-long) (second-part out.words.ends given.ends nan j h.ends-long)

      was-given : (j : ℕ) → j < e - a → times_at group j ≡ word_times all (a + j)
      was-given j l = times-alike (group_at all.starts j l) (group_at all.ends j l)

      old-word : (i : ℕ) → i < a → PlacedWord all spans (suc q) (get_or numbers i 0) i (word_times after i)
      old-word i l =
          let w = h.each_word i (omega arith) in
          rw (earlier i l, first_part out.phrases (replicate (e - a) q) 0 i h.phrases-long l)
          (record { number = omega (arith, w.number); from = w.from; before = w.before; inside-keeps = w.inside-keeps })

      new_word : (j : ℕ) → a + j < e → PlacedWord all spans (suc q) (get_or numbers (a + j) 0) (a + j) (word_times after (a + j))
      new_word j l =
          let m : j < e - a = omega arith in
          let n : get_or numbers (a + j) 0 ≡ q = second-part out.phrases (replicate (e - a) q) 0 j h.phrases-long ∙ get_or-replicate (e - a) j q 0 m in
          rw (n, now-placed j)
          (record {
            number = omega arith;
            from = omega (arith, h.counted);
            before = omega (arith, next-sum);
            inside-keeps = λ t.
                group-keeps (part a e all.letters) low high group j (group-ends ∙ sym group-starts) (omega (arith, group-starts)) (ap (inside low high) (was-given j m) ∙ t) ∙ was-given j m;
          })

      words-after : (i : ℕ) → i < min k (count all) → PlacedWord all spans (suc q) (get_or numbers i 0) i (word_times after i)
      words-after i l = go (ltb i a) refl
        where
          go : (t : Bool) → ltb i a ≡ t → PlacedWord all spans (suc q) (get_or numbers i 0) i (word_times after i)
          go true t = old-word i (ltb-true i a t)
          go false t = let z : a + (i - a) ≡ i = omega (arith, ltb-false i a t) in subst (λ (n : ℕ). PlacedWord all spans (suc q) (get_or numbers n 0) n (word_times after n)) z (new_word (i - a) (omega arith))

      span-after : After (suc q) (placing after numbers k)
      unfolding extend placed_in group_of
      span-after = record {
        counted = sym next-sum;
        starts-long = joined-long out.words.starts given.starts h.starts-long given-starts;
        ends-long = joined-long out.words.ends given.ends h.ends-long given-ends;
        phrases-long = joined-long out.phrases (replicate (e - a) q) h.phrases-long (length-replicate (e - a) q);
        letters = taken out.words.letters all.letters h.letters;
        units = taken out.words.units all.units h.units;
        keys = taken out.words.keys all.keys h.keys;
        each_word = words-after;
      }

  turn-after : (q : ℕ) (out : Placing) → q < length spans.starts → After q out → After (suc q) (place_turn all spans q out)
  turn-after q out l h =
      let n = count all in
      let a = min out.k n in
      let e = min (out.k + get_or spans.counts q 0) n in
      rw (turn-always all spans q out, count-group all spans q out a e (omega arith)) (span-after q out h l a e (out.k + get_or spans.counts q 0) refl refl refl)

  -- ---- all spans
  pub placed-after : After (length spans.starts) (align_phrases all spans)
  unfolding align_phrases
  placed-after =
      each_holds After (place_turn all spans) (length spans.starts) turn-after (length spans.starts) 0 (placing (words [] [] [] [] []) [] 0) (omega arith)
      (record {
        counted = sym sum-nil;
        starts-long = none;
        ends-long = none;
        phrases-long = none;
        letters = ap (λ (n : ℕ). take n all.letters) none;
        units = ap (λ (n : ℕ). take n all.units) none;
        keys = ap (λ (n : ℕ). take n all.keys) none;
        each_word = λ i l. absurd (omega arith);
      })
    where
      none : 0 ≡ min 0 (count all)
      none = omega arith

  -- ---- The new count is the least of the words and the sum of the counts.
  pub count-least : count (align_phrases all spans).words ≡ min (sum spans.counts) (count all)
  count-least =
      let w = placed-after in
      let s : sum (take (length spans.starts) spans.counts) ≡ sum spans.counts = ap sum (take_all (length spans.starts) spans.counts (omega arith)) in
      rw (w.keys, w.counted, s) (length-take-le (min (sum spans.counts) (count all)) all.keys (omega arith))
