-- What an accepted call of `align_phrases` answers and leaves, in plain words: the new count is the least of the words and the sum of the counts; each
-- word kept has the number of the span among whose words it is, keeps both its times where it is inside that span, and its letters, units and key; the other
-- words' places become zero, and further phrase places stay. Assumes nothing.
use Prim.Native.Nat.{ℕ, ◌-◌, ◌<◌, min}
use mathlib.Core.Path.{◌≡◌, sym, ap, ◌∙◌}
use mathlib.Core.Bool.{true}
use mathlib.Core.List.{List, ◌++◌, append_assoc}
use native.Mathlib.Omega.{arith}
use lib.ListN.{get_or, length, drop, length-append, get_or-append, take, replicate}
use lib.Seq.{length-take-le, drop_at}
use lib.Ieee.{nan}
use Rattle.base.specs.Words.{Words, Spans, count, in_places, zero_f, words_in_places}
use Rattle.base.specs.Refusals.{accepts, says}
use Rattle.word_calls.proofs.Within.{one-length}
use Rattle.share.specs.Share.{sum}
use Rattle.spread.specs.Spread.{inside}
use Rattle.phrase_align.specs.PhraseAlign.{align_phrases, in_their_places, align_call}
use Rattle.phrase_align.specs.Placed.{word_times, PlacedWord, Leaves}
use Rattle.phrase_align.proofs.Calls.{accepted-answer}
use Rattle.phrase_align.proofs.Facts.{placed-after, count-least}

module _ (ws : Words) (spans : Spans) (phrases : List ℕ) (n : ℕ) (given : says (align_call ws spans phrases).answer ≡ accepts n) where
  -- ---- "The new count is given back."
  pub count-given : n ≡ min (sum spans.counts) (count ws)
  count-given =
      let a = accepted-answer ws spans phrases n given in
      a.1.0 ∙ count-least ws (one-length a.0.words-within) spans a.0.spans-within.counts-as-long

  -- ---- each word kept, with its phrase number
  pub word-placed : (i : ℕ) → i < n → PlacedWord ws spans (length spans.starts) (get_or (align_call ws spans phrases).phrases i 0) i (word_times (align_call ws spans phrases).words i)
  unfolding words_in_places in_their_places
  word-placed i h =
      let a = accepted-answer ws spans phrases n given in
      let w = placed-after ws (one-length a.0.words-within) spans a.0.spans-within.counts-as-long in
      let out = align_phrases ws spans in
      let c : count out.words ≡ min out.k (count ws) = rw w.keys (length-take-le (min out.k (count ws)) ws.keys (omega arith)) in
      let l : i < min out.k (count ws) = omega (arith, a.1.0) in
      let s : get_or (in_places zero_f (count ws) out.words.starts) i nan ≡ get_or out.words.starts i nan = get_or-append out.words.starts _ nan i (omega (arith, w.starts-long)) in
      let e : get_or (in_places zero_f (count ws) out.words.ends) i nan ≡ get_or out.words.ends i nan = get_or-append out.words.ends _ nan i (omega (arith, w.ends-long)) in
      let p : get_or (in_places 0 (count ws) out.phrases ++ drop (count ws) phrases) i 0 ≡ get_or out.phrases i 0 =
      get_or-append (in_places 0 (count ws) out.phrases) _ 0 i (rw length-append (omega (arith, w.phrases-long))) ∙ get_or-append out.phrases _ 0 i (omega (arith, w.phrases-long)) in
      rw (a.1.1, s, e, p) (w.each_word i l)

  -- ---- a word inside its span is untouched
  pub untouched : (i : ℕ) → i < n → (let p = get_or (align_call ws spans phrases).phrases i 0 in inside (get_or spans.starts p nan) (get_or spans.ends p nan) (word_times ws i) ≡ true)
      → word_times (align_call ws spans phrases).words i ≡ word_times ws i
  untouched i h t = (word-placed i h).inside-keeps t

  -- ---- what else the call leaves
  pub leaves : Leaves ws phrases n (align_call ws spans phrases).words (align_call ws spans phrases).phrases
  unfolding words_in_places in_their_places
  leaves =
      let a = accepted-answer ws spans phrases n given in
      let w = placed-after ws (one-length a.0.words-within) spans a.0.spans-within.counts-as-long in
      let out = align_phrases ws spans in
      let c : min out.k (count ws) ≡ n = sym (a.1.0 ∙ rw w.keys (length-take-le (min out.k (count ws)) ws.keys (omega arith))) in
      let s : length out.words.starts ≡ n = w.starts-long ∙ c in
      let e : length out.words.ends ≡ n = w.ends-long ∙ c in
      let f : length out.phrases ≡ n = w.phrases-long ∙ c in
      rw a.1.1
      (record {
        letters = ap (in_places 0 (count ws)) (w.letters ∙ ap (λ (k : ℕ). take k ws.letters) c);
        units = ap (in_places 0 (count ws)) (w.units ∙ ap (λ (k : ℕ). take k ws.units) c);
        keys = ap (in_places 0 (count ws)) (w.keys ∙ ap (λ (k : ℕ). take k ws.keys) c);
        starts-dropped = behind out.words.starts zero_f s;
        ends-dropped = behind out.words.ends zero_f e;
        numbers-dropped =
            ap (drop n) (append_assoc out.phrases (replicate (count ws - length out.phrases) 0) (drop (count ws) phrases))
            ∙ drop_at out.phrases (replicate (count ws - length out.phrases) 0 ++ drop (count ws) phrases) n f ∙ ap (λ (k : ℕ). replicate (count ws - k) 0 ++ drop (count ws) phrases) f;
      })
    where
      behind : {A : Type 0} (xs : List A) (z : A) → length xs ≡ n → drop n (in_places z (count ws) xs) ≡ replicate (count ws - n) z
      behind xs z l = drop_at xs (replicate (count ws - length xs) z) n l ∙ ap (λ (k : ℕ). replicate (count ws - k) z) l
