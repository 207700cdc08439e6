-- The stages in a row: what each leaves is what the next takes, and the words that are left stand in the first places. Assumes nothing.
use Rattle.base.specs.declared.Refusal.{Refusal}
use Rattle.std.specs.Prelude.{Ok, Err, Result}
use Prim.Native.Nat.{ℕ, ◌-◌, ◌≤◌, min}
use mathlib.Core.Path.{◌≡◌, refl, sym, ap, subst, ◌∙◌}
use mathlib.Core.Bool.{Bool}
use mathlib.Core.List.{List, ◌++◌, append_assoc}
use native.Mathlib.Omega.{arith}
use borrow.Author.Tests.{ne_eqb}
use lib.ListN.{length, drop, replicate}
use lib.Seq.{length-take-le, take_at}
use lib.Ieee.{Float}
use Rattle.base.specs.Words.{Words, words, Spans, Edges, edges, with_edges, count, part, with_part, words_in_places, zero_f}
use Rattle.base.specs.Parts.{OneLength}
use Rattle.base.proofs.Parts.{part-long}
use Rattle.tails.specs.Tails.{hand_back_tails}
use Rattle.onsets.specs.Onsets.{snap_onsets}
use Rattle.ends.specs.Ends.{snap_ends}
use Rattle.phrase_align.specs.PhraseAlign.{Placing, align_phrases, in_their_places, Output, output, accepted}
use Rattle.phrase_align.proofs.Facts.{After, placed-after}
use Rattle.fit_to_sound.specs.FitToSound.{fit_to_sound}
use Rattle.fit_file.specs.FitFile.{fit_file}
use Rattle.run_stages.specs.Stages.{Settled, snapped, by_phrase, as_one, settled}
use Rattle.run_stages.specs.Parts.{Settling}
use Rattle.run_stages.proofs.Places.{places-all, places-first, places-back}

-- ---- words whose times were moved are still ready: their lists are as long as before
pub still-ready : {s s₀ e e₀ k : ℕ} {Others Rest : Type 0} → s ≡ s₀ → e ≡ e₀ → ((s₀ ≡ k) × ((e₀ ≡ k) × Others)) × Rest → ((s ≡ k) × ((e ≡ k) × Others)) × Rest
still-ready p q ((es, (ee, others)), rest) = ((p ∙ es, (q ∙ ee, others)), rest)

-- ---- words settled after they were snapped
pub time-is : {s e : List Float} {n : ℕ} {after : Words} {numbers : List ℕ} (row : List Bool) (duration : Float) (spans : Spans) (phrases : List ℕ) (ws : Words) (places : ℕ)
    → edges s e ≡ snap_ends row duration ws.units (snap_onsets row (hand_back_tails row ws.letters (edges ws.starts ws.ends)))
    → Settling (settled row duration spans phrases (words s e ws.letters ws.units ws.keys)) places n after numbers
    → Settling (settled row duration spans phrases (snapped row duration ws)) places n after numbers
unfolding snapped
time-is {s} {e} {n} {after} {numbers} row duration spans phrases ws places h settling =
    subst (λ (es : Edges). Settling (settled row duration spans phrases (with_edges es ws)) places n after numbers) h settling

module _ (row : List Bool) (duration : Float) (spans : Spans) (phrases : List ℕ) (ws : Words) where
  settled-none : length spans.starts ≡ 0 → settled row duration spans phrases ws ≡ as_one row duration phrases ws
  unfolding settled
  settled-none z = rw z

  settled-some : (length spans.starts ≡ 0 → ⊥) → settled row duration spans phrases ws ≡ by_phrase row duration spans phrases ws
  unfolding settled
  settled-some h = rw (ne_eqb (length spans.starts) 0 h)

  -- ---- without spans
  pub whole_is : {s e : List Float} → OneLength (count ws) ws → length spans.starts ≡ 0 → edges s e ≡ fit_to_sound row duration ws.letters (edges ws.starts ws.ends)
      → length s ≡ length ws.starts → length e ≡ length ws.ends → Settling (settled row duration spans phrases ws) (count ws) (count ws) (words s e ws.letters ws.units ws.keys) phrases
  unfolding as_one words_in_places
  whole_is {s} {e} (es, (ee, (el, (eu, ek)))) z h ls le =
      subst (λ (f : Settled). Settling f (count ws) (count ws) (words s e ws.letters ws.units ws.keys) phrases) (sym (settled-none z))
      (subst (λ (t : Edges). Settling (record { words = with_edges t ws; phrases = phrases }) (count ws) (count ws) (words s e ws.letters ws.units ws.keys) phrases) h
      (record {
        words = rw (← places-all zero_f (count ws) s (ls ∙ es), ← places-all zero_f (count ws) e (le ∙ ee), ← places-all 0 (count ws) ws.letters el, ← places-all 0 (count ws) ws.units eu, ← places-all 0 (count ws) ws.keys ek);
        count = refl;
        phrases = refl;
      }))

  -- ---- with spans
  pub phrased-is : {n : ℕ} {after : Words} {numbers : List ℕ} (places : ℕ) → (length spans.starts ≡ 0 → ⊥) → Settling (by_phrase row duration spans phrases ws) places n after numbers
      → Settling (settled row duration spans phrases ws) places n after numbers
  phrased-is {n} {after} {numbers} places h = subst (λ (f : Settled). Settling f places n after numbers) (sym (settled-some h))

-- ---- the count in an answer
abbrev given : Result ℕ Refusal → ℕ
given (Ok n) = n
given (Err r) = 0

module _ (spans : Spans) (phrases : List ℕ) (ws : Words) (even : OneLength (count ws) ws) (paired : length spans.counts ≡ length spans.starts)
    {n : ℕ} {after : Words} {numbers : List ℕ} (placed : output (Ok n) after numbers ≡ accepted (align_phrases ws spans) (count ws) phrases) where
  abbrev out : Placing
  out = align_phrases ws spans

  abbrev facts : After ws even spans paired (length spans.starts) out
  facts = placed-after ws even spans paired

  long : ℕ
  long = min out.k (count ws)

  keys-long : length out.words.keys ≡ min out.k (count ws)
  keys-long = rw facts.keys (length-take-le (min out.k (count ws)) ws.keys (omega arith))

  letters-long : length out.words.letters ≡ min out.k (count ws)
  letters-long = rw facts.letters (length-take-le (min out.k (count ws)) ws.letters (omega (arith, even.1.1.0)))

  count-is : n ≡ count out.words
  count-is = ap (λ (o : Output). given o.answer) placed

  n-long : n ≡ min out.k (count ws)
  n-long = count-is ∙ keys-long

  words_are : after ≡ words_in_places (count ws) out.words
  unfolding in_their_places
  words_are = ap (λ (o : Output). o.words) placed

  numbers-are : numbers ≡ (in_their_places out (count ws) phrases).phrases
  numbers-are = ap (λ (o : Output). o.phrases) placed

  -- ---- no more words than before
  pub fewer : n ≤ count ws
  fewer = omega (arith, n-long)

  starts-part : part 0 n after.starts ≡ out.words.starts
  unfolding words_in_places
  starts-part = rw words_are (places-first zero_f (count ws) n out.words.starts (facts.starts-long ∙ sym n-long))

  ends-part : part 0 n after.ends ≡ out.words.ends
  unfolding words_in_places
  ends-part = rw words_are (places-first zero_f (count ws) n out.words.ends (facts.ends-long ∙ sym n-long))

  letters-part : part 0 n after.letters ≡ out.words.letters
  unfolding words_in_places
  letters-part = rw words_are (places-first 0 (count ws) n out.words.letters (letters-long ∙ sym n-long))

  numbers-part : part 0 n numbers ≡ out.phrases
  unfolding in_their_places
  numbers-part =
      let z : n - 0 ≡ n = omega arith in
      rw (numbers-are, z, append_assoc out.phrases (replicate (count ws - length out.phrases) 0) (drop (count ws) phrases))
      (take_at out.phrases (replicate (count ws - length out.phrases) 0 ++ drop (count ws) phrases) n (facts.phrases-long ∙ sym n-long))

  -- ---- the words that are left, fitted
  pub fitted-is : {s e : List Float} (row : List Bool) (duration : Float)
      → edges s e ≡ fit_file row duration (part 0 n after.letters) (part 0 n numbers) (edges spans.starts spans.ends) (edges (part 0 n after.starts) (part 0 n after.ends))
      → length s ≡ length (part 0 n after.starts) → length e ≡ length (part 0 n after.ends)
      → Settling (by_phrase row duration spans phrases ws) (count ws) n (words (with_part 0 n after.starts s) (with_part 0 n after.ends e) after.letters after.units after.keys) numbers
  unfolding by_phrase words_in_places
  fitted-is {s} {e} row duration h ls le =
      let all : Words = out.words in
      let t : edges s e ≡ fit_file row duration all.letters out.phrases (edges spans.starts spans.ends) (edges all.starts all.ends) =
      h ∙ rw (letters-part, numbers-part, starts-part, ends-part) in
      let long-s : length s ≡ n = ls ∙ ap (λ (xs : List Float). length xs) starts-part ∙ facts.starts-long ∙ sym n-long in
      let long-e : length e ≡ n = le ∙ ap (λ (xs : List Float). length xs) ends-part ∙ facts.ends-long ∙ sym n-long in
      record {
        words = rw (← t, words_are, places-back zero_f (count ws) n all.starts s (facts.starts-long ∙ sym n-long) long-s, places-back zero_f (count ws) n all.ends e (facts.ends-long ∙ sym n-long) long-e);
        count = count-is;
        phrases = numbers-are;
      }

-- ---- the first n words have what the fit by phrase requires
pub fit-ready : {a b d : ℕ} (n m : ℕ) (s e : List Float) (l p : List ℕ) → n ≤ m → length s ≡ m → length e ≡ m → length l ≡ m → m ≤ length p → m ≤ 4096
    → m ≤ a → m ≤ b → m ≤ d
    → (length (part 0 n e) ≡ length (part 0 n s)) × ((length (part 0 n l) ≡ length (part 0 n s)) × ((length (part 0 n p) ≡ length (part 0 n s)) × ((length (part 0 n s) ≤ 4096)
    × ((length (part 0 n s) ≤ a) × ((length (part 0 n s) ≤ b) × (length (part 0 n s) ≤ d))))))
fit-ready n m s e l p h ls le ll lp few wa wb wd =
    rw (part-long 0 n s (omega arith), part-long 0 n e (omega arith), part-long 0 n l (omega arith), part-long 0 n p (omega arith))
    (refl, (refl, (refl, (omega arith, (omega arith, (omega arith, omega arith))))))
