-- THE THEOREMS about the fit by phrase. Two calls have the same phrase numbers, and one phrase is given alike to both. Where the same frames are loud and the
-- recordings are equally long, each place that holds one of its words is alike afterwards, whatever the other phrases and the work space hold; so it is where
-- one recording is the other's times a power of two, of either polarity, each with its own envelope. A word whose number has no span stays. Assumes nothing.
use Prim.Native.Nat.{ℕ, ◌<◌, ◌≤◌}
use mathlib.Core.Bool.{Bool, true, false}
use mathlib.Core.Path.{◌≡◌, refl, sym, ap, ◌∙◌}
use mathlib.Core.List.{List}
use native.Mathlib.Omega.{arith}
use borrow.Author.Tests.{ltb-true, ltb-false}
use lib.Dec.{ltb}
use lib.IntN.{ℤ}
use lib.ListN.{length, get_or}
use lib.Ieee.{Float, nan}
use Rattle.base.specs.Words.{Words, words, Spans, Edges, edges, times_at}
use Rattle.base.specs.Refusals.{accepts, says, Rule}
use Rattle.base.specs.declared.Times.{Times}
use Rattle.base.proofs.Parts.{times-alike}
use Rattle.word_calls.specs.Calls.{Output, output}
use Rattle.envelope.specs.Envelope.{levels, floor, loud_row}
use Rattle.fit_file.specs.FitFile.{members_of, picked, picked_edges, fit_file, duration_of, fit_file_call}
use Rattle.fit_file.proofs.Local.{group-place, place-group}
use Rattle.fit_file.proofs.Calls as calls
use Rattle.invariance.specs.Scaled.{Recorded, Loudest}
use Rattle.invariance.specs.Alike.{Word, word_at, GivenAlike, Spanless}
use Rattle.invariance.proofs.Lists.{pairwise-length}
use Rattle.invariance.proofs.Rows.{rows_alike}
use Rattle.invariance.proofs.Alone.{fit_alone, phrase-alone, spanless-stays}

-- a word, from its times and its numbers
word_made : (ws ws' : Words) (es es' : Edges) (i : ℕ) → times_at es i ≡ times_at es' i → word_at ws i ≡ word_at ws' i
    → word_at (words es.starts es.ends ws.letters ws.units ws.keys) i ≡ word_at (words es'.starts es'.ends ws'.letters ws'.units ws'.keys) i
unfolding word_at
word_made ws ws' es es' i t w =
    rw (
      ap (λ (x : Times). x.start) t,
      ap (λ (x : Times). x.end) t,
      ap (λ (x : Word). x.letters) w,
      ap (λ (x : Word). x.units) w,
      ap (λ (x : Word). x.key) w,
    )

word-times : (ws ws' : Words) (i : ℕ) → word_at ws i ≡ word_at ws' i → times_at (edges ws.starts ws.ends) i ≡ times_at (edges ws'.starts ws'.ends) i
unfolding word_at
word-times ws ws' i w = times-alike (ap (λ (x : Word). x.start) w) (ap (λ (x : Word). x.end) w)

-- ---- one call: what it leaves
module _ (ws : Words) (phrases : List ℕ) (spans : Spans) (levels : List Float) (floor : Float) (samples places : ℕ)
    (accepted : says (fit_file_call ws phrases spans levels floor samples places).answer ≡ accepts tt) where
  abbrev before : Edges
  before = edges ws.starts ws.ends

  abbrev after : Edges
  after = fit_file (loud_row floor levels) (duration_of samples) ws.letters phrases (edges spans.starts spans.ends) before

  left : (fit_file_call ws phrases spans levels floor samples places).words ≡ words after.starts after.ends ws.letters ws.units ws.keys
  left = calls.accepted-words ws phrases spans levels floor samples places accepted

  lists : (length ws.starts ≡ length phrases) × (length ws.ends ≡ length phrases)
  lists =
      let w = (calls.accepted-exactly ws phrases spans levels floor samples places).1 accepted in
      (sym w.1.0, w.0.0.ends-as-long ∙ sym w.1.0)

  stays : (i : ℕ) → i < length phrases → length spans.starts ≤ get_or phrases i 0 → times_at after i ≡ times_at before i
  stays i h s = spanless-stays (loud_row floor levels) (duration_of samples) ws.letters phrases (edges spans.starts spans.ends) (length phrases) before i lists h s

  -- ---- a word whose number has no span stays as it is
  pub word-stays : (i : ℕ) → i < length phrases → Spanless spans phrases i → word_at (fit_file_call ws phrases spans levels floor samples places).words i ≡ word_at ws i
  word-stays i h s = ap (λ (x : Words). word_at x i) left ∙ word_made ws ws after before i (stays i h s) refl

-- ---- two calls with the same phrase numbers, on recordings equally long of which the same frames are loud
module _ (phrases : List ℕ) (p : ℕ) (ws ws' : Words) (spans spans' : Spans) (levels levels' : List Float) (floor floor' : Float) (samples places places' : ℕ)
    (rows : loud_row floor levels ≡ loud_row floor' levels') (alike : GivenAlike phrases p ws ws' spans spans')
    (accepted : says (fit_file_call ws phrases spans levels floor samples places).answer ≡ accepts tt) (accepted' : says (fit_file_call ws' phrases spans' levels' floor' samples places').answer ≡ accepts tt) where
  abbrev n : ℕ
  n = length phrases

  abbrev ours : Edges → Edges
  ours = picked_edges (members_of phrases p n)

  abbrev first : Edges
  first = after ws phrases spans levels floor samples places accepted

  abbrev second : Edges
  second = after ws' phrases spans' levels' floor' samples places' accepted'

  -- the phrase's group, given alike
  group-alike : ours (edges ws.starts ws.ends) ≡ ours (edges ws'.starts ws'.ends)
  unfolding picked_edges word_at
  group-alike =
      rw (
        place-group phrases n p nan ws.starts ws'.starts (λ i h e. ap (λ (x : Word). x.start) (alike.words i h e)),
        place-group phrases n p nan ws.ends ws'.ends (λ i h e. ap (λ (x : Word). x.end) (alike.words i h e)),
      )

  letters-alike : picked 0 (members_of phrases p n) ws.letters ≡ picked 0 (members_of phrases p n) ws'.letters
  unfolding word_at
  letters-alike = place-group phrases n p 0 ws.letters ws'.letters (λ i h e. ap (λ (x : Word). x.letters) (alike.words i h e))

  fitted-alike : p < length spans.starts → ours first ≡ ours second
  unfolding fit_alone
  fitted-alike h =
      let one = phrase-alone (loud_row floor levels) (duration_of samples) ws.letters phrases (edges spans.starts spans.ends) n p _ (lists ws phrases spans levels floor samples places accepted) h in
      let two = phrase-alone (loud_row floor' levels') (duration_of samples) ws'.letters phrases (edges spans'.starts spans'.ends) n p _ (lists ws' phrases spans' levels' floor' samples places' accepted') (alike.span-there.0 h) in
      one ∙ (rw (rows, group-alike, letters-alike, alike.span-start h, alike.span-end h) (sym two))

  times-after : (i : ℕ) → i < n → get_or phrases i 0 ≡ p → times_at first i ≡ times_at second i
  times-after i h e = go (ltb p (length spans.starts)) refl where
    go : (t : Bool) → ltb p (length spans.starts) ≡ t → times_at first i ≡ times_at second i
    go true t = group-place phrases n p first second (fitted-alike (ltb-true p (length spans.starts) t)) i h e
    go false t =
        let l = ltb-false p (length spans.starts) t in
        let l' : length spans'.starts ≤ get_or phrases i 0 = let no : p < length spans'.starts → ⊥ = (λ k. let m = alike.span-there.1 k in absurd (omega arith)) in omega (arith, e, no) in
        stays ws phrases spans levels floor samples places accepted i h (rw e l) ∙ word-times ws ws' i (alike.words i h e) ∙ sym (stays ws' phrases spans' levels' floor' samples places' accepted' i h l')

  -- ---- each place that holds one of the phrase's words is alike afterwards
  pub phrase-alike : (i : ℕ) → i < length phrases → get_or phrases i 0 ≡ p
      → word_at (fit_file_call ws phrases spans levels floor samples places).words i ≡ word_at (fit_file_call ws' phrases spans' levels' floor' samples places').words i
  phrase-alike i h e =
      ap (λ (x : Words). word_at x i) (left ws phrases spans levels floor samples places accepted)
      ∙ word_made ws ws' first second i (times-after i h e) (alike.words i h e)
      ∙ sym (ap (λ (x : Words). word_at x i) (left ws' phrases spans' levels' floor' samples places' accepted'))

-- ---- DEMAND 3, the fit by phrase: one recording is the other's times 2 ^ k, of either polarity, and each call has its recording's own envelope
module _ (k : ℤ) (reversed : Bool) (xs ys : List Float) (recorded : Recorded k reversed xs ys) (loudest : Loudest xs ys)
    (phrases : List ℕ) (p : ℕ) (ws ws' : Words) (spans spans' : Spans) (places places' : ℕ) (alike : GivenAlike phrases p ws ws' spans spans') where
  pub phrase-scaled : says (fit_file_call ws phrases spans (levels xs) (floor (levels xs)) (length xs) places).answer ≡ accepts tt
      → says (fit_file_call ws' phrases spans' (levels ys) (floor (levels ys)) (length ys) places').answer ≡ accepts tt → (i : ℕ) → i < length phrases → get_or phrases i 0 ≡ p
      → word_at (fit_file_call ws phrases spans (levels xs) (floor (levels xs)) (length xs) places).words i
      ≡ word_at (fit_file_call ws' phrases spans' (levels ys) (floor (levels ys)) (length ys) places').words i
  phrase-scaled =
      rw (← pairwise-length recorded)
      (phrase-alike phrases p ws ws' spans spans' (levels xs) (levels ys) (floor (levels xs)) (floor (levels ys)) (length xs) places places' (rows_alike k reversed xs ys recorded loudest).0 alike)

  -- ---- and so of two calls of the code, by the equation that its contract ensures
  pub two-calls : {r r' : Rule} {out out' : Words} → output r out ≡ fit_file_call ws phrases spans (levels xs) (floor (levels xs)) (length xs) places
      → output r' out' ≡ fit_file_call ws' phrases spans' (levels ys) (floor (levels ys)) (length ys) places' → says r ≡ accepts tt → says r' ≡ accepts tt
      → (i : ℕ) → i < length phrases → get_or phrases i 0 ≡ p → word_at out i ≡ word_at out' i
  two-calls {r} {r'} {out} {out'} c c' a a' i h e =
      ap (λ (o : Output). word_at o.words i) c
      ∙ phrase-scaled (sym (ap (λ (o : Output). says o.answer) c) ∙ a) (sym (ap (λ (o : Output). says o.answer) c') ∙ a') i h e
      ∙ sym (ap (λ (o : Output). word_at o.words i) c')
