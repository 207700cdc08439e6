-- What a run on a job's levels answers can be printed, and its text is what document 01 prints for the file. The full run of the definition is lent other places:
-- the tests look at how many there are alone, and no line shows what a place held before. Assumes nothing.
use Rattle.base.specs.declared.Refusal.{Refusal}
use Rattle.full_run.specs.declared.Report.{Report}
use Rattle.base.specs.Refusals.{Rule}
use Rattle.std.specs.Prelude.{Ok, Err, Result}
use Prim.Native.Nat.{ℕ, zero, suc, ◌+◌, ◌-◌, ◌*◌, ◌/◌, ◌<◌, ◌≤◌}
use mathlib.Core.Bool.{true, false}
use mathlib.Core.Path.{◌≡◌, refl, sym, ap, ◌∙◌, subst}
use mathlib.Core.List.{List, [], ◌∷◌, ◌++◌, map}
use native.Mathlib.Omega.{arith}
use borrow.Author.Tests.{le-ltb, eq-eqb, eqb-true}
use lib.Dec.{eqb}
use lib.ListN.{length, drop, get_or, replicate, length-append, length-replicate, get_or-append}
use lib.Ieee.{Float, nan}
use Rattle.base.specs.Loop.{each}
use Rattle.base.specs.Words.{Words, Spans, count, zero_f, words_in_places, in_places}
use Rattle.base.proofs.Loops.{length-table}
use Rattle.limits.specs.Order.{chain}
use Rattle.envelope.specs.Envelope.{levels, frames, floor, loud_row, quiet_row}
use Rattle.envelope.proofs.Places.{length-levels}
use Rattle.pieces.specs.Pieces.{Piece}
use Rattle.pieces.specs.Parts.{starts_over, ends_over}
use Rattle.full_run.specs.Parts.{applies_to, Heard}
use Rattle.run_stages.specs.Stages.{Run, run_on}
use Rattle.job_text.specs.Text.{lines, piece_lines, word_lines}
use Rattle.job_text.specs.Parts.{NoNans}
use Rattle.job_layout.specs.Layout.{Contents, contents, too_many, gapless, file_size, column, words_from, spans_from, samples_from, job_words, job_spans, job_samples}
use Rattle.std.proofs.lemmas.Bool.{and_parts}
use Rattle.job_layout.proofs.Tables.{holds-within}
use Rattle.job_layout.proofs.Moved.{words-moved, spans-moved}
use Rattle.full_run.specs.FullRun.{Input, run_of, run_applies, full_run}
use Rattle.full_run.proofs.Promises.{run_by}
use Rattle.full_run.proofs.Made.{applies-are}
use Rattle.full_run.proofs.Runs.{run-within}
use Rattle.bounds.specs.Bounds.{Small}
use Rattle.bounds.proofs.Small.{places-small}
use Rattle.bounds.proofs.Running.{run_small}
use Rattle.bounds.proofs.InBits.{small-number}
use Rattle.job.specs.Printed.{job_input, job_run, answer_text, output_text, printed}
use Rattle.job.specs.Parts.{Holding, Printable}

-- ---- so many places hold what was put in them
in-places : {A : Type 0} (v : A) (places : ℕ) (xs : List A) → length xs ≤ length (in_places v places xs)
in-places v places xs = let l = length-append xs (replicate (places - length xs) v) in omega arith

length-map : {A B : Type 0} (f : A → B) (xs : List A) → length (map f xs) ≡ length xs
length-map f [] = refl
length-map f (x ∷ xs) = ap suc (length-map f xs)

over-long : {A : Type 0} (f : A → ℕ) (ps : List A) (before : List ℕ) → length ps ≤ length (map f ps ++ drop (length (map f ps)) before)
over-long f ps before = let l = length-append (map f ps) (drop (length (map f ps)) before) in let m = length-map f ps in omega arith

module _ (ls : List Float) (samples : ℕ) (ws : Words) (spans : Spans) (phrases starts₀ ends₀ : List ℕ) (work : ℕ) where
  abbrev rule : Rule
  rule = chain (applies_to samples ws spans (length phrases) (length ls) (length starts₀) work)

  abbrev run : Run
  run = run_on (loud_row (floor ls) ls) (quiet_row (floor ls) ls) samples spans phrases ws

  -- ---- Every time of an accepted run is finite, and each line has its place.
  module _ (a : Result Report Refusal) (after : Words) (numbers starts ends : List ℕ) (room : ℕ)
      (heard : Heard rule (floor ls) run a ws after numbers starts₀ ends₀ starts ends) (own : length ls ≡ samples / 160) (two : length ends₀ ≡ length starts₀) (few : count ws ≤ 512)
      (fit : 33088 ≤ room) (long-starts : length after.starts ≡ count ws) (long-ends : length after.ends ≡ count ws) (long-keys : length after.keys ≡ count ws)
      (long-phrases : length numbers ≡ count ws) (five : length starts ≡ 5) (five-ends : length ends ≡ 5) where
    pub can-print : Printable a after.starts after.ends numbers starts ends room
    unfolding Heard Printable starts_over ends_over words_in_places
    can-print = go rule refl heard
      where
        no-nans : (xs : List Float) → ((i : ℕ) → i < length xs → Small (get_or xs i nan)) → length xs ≡ count ws → (n : ℕ) → n ≤ count ws → NoNans n xs
        no-nans xs small l n m i k = small-number (get_or xs i nan) (small i (omega arith))

        go : (r : Rule) → rule ≡ r → Heard r (floor ls) run a ws after numbers starts₀ ends₀ starts ends → Printable a after.starts after.ends numbers starts ends room
        go (Err why) e h = subst (λ (b : Result Report Refusal). Printable b after.starts after.ends numbers starts ends room) (sym h) (omega arith)
        go (Ok u) e h =
            let w = run-within ls samples ws spans phrases starts₀ ends₀ work two e in
            let n : length (replicate samples zero_f) ≡ samples = length-replicate samples zero_f in
            let small = run_small ls (floor ls) samples ws spans phrases w.words-within w.spans-within (rw n at w.few-samples) own in
            let is = h.1.0 in
            let p : length run.pieces ≤ length starts = rw h.1.1.1.0 (over-long (λ (q : Piece). q.start) run.pieces starts₀) in
            let q : length run.pieces ≤ length ends = rw h.1.1.1.1 (over-long (λ (q : Piece). q.end) run.pieces ends₀) in
            let k : count run.words ≤ length after.keys = rw (ap (λ (v : Words). v.keys) is) (in-places 0 (count ws) run.words.keys) in
            let s = subst (λ (xs : List Float). (i : ℕ) → i < length xs → Small (get_or xs i nan)) (sym (ap (λ (v : Words). v.starts) is)) (places-small (count ws) run.words.starts small.starts) in
            let t = subst (λ (xs : List Float). (i : ℕ) → i < length xs → Small (get_or xs i nan)) (sym (ap (λ (v : Words). v.ends) is)) (places-small (count ws) run.words.ends small.ends) in
            let m : count run.words ≤ count ws = omega arith in
            subst (λ (b : Result Report Refusal). Printable b after.starts after.ends numbers starts ends room) (sym h.0) (
              p,
              (q, (omega arith, (omega arith, (omega arith, (omega arith, (no-nans after.starts s long-starts (count run.words) m, no-nans after.ends t long-ends (count run.words) m)))))),
            )

-- ---- a list of lines by its lines
each-lines : (f g : ℕ → List ℕ) (n i : ℕ) (text : List ℕ) → ((k : ℕ) → i ≤ k → k < i + n → f k ≡ g k)
    → each (λ (k : ℕ) (t : List ℕ). t ++ f k) n i text ≡ each (λ (k : ℕ) (t : List ℕ). t ++ g k) n i text
unfolding each
each-lines f g zero i text h = refl
each-lines f g (suc n) i text h =
    ap (λ (l : List ℕ). each (λ (k : ℕ) (t : List ℕ). t ++ f k) n (suc i) (text ++ l)) (h i (omega arith) (omega arith))
    ∙ each-lines f g n (suc i) (text ++ g i) (λ k l m. h k (omega (arith, l)) (omega (arith, m)))

-- ---- the lines of the pieces do not show what their places held before
module _ (ps : List Piece) (starts₀ starts₁ ends₀ ends₁ : List ℕ) where
  place : (f : Piece → ℕ) (before after : List ℕ) (i : ℕ) → i < length ps
      → get_or (map f ps ++ drop (length (map f ps)) before) i 0 ≡ get_or (map f ps ++ drop (length (map f ps)) after) i 0
  place f before after i h =
      let l = length-map f ps in
      get_or-append (map f ps) (drop (length (map f ps)) before) 0 i (omega arith) ∙ sym (get_or-append (map f ps) (drop (length (map f ps)) after) 0 i (omega arith))

  pieces-alike : piece_lines (starts_over ps starts₀) (ends_over ps ends₀) (length ps) ≡ piece_lines (starts_over ps starts₁) (ends_over ps ends₁) (length ps)
  unfolding piece_lines lines starts_over ends_over
  pieces-alike =
      each-lines _ _ (length ps) 0 [] (
      λ k l m. rw (place (λ (p : Piece). p.start) starts₀ starts₁ k (omega (arith, m)), place (λ (p : Piece). p.end) ends₀ ends₁ k (omega (arith, m)))
      )

-- ---- the text of a run on the levels of a recording is that of its full run
module _ (xs : List Float) (ws : Words) (sp : Spans) (starts₀ ends₀ : List ℕ) (five : length starts₀ ≡ 5) (lines-for : ℕ) where
  abbrev i : Input
  i = job_input xs ws sp

  abbrev numbers₀ : List ℕ
  numbers₀ = replicate (count ws) 0

  rule-same : chain (applies_to (length xs) ws sp (length numbers₀) (length (levels xs)) (length starts₀) (count ws)) ≡ chain (run_applies i)
  rule-same =
      ap chain (
      rw (length-levels xs, five)
      (rw (length-replicate (frames xs) zero_f, length-replicate {A = ℕ} 5 0) at (applies-are xs ws sp numbers₀ (replicate (frames xs) zero_f) (replicate 5 0) (replicate 5 0) (count ws)))
      )

  text_same : (a : Result Report Refusal) (after : Words) (numbers starts ends : List ℕ)
      → Heard (rule (levels xs) (length xs) ws sp numbers₀ starts₀ ends₀ (count ws)) (floor (levels xs)) (run (levels xs) (length xs) ws sp numbers₀ starts₀ ends₀ (count ws)) a ws after numbers starts₀ ends₀ starts ends
      → answer_text lines-for a after.starts after.ends numbers starts ends ≡ output_text lines-for (full_run i)
  unfolding Heard answer_text output_text run_of starts_over ends_over
  text_same a after numbers starts ends h = go _ refl h
    where
      go : (r : Rule) → rule (levels xs) (length xs) ws sp numbers₀ starts₀ ends₀ (count ws) ≡ r
          → Heard r (floor (levels xs)) (run (levels xs) (length xs) ws sp numbers₀ starts₀ ends₀ (count ws)) a ws after numbers starts₀ ends₀ starts ends
          → answer_text lines-for a after.starts after.ends numbers starts ends ≡ output_text lines-for (full_run i)
      go (Err why) e h = rw (run_by i (sym rule-same ∙ e), h)
      go (Ok u) e h =
          rw (h.0, h.1.0, h.1.1.0, h.1.1.1.0, h.1.1.1.1)
          (ap (λ (t : List ℕ). t ++ word_lines lines-for final.starts final.ends own.phrases (count own.words)) (pieces-alike own.pieces starts₀ (replicate 5 0) ends₀ (replicate 5 0)))
          ∙ sym (ap (output_text lines-for) (run_by i (sym rule-same ∙ e)))
        where
          own : Run
          own = run (levels xs) (length xs) ws sp numbers₀ starts₀ ends₀ (count ws)

          final : Words
          final = words_in_places (count ws) own.words

-- ---- what a file holds
module _ (file bodies : List ℕ) (ls : List Float) (w n m : ℕ) (h : Holding file bodies ls w n m) where
  abbrev c : Contents
  c = contents file

  says : (too_many c ≡ false) × ((gapless c ≡ true) × ((w ≡ c.words) × ((n ≡ c.spans) × (m ≡ c.samples))))
  says = holds-within c (record { words = w; spans = n; samples = m }) h.table

  offsets : (c.words_at ≡ 24) × ((c.spans_at ≡ 24 + 28 * c.words) × (c.samples_at ≡ 24 + 28 * c.words + 20 * c.spans))
  unfolding gapless
  offsets =
      let a = and_parts (eqb c.words_at 24) _ says.1.0 in
      let b = and_parts (eqb c.spans_at (24 + 28 * c.words)) _ a.1 in
      (eqb-true c.words_at 24 a.0, (eqb-true _ _ b.0, eqb-true _ _ b.1))

  words_are : words_from bodies 0 w ≡ job_words file
  words_are = ap (λ (b : List ℕ). words_from b 0 w) h.bodies-are ∙ words-moved file w n ∙ rw (says.1.1.0, offsets.0)

  spans-are : spans_from bodies (28 * w) n ≡ job_spans file
  spans-are = ap (λ (b : List ℕ). spans_from b (28 * w) n) h.bodies-are ∙ spans-moved file w n ∙ rw (says.1.1.0, says.1.1.1.0, offsets.1.0)

  samples-are : m ≡ length (job_samples file)
  unfolding samples_from column
  samples-are = says.1.1.1.1 ∙ sym (length-table _ c.samples 0)

  file-printed : printed file ≡ output_text n (job_run file)
  unfolding printed file_size
  file-printed =
      let l = h.long in
      let s : n ≡ c.spans = says.1.1.1.0 in
      rw (le-ltb (length file) 24 (omega arith), says.0, says.1.0, eq-eqb (length file) (file_size c) l, ← s)

  -- ---- What is written for a run on what the file holds is what document 01 prints for it.
  pub text-is : (ws : Words) (sp : Spans) (ph starts₀ ends₀ : List ℕ) (work q k v : ℕ) (a : Result Report Refusal) (after : Words) (numbers starts ends : List ℕ) {text : List ℕ}
      → ws ≡ words_from bodies 0 w → sp ≡ spans_from bodies (28 * v) n → v ≡ w → ph ≡ replicate q 0 → q ≡ count ws → work ≡ count ws → k ≡ n → length starts₀ ≡ 5
      → Heard (rule ls m ws sp ph starts₀ ends₀ work) (floor ls) (run ls m ws sp ph starts₀ ends₀ work) a ws after numbers starts₀ ends₀ starts ends
      → text ≡ answer_text k a after.starts after.ends numbers starts ends → text ≡ printed file
  unfolding job_run
  text-is ws sp ph starts₀ ends₀ work q k v a after numbers starts ends ew es ev ep eq ek en five heard e =
      let is-words : ws ≡ job_words file = ew ∙ words_are in
      let is-spans : sp ≡ job_spans file = es ∙ ap (λ (x : ℕ). spans_from bodies (28 * x) n) ev ∙ spans-are in
      let is-count : count ws ≡ count (job_words file) = ap count is-words in
      let is-phrases : ph ≡ replicate (count (job_words file)) 0 = ep ∙ ap (λ (x : ℕ). replicate x 0) (eq ∙ is-count) in
      let is-work : work ≡ count (job_words file) = ek ∙ is-count in
      let own : Heard (rule (levels (job_samples file)) (length (job_samples file)) (job_words file) (job_spans file) (replicate (count (job_words file)) 0) starts₀ ends₀ (count (job_words file)))
      (floor (levels (job_samples file)))
      (run (levels (job_samples file)) (length (job_samples file)) (job_words file) (job_spans file) (replicate (count (job_words file)) 0) starts₀ ends₀ (count (job_words file)))
      a (job_words file) after numbers starts₀ ends₀ starts ends = rw (is-words, is-spans, is-phrases, is-work, h.levels-are, samples-are) at heard
      in
      e
      ∙ ap (λ (x : ℕ). answer_text x a after.starts after.ends numbers starts ends) en
      ∙ text_same (job_samples file) (job_words file) (job_spans file) starts₀ ends₀ five n a after numbers starts ends own
      ∙ sym file-printed
