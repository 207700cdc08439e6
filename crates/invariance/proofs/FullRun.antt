-- THE THEOREM about the full run. One recording is the other's times a power of two, of either polarity; words, spans and phrase places are alike, and the other lent
-- places are not asked about. The rows of loud and of quiet frames are then alike and the recordings equally long, so one run is made of both. Assumes nothing.
use Prim.Native.Nat.{ℕ, ◌<◌}
use mathlib.Core.Bool.{Bool}
use mathlib.Core.List.{List, map}
use mathlib.Core.Path.{◌≡◌, refl, sym, ap, ◌∙◌}
use native.Mathlib.Omega.{arith}
use lib.IntN.{ℤ}
use lib.ListN.{length, get_or, length-map, get_or-append}
use lib.Ieee.{Float}
use Rattle.base.specs.Words.{Words, count, words_in_places}
use Rattle.base.specs.Refusals.{Says, accepts, says}
use Rattle.envelope.specs.Envelope.{levels, floor}
use Rattle.pieces.specs.Pieces.{Piece, over}
use Rattle.run_stages.specs.Stages.{Run}
use Rattle.full_run.specs.FullRun.{Input, run_of, Output, report_of, accepted, full_run}
use Rattle.full_run.specs.declared.Report.{Report}
use Rattle.full_run.proofs.Promises.{accepted-exactly, accepted-leaves, accepted-answer}
use Rattle.invariance.specs.Scaled.{Recorded, Loudest}
use Rattle.invariance.specs.SameRun.{AlikeRuns, SameRun}
use Rattle.invariance.proofs.Lists.{pairwise-length}
use Rattle.invariance.proofs.Rows.{rows_alike}

-- ---- one accepted run: what it gives and leaves
module _ (i : Input) (r : Report) (h : says (full_run i).answer ≡ accepts r) where
  is : full_run i ≡ accepted i (run_of i)
  is = accepted-leaves i ((accepted-answer i).0 (r, h))

  reported : r ≡ report_of (floor (levels i.samples)) (run_of i)
  reported =
      let e : ◌≡◌ {A = Says Report} (accepts r) (accepts (report_of (floor (levels i.samples)) (run_of i))) = sym h ∙ (accepted-exactly i).0 ((accepted-answer i).0 (r, h)) in
      cc

-- a place below the pieces' count holds what was found
over-at : (f : Piece → ℕ) (ps : List Piece) (places : List ℕ) (k : ℕ) → k < length ps → get_or (over (map f ps) places) k 0 ≡ get_or (map f ps) k 0
over-at f ps places k l = get_or-append (map f ps) _ 0 k (omega (arith, length-map ps f))

module _ (k : ℤ) (reversed : Bool) (a b : Input) (recorded : Recorded k reversed a.samples b.samples) (loudest : Loudest a.samples b.samples) (alike : AlikeRuns a b) where
  -- ---- one run is made of both recordings
  one-run : run_of a ≡ run_of b
  unfolding run_of
  one-run =
      let rows = rows_alike k reversed a.samples b.samples recorded loudest in
      rw (rows.0, rows.1, pairwise-length recorded, alike.spans, alike.phrases, alike.words)

  -- the words in their places
  words_left : words_in_places (count a.words) (run_of a).words ≡ words_in_places (count b.words) (run_of b).words
  words_left = ap (λ (ws : Words). words_in_places (count ws) (run_of a).words) alike.words ∙ ap (λ (x : Run). words_in_places (count b.words) x.words) one-run

  module _ (r r' : Report) (h : says (full_run a).answer ≡ accepts r) (h' : says (full_run b).answer ≡ accepts r') where
    -- what the reports say, but for the floor
    reports : {A : Type 0} (f : Report → A) (g : Run → A) → ((x : Float) (run : Run) → f (report_of x run) ≡ g run) → f r ≡ f r'
    reports f g e = ap f (reported a r h) ∙ e _ (run_of a) ∙ ap g one-run ∙ sym (e _ (run_of b)) ∙ sym (ap f (reported b r' h'))

    -- a place below the pieces' count, whatever both lists of places held
    found_at : (f : Piece → ℕ) (xs ys : List ℕ) (j : ℕ) → j < r.pieces → get_or (over (map f (run_of a).pieces) xs) j 0 ≡ get_or (over (map f (run_of b).pieces) ys) j 0
    found_at f xs ys j l =
        let m : r.pieces ≡ length (run_of a).pieces = ap (λ (x : Report). x.pieces) (reported a r h) in
        let n : length (run_of a).pieces ≡ length (run_of b).pieces = ap (λ (x : Run). length x.pieces) one-run in
        over-at f (run_of a).pieces xs j (omega (arith, l, m))
        ∙ ap (λ (x : Run). get_or (map f x.pieces) j 0) one-run
        ∙ sym (over-at f (run_of b).pieces ys j (omega (arith, l, m, n)))

    -- ---- DEMAND 3, the full run
    pub run-alike : SameRun r r' (full_run a) (full_run b)
    run-alike = record {
      piece-count = reports (λ x. x.pieces) (λ x. length x.pieces) (λ x run. refl);
      first-samples = λ j l. ap (λ (o : Output). get_or o.piece_starts j 0) (is a r h) ∙ found_at (λ p. p.start) a.piece_starts b.piece_starts j l ∙ sym (ap (λ (o : Output). get_or o.piece_starts j 0) (is b r' h'));
      ends = λ j l. ap (λ (o : Output). get_or o.piece_ends j 0) (is a r h) ∙ found_at (λ p. p.end) a.piece_ends b.piece_ends j l ∙ sym (ap (λ (o : Output). get_or o.piece_ends j 0) (is b r' h'));
      word_count = reports (λ x. x.words) (λ x. count x.words) (λ x run. refl);
      found = reports (λ x. x.found) (λ x. x.found) (λ x run. refl);
      phrase-places = ap (λ (o : Output). o.phrases) (is a r h) ∙ ap (λ (x : Run). x.phrases) one-run ∙ sym (ap (λ (o : Output). o.phrases) (is b r' h'));
      word-places = ap (λ (o : Output). o.words) (is a r h) ∙ words_left ∙ sym (ap (λ (o : Output). o.words) (is b r' h'));
    }

-- ---- and so of two calls of the code, by the equation that its contract ensures
module _ (k : ℤ) (reversed : Bool) (a b : Input) (recorded : Recorded k reversed a.samples b.samples) (loudest : Loudest a.samples b.samples)
    (alike : AlikeRuns a b) {o o' : Output} where
  pub two_runs : o ≡ full_run a → o' ≡ full_run b → (r r' : Report) → says o.answer ≡ accepts r → says o'.answer ≡ accepts r' → SameRun r r' o o'
  two_runs c c' r r' h h' =
      rw (c, c') (run-alike k reversed a b recorded loudest alike r r' (ap (λ (x : Output). says x.answer) (sym c) ∙ h) (ap (λ (x : Output). says x.answer) (sym c') ∙ h'))
