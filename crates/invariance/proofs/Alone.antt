-- In the fit by phrase, the words of a phrase come out as they would alone: the turns of other phrases neither read nor write their places. Assumes nothing.
use Prim.Native.Nat.{ℕ, zero, suc, ◌+◌, ◌<◌, ◌≤◌}
use mathlib.Core.Bool.{Bool, true, false, cond}
use mathlib.Core.Path.{◌≡◌, refl, ap, ◌∙◌}
use mathlib.Core.Logic.{◌≢◌, inl, inr}
use mathlib.Core.List.{List}
use native.Mathlib.Omega.{arith}
use native.Mathlib.Nat.{eq-or-lt_of_le}
use lib.Dec.{eqb}
use lib.ListN.{length, get_or}
use lib.Ieee.{Float, nan}
use Rattle.base.specs.Loop.{each}
use Rattle.base.specs.Words.{Edges, times_at}
use Rattle.base.specs.declared.Times.{Times}
use Rattle.base.proofs.Parts.{long, both}
use Rattle.fit_file.specs.FitFile.{members_of, picked, picked_edges, put_edges, fit_group, fit_phrase, fit_file}
use Rattle.fit_file.proofs.Local.{put-own, put_other, put-stays, put-long}
use Rattle.fit_file.proofs.Kept.{group-long}

-- ---- a group of words, fitted alone; no words stay no words
unfoldable pub fit_alone : List Bool → Float → Times → List ℕ → List ℕ → Edges → Edges
fit_alone row duration span members letters group = cond (eqb (length members) 0) group (fit_group row duration span (picked 0 members letters) group)

-- ---- so many words in both lists
abbrev Both : ℕ → Edges → Type 0
Both n es = (length es.starts ≡ n) × (length es.ends ≡ n)

put_both : (members : List ℕ) (group es : Edges) → long (put_edges members group es) ≡ long es
unfolding put_edges
put_both members group es = both (put-long nan members group.starts es.starts) (put-long nan members group.ends es.ends)

both-kept : {n : ℕ} (es es' : Edges) → long es' ≡ long es → Both n es → Both n es'
both-kept es es' l b = (ap (λ (k : ℕ × ℕ). k.0) l ∙ b.0, ap (λ (k : ℕ × ℕ). k.1) l ∙ b.1)

module _ (row : List Bool) (duration : Float) (letters phrases : List ℕ) where
  -- ---- one phrase's turn
  module _ (span : Times) (q : ℕ) (es : Edges) (n : ℕ) (b : Both n es) where
    abbrev members : List ℕ
    members = members_of phrases q n

    abbrev fitted : Edges
    fitted = fit_group row duration span (picked 0 members letters) (picked_edges members es)

    -- what holds of the words as they are and of the words with the group put back holds after the turn
    turn : (R : Bool → Edges → Type 0) → R true es → R false (put_edges members fitted es) → R (eqb (length members) 0) (fit_phrase row duration letters phrases span q es)
    unfolding fit_phrase
    turn R none some = rw b.0 (go (eqb (length members) 0)) where
      go : (t : Bool) → R t (cond t es (put_edges (members_of phrases q n) (fit_group row duration span (picked 0 (members_of phrases q n) letters) (picked_edges (members_of phrases q n) es)) es))
      go true = none
      go false = some

    turn-both : Both n (fit_phrase row duration letters phrases span q es)
    turn-both = turn (λ (_ : Bool). Both n) b (both-kept es (put_edges members fitted es) (put_both members fitted es) b)

    -- its own words are fitted alone
    turn-own : picked_edges members (fit_phrase row duration letters phrases span q es) ≡ fit_alone row duration span members letters (picked_edges members es)
    unfolding fit_alone
    turn-own =
        turn (λ (t : Bool) (es' : Edges). picked_edges members es' ≡ cond t (picked_edges members es) fitted) refl
        (put-own phrases n q fitted es b.0 b.1 (group-long row duration span (picked 0 members letters) (picked_edges members es)))

    -- another phrase's words stay
    turn-other : (p : ℕ) → q ≢ p → picked_edges (members_of phrases p n) (fit_phrase row duration letters phrases span q es) ≡ picked_edges (members_of phrases p n) es
    turn-other p o = turn (λ (_ : Bool) (es' : Edges). picked_edges (members_of phrases p n) es' ≡ picked_edges (members_of phrases p n) es) refl (put_other phrases n p q o fitted es)

    -- and so does a word of another number
    turn-stays : (i : ℕ) → i < n → get_or phrases i 0 ≢ q → times_at (fit_phrase row duration letters phrases span q es) i ≡ times_at es i
    turn-stays i l o = turn (λ (_ : Bool) (es' : Edges). times_at es' i ≡ times_at es i) refl (put-stays phrases n q q i l o fitted es)

  -- ---- all turns
  module _ (spans : Edges) (n : ℕ) where
    abbrev step : ℕ → Edges → Edges
    step q = fit_phrase row duration letters phrases (times_at spans q) q

    module _ (p : ℕ) where
      abbrev own : Edges → Edges
      own es = picked_edges (members_of phrases p n) es

      beside : (m q : ℕ) (es : Edges) → Both n es → ((j : ℕ) → q ≤ j → j < q + m → j ≢ p) → own (each step m q es) ≡ own es
      unfolding each
      beside zero q es b o = refl
      beside (suc m) q es b o =
          beside m (suc q) (step q es) (turn-both (times_at spans q) q es n b) (λ j l h. o j (omega arith) (omega arith)) ∙ turn-other (times_at spans q) q es n b p (o q (omega arith) (omega arith))

      reached : (m q : ℕ) (es : Edges) → Both n es → q ≤ p → p < q + m → own (each step m q es) ≡ fit_alone row duration (times_at spans p) (members_of phrases p n) letters (own es)
      unfolding each
      reached zero q es b l h = absurd (omega arith)
      reached (suc m) q es b l h =
          elim (eq-or-lt_of_le l) [
            | inl e ↦ beside m (suc q) (step q es) (turn-both (times_at spans q) q es n b) (λ j l h z. absurd (omega arith)) ∙ rw (← e) (turn-own (times_at spans q) q es n b)
            | inr k ↦ reached m (suc q) (step q es) (turn-both (times_at spans q) q es n b) k (omega arith)
                ∙ ap (fit_alone row duration (times_at spans p) (members_of phrases p n) letters) (turn-other (times_at spans q) q es n b p (λ e. absurd (omega arith)))
          ]

      -- ---- a phrase with a span is fitted alone
      pub phrase-alone : (es : Edges) → Both n es → p < length spans.starts → own (fit_file row duration letters phrases spans es) ≡ fit_alone row duration (times_at spans p) (members_of phrases p n) letters (own es)
      unfolding fit_file
      phrase-alone es b h = reached (length spans.starts) 0 es b (omega arith) (omega arith)

    stays : (m q : ℕ) (es : Edges) (i : ℕ) → Both n es → i < n → q + m ≤ get_or phrases i 0 → times_at (each step m q es) i ≡ times_at es i
    unfolding each
    stays zero q es i b l h = refl
    stays (suc m) q es i b l h =
        stays m (suc q) (step q es) i (turn-both (times_at spans q) q es n b) l (omega arith) ∙ turn-stays (times_at spans q) q es n b i l (λ e. absurd (omega arith))

    -- ---- a word whose number has no span stays
    pub spanless-stays : (es : Edges) (i : ℕ) → Both n es → i < n → length spans.starts ≤ get_or phrases i 0 → times_at (fit_file row duration letters phrases spans es) i ≡ times_at es i
    unfolding fit_file
    spanless-stays es i b l h = stays (length spans.starts) 0 es i b l (omega arith)
