-- Placing words in the spans of their phrases adds 4,104 × 2^-40 s to a bound on their times and the spans', once. A word keeps its times, or takes boundaries of one spread, whose
-- two ends are as given, or lies between its neighbours, at an end that stands before it and a maximum of that and a start that stands behind it. Assumes nothing.
use Prim.Native.Nat.{ℕ, ◌+◌, ◌-◌, ◌<◌, ◌≤◌, min}
use mathlib.Core.Bool.{Bool, true, false, cond, true≢false}
use mathlib.Core.List.{List, [], ◌++◌}
use mathlib.Core.Path.{◌≡◌, refl, sym, ap, ◌∙◌, subst}
use native.Mathlib.Decide.{dec_le}
use native.Mathlib.Nat.{lt_of_not-le}
use native.Mathlib.Omega.{arith}
use borrow.Author.Tests.{eqb-false}
use lib.Arith.{lt_of_le-ne}
use lib.Dec.{ltb, eqb}
use lib.ListN.{length, get_or, replicate, length-set}
use lib.Ieee.{Float, nan}
use Rattle.base.specs.Loop.{each}
use Rattle.base.specs.Words.{Words, words, Spans, Edges, edges, times, times_at, set_times, count, part, part_edges, on_part}
use Rattle.base.specs.declared.Times.{Times}
use Rattle.base.proofs.Loops.{each_holds, each-done, down_le, down-seen, up_le, up-found}
use Rattle.base.proofs.Parts.{long, on_part-after}
use Rattle.js.specs.Js.{js_max}
use Rattle.word_calls.specs.Within.{AllFrom}
use Rattle.spread.specs.Spread.{inside, outside_at, first_inside, last_inside, spread, spread_before, spread_after, between_turn, place_between, place_group}
use Rattle.phrase_align.specs.PhraseAlign.{Placing, group_of, extend, placed_in, place_turn, align_phrases}
use Rattle.spread.proofs.Long.{spread-long, before-long, after-long}
use Rattle.bounds.specs.Bounds.{UnderIn, EdgesUnderIn, steps, stray, AllUnder, Timed}
use Rattle.share.specs.Drifts.{farthest}
use Rattle.bounds.proofs.Rounding.{max-under}
use Rattle.bounds.proofs.Stored.{set-under}
use Rattle.bounds.proofs.Parted.{each_append, each_part, part_same, part-few, on_part-under, edges_more}
use Rattle.bounds.proofs.Sharing.{forward-under}

-- ---- the first and the last word inside, where there is one
module _ (from to : Float) (es : Edges) where
  first-in : (first_inside from to es ≡ length es.starts → ⊥) → first_inside from to es < length es.starts
  unfolding first_inside
  first-in n = lt_of_le-ne (omega (arith, up_le (outside_at from to es) (length es.starts) 0)) n

  last-in : first_inside from to es < length es.starts → (first_inside from to es ≤ last_inside from to es) × (last_inside from to es < length es.starts)
  unfolding first_inside last_inside
  last-in h = (go (dec_le (first_inside from to es) (last_inside from to es)), omega (arith, h, down_le (outside_at from to es) (length es.starts - 1)))
    where
      go : Dec (first_inside from to es ≤ last_inside from to es) → first_inside from to es ≤ last_inside from to es
      go (yes l) = l
      go (no l) =
          absurd
          (true≢false
          (sym (down-seen (outside_at from to es) (length es.starts - 1) (first_inside from to es) (omega arith) (lt_of_not-le l)) ∙ up-found (outside_at from to es) (length es.starts) 0 (omega arith)))

-- ---- what a spread over some of the words leaves
as_long : (n c : ℕ) (es s : Edges) → Timed n c es → long s ≡ long es → EdgesUnderIn steps (c + stray) s → Timed n (c + stray) s
as_long n c es s g h u = record {
  starts-long = ap (λ (l : ℕ × ℕ). l.0) h ∙ g.starts-long;
  ends-long = ap (λ (l : ℕ × ℕ). l.1) h ∙ g.ends-long;
  small = u;
}

-- ---- a word between its neighbours
module _ (from to : Float) (n c : ℕ) where
  turn-under : (i : ℕ) (s : Edges) → 0 < i → i + 1 < n → Timed n c s → Timed n c (between_turn from to i s)
  unfolding between_turn
  turn-under i s p l g = go (inside from to (times_at s i))
    where
      start : Float
      start = get_or s.ends (i - 1) nan

      end : Float
      end = js_max start (get_or s.starts (i + 1) nan)

      start_under : UnderIn steps c start
      start_under = g.small.ends (i - 1) (omega (arith, g.ends-long))

      go : (t : Bool) → Timed n c (cond t s (set_times s i (times start end)))
      go true = g
      go false = record {
        starts-long = length-set s.starts i start ∙ g.starts-long;
        ends-long = length-set s.ends i end ∙ g.ends-long;
        small = record {
          starts = set-under steps c s.starts i start g.small.starts (λ k. start_under);
          ends = set-under steps c s.ends i end g.small.ends (λ k. max-under steps c start (get_or s.starts (i + 1) nan) start_under (g.small.starts (i + 1) (omega (arith, g.starts-long))));
        };
      }

  between-under : (first last : ℕ) (s : Edges) → last < n → Timed n c s → Timed n c (place_between from to first last s)
  unfolding place_between
  between-under first last s l g = go (dec_le last (first + 1))
    where
      go : Dec (last ≤ first + 1) → Timed n c (each (between_turn from to) (last - (first + 1)) (first + 1) s)
      go (yes h) = subst (Timed n c) (sym (each-done (between_turn from to) last (first + 1) s h)) g
      go (no h) =
          let m : first + 1 < last = lt_of_not-le h in
          (each_holds (λ (i : ℕ) (s : Edges). (0 < i) × Timed n c s) (between_turn from to) last (λ i s k p. (omega arith, turn-under i s p.0 (omega arith) p.1))
          (last - (first + 1)) (first + 1) s (omega arith) (omega arith, g)
          ).1

module _ (letters : List ℕ) (ls : AllFrom 1 1000 letters) (few : length letters ≤ 4096) (b : ℕ) (B : b ≤ farthest) where
  -- ---- a spread over words a to e
  part-under : (a e : ℕ) (from to : Float) (c : ℕ) (es : Edges) → UnderIn steps b from → UnderIn steps b to → Timed (length letters) c es → EdgesUnderIn steps (b + stray) (spread (part a e letters) from to (part_edges a e es))
  unfolding spread part_edges
  part-under a e from to c es u v g =
      forward-under (part a e letters) (each_part (λ (n : ℕ). (1 ≤ n) × (n ≤ 1000)) 0 a e letters ls) (part-few a e 4096 letters few) b B (part_edges a e es)
      (part_same a e es.starts letters g.starts-long) (part_same a e es.ends letters g.ends-long) from to u v

  module _ (from to : Float) (u : UnderIn steps b from) (v : UnderIn steps b to) (es : Edges) (g : Timed (length letters) b es) where
    wider : EdgesUnderIn steps (b + stray) es
    wider = edges_more steps b (b + stray) es (omega arith) g.small

    -- ---- the words before the first inside
    module _ (first : ℕ) (l : first < length letters) where
      before-under : EdgesUnderIn steps (b + stray) (spread_before letters from first es)
      unfolding spread_before
      before-under = go (ltb 0 first)
        where
          go : (t : Bool) → EdgesUnderIn steps (b + stray) (cond t (on_part 0 first (spread (part 0 first letters) from (get_or es.starts first nan)) es) es)
          go true =
              on_part-under steps (b + stray) 0 first (spread (part 0 first letters) from (get_or es.starts first nan)) es wider
              (part-under 0 first from (get_or es.starts first nan) b es u (g.small.starts first (omega (arith, g.starts-long))) g)
          go false = wider

      -- the words from there on keep their ends
      before-end : (j : ℕ) → first ≤ j → get_or (spread_before letters from first es).ends j nan ≡ get_or es.ends j nan
      unfolding spread_before
      before-end j h = go (ltb 0 first)
        where
          f : Edges → Edges
          f = spread (part 0 first letters) from (get_or es.starts first nan)

          go : (t : Bool) → get_or (cond t (on_part 0 first f es) es).ends j nan ≡ get_or es.ends j nan
          go true =
              ap (λ (w : Times). w.end)
              (on_part-after 0 first f es (omega arith) (omega (arith, g.starts-long)) (omega (arith, g.ends-long))
              (spread-long (part 0 first letters) from (get_or es.starts first nan) (part_edges 0 first es)) j h)
          go false = refl

    -- ---- the words after the last inside
    after-under : (last : ℕ) (s : Edges) → Timed (length letters) (b + stray) s → UnderIn steps b (get_or s.ends last nan) → EdgesUnderIn steps (b + stray) (spread_after letters to last s)
    unfolding spread_after
    after-under last s h w = go (ltb (last + 1) (length s.starts))
      where
        go : (t : Bool) → EdgesUnderIn steps (b + stray) (cond t (on_part (last + 1) (length s.starts) (spread (part (last + 1) (length s.starts) letters) (get_or s.ends last nan) to) s) s)
        go true =
            on_part-under steps (b + stray) (last + 1) (length s.starts) (spread (part (last + 1) (length s.starts) letters) (get_or s.ends last nan) to) s h.small
            (part-under (last + 1) (length s.starts) (get_or s.ends last nan) to (b + stray) s w v h)
        go false = h.small

    -- ---- one group
    pub group-under : EdgesUnderIn steps (b + stray) (place_group letters from to es)
    unfolding place_group
    group-under = go (eqb first (length es.starts)) refl
      where
        first : ℕ
        first = first_inside from to es

        last : ℕ
        last = last_inside from to es

        go : (t : Bool) → eqb first (length es.starts) ≡ t → EdgesUnderIn steps (b + stray) (cond t (spread letters from to es) (place_between from to first last (spread_after letters to last (spread_before letters from first es))))
        go true t = unfold spread in forward-under letters ls few b B es g.starts-long g.ends-long from to u v
        go false t =
            let at : first < length es.starts = first-in from to es (eqb-false first (length es.starts) t) in
            let lies = last-in from to es at in
            let l : first < length letters = omega (arith, g.starts-long) in
            let s₁ = spread_before letters from first es in
            let g₁ = as_long (length letters) b es s₁ g (before-long letters from first es) (before-under first l) in
            let s₂ = spread_after letters to last s₁ in
            let w : UnderIn steps b (get_or s₁.ends last nan) =
            subst (UnderIn steps b) (sym (before-end first l last lies.0)) (g.small.ends last (omega (arith, g.starts-long, g.ends-long, lies.1))) in
            let g₂ : Timed (length letters) (b + stray) s₂ = record {
              starts-long = ap (λ (n : ℕ × ℕ). n.0) (after-long letters to last s₁) ∙ g₁.starts-long;
              ends-long = ap (λ (n : ℕ × ℕ). n.1) (after-long letters to last s₁) ∙ g₁.ends-long;
              small = after-under last s₁ g₁ w;
            } in
            (between-under from to (length letters) (b + stray) first last s₂ (omega (arith, g.starts-long, lies.1)) g₂).small

-- ---- all groups: the words that a span gets are placed between its ends
module _ (all : Words) (spans : Spans) (b : ℕ) (B : b ≤ farthest) (ls : AllFrom 1 1000 all.letters) (few : length all.letters ≤ 4096) (g : Timed (length all.letters) b (edges all.starts all.ends))
    (ends-long : length spans.ends ≡ length spans.starts) (u : AllUnder steps b spans.starts) (v : AllUnder steps b spans.ends) where
  placed-under : (p a e : ℕ) → p < length spans.starts
      → EdgesUnderIn steps (b + stray) (edges (placed_in spans p (group_of a e all)).starts (placed_in spans p (group_of a e all)).ends)
  unfolding placed_in group_of
  placed-under p a e l =
      let h = group-under (part a e all.letters) (each_part (λ (n : ℕ). (1 ≤ n) × (n ≤ 1000)) 0 a e all.letters ls) (part-few a e 4096 all.letters few) b B (get_or spans.starts p nan) (get_or spans.ends p nan)
      (u p l) (v p (omega (arith, ends-long))) (edges (part a e all.starts) (part a e all.ends)) (record {
        starts-long = part_same a e all.starts all.letters g.starts-long;
        ends-long = part_same a e all.ends all.letters g.ends-long;
        small = record {
          starts = each_part (UnderIn steps b) nan a e all.starts g.small.starts;
          ends = each_part (UnderIn steps b) nan a e all.ends g.small.ends;
        };
      }) in
      record { starts = h.starts; ends = h.ends }

  turn-placed : (p : ℕ) (out : Placing) → p < length spans.starts → EdgesUnderIn steps (b + stray) (edges out.words.starts out.words.ends)
      → EdgesUnderIn steps (b + stray) (edges (place_turn all spans p out).words.starts (place_turn all spans p out).words.ends)
  unfolding place_turn extend
  turn-placed p out l h = go (eqb (count group) 0)
    where
      k : ℕ
      k = out.k + get_or spans.counts p 0

      group : Words
      group = group_of (min out.k (count all)) (min k (count all)) all

      w : EdgesUnderIn steps (b + stray) (edges (placed_in spans p group).starts (placed_in spans p group).ends)
      w = placed-under p (min out.k (count all)) (min k (count all)) l

      same : Placing
      same = record { words = out.words; phrases = out.phrases; k = k }

      more : Placing
      more = record { words = extend out.words (placed_in spans p group); phrases = out.phrases ++ replicate (count group) p; k = k }

      go : (t : Bool) → EdgesUnderIn steps (b + stray) (edges (cond t same more).words.starts (cond t same more).words.ends)
      go true = h
      go false = record {
        starts = each_append (UnderIn steps (b + stray)) nan out.words.starts (placed_in spans p group).starts h.starts w.starts;
        ends = each_append (UnderIn steps (b + stray)) nan out.words.ends (placed_in spans p group).ends h.ends w.ends;
      }

  pub align-under : EdgesUnderIn steps (b + stray) (edges (align_phrases all spans).words.starts (align_phrases all spans).words.ends)
  unfolding align_phrases
  align-under =
      each_holds (λ (p : ℕ) (out : Placing). EdgesUnderIn steps (b + stray) (edges out.words.starts out.words.ends)) (place_turn all spans) (length spans.starts) turn-placed
      (length spans.starts) 0 (record { words = words [] [] [] [] []; phrases = []; k = 0 }) (omega arith) (record { starts = λ i l. absurd (omega arith); ends = λ i l. absurd (omega arith) })
