-- Which words placing leaves untouched: a word that is inside its span keeps both its times. Before the first inside word and after the last one no word
-- is inside; between them an inside word is passed over. Assumes nothing.
use Prim.Native.Nat.{ℕ, ◌+◌, ◌-◌, ◌≤◌, ◌<◌}
use mathlib.Core.Path.{◌≡◌, refl, sym, ap, ◌∙◌}
use mathlib.Core.Bool.{Bool, true, false, cond, true≢false}
use mathlib.Core.List.{List}
use native.Mathlib.Omega.{arith}
use borrow.Author.Tests.{ltb-true, ltb-false, eqb-true, eqb-false, ne_eqb}
use lib.Dec.{ltb, eqb}
use lib.ListN.{length, get_or}
use lib.Seq.{get_or-set_other}
use lib.Ieee.{Float, nan}
use Rattle.base.specs.Loop.{up, down}
use Rattle.base.specs.Words.{Edges, times, times_at, set_times, part, part_edges, on_part}
use Rattle.base.specs.declared.Times.{Times}
use Rattle.base.proofs.Loops.{each_holds, up-seen, down-seen, down_le}
use Rattle.base.proofs.Parts.{long, on_part-before, on_part-after}
use Rattle.js.specs.Js.{js_max}
use Rattle.spread.specs.Spread.{inside, outside_at, first_inside, last_inside, spread, spread_before, spread_after, between_turn, place_between, place_group}
use Rattle.spread.proofs.Long.{spread-long, before-long}

last-in : (from to : Float) (es : Edges) → 0 < length es.starts → last_inside from to es < length es.starts
unfolding last_inside
last-in from to es h = omega (arith, down_le (outside_at from to es) (length es.starts - 1))

module _ (from to : Float) (es : Edges) (even : length es.ends ≡ length es.starts) (j : ℕ) (in_List : j < length es.starts) (is : inside from to (times_at es j) ≡ true) where
  not-outside : outside_at from to es j ≡ true → ⊥
  not-outside h = true≢false (sym h ∙ rw is)

  first-le : first_inside from to es ≤ j
  unfolding first_inside
  first-le = go (ltb j (up (outside_at from to es) (length es.starts) 0)) refl
    where
      go : (t : Bool) → ltb j (up (outside_at from to es) (length es.starts) 0) ≡ t → up (outside_at from to es) (length es.starts) 0 ≤ j
      go true t = absurd (not-outside (up-seen (outside_at from to es) (length es.starts) 0 j (omega arith) (ltb-true j _ t)))
      go false t = ltb-false j _ t

  last-ge : j ≤ last_inside from to es
  unfolding last_inside
  last-ge = go (ltb (down (outside_at from to es) (length es.starts - 1)) j) refl
    where
      go : (t : Bool) → ltb (down (outside_at from to es) (length es.starts - 1)) j ≡ t → j ≤ down (outside_at from to es) (length es.starts - 1)
      go true t = absurd (not-outside (down-seen (outside_at from to es) (length es.starts - 1) j (omega arith) (ltb-true _ j t)))
      go false t = ltb-false _ j t

  -- ---- the spreads before and after
  before-keeps : (letters : List ℕ) (first : ℕ) → first ≤ j → times_at (spread_before letters from first es) j ≡ times_at es j
  unfolding spread_before
  before-keeps letters first h = go (ltb 0 first)
    where
      go : (t : Bool) → times_at (cond t (on_part 0 first (spread (part 0 first letters) from (get_or es.starts first nan)) es) es) j ≡ times_at es j
      go true =
          on_part-after 0 first (spread (part 0 first letters) from (get_or es.starts first nan)) es (omega arith) (omega arith) (omega arith) (spread-long _ _ _ (part_edges 0 first es)) j h
      go false = refl

  turn-keeps : (i : ℕ) (s : Edges) → times_at s j ≡ times_at es j → times_at (between_turn from to i s) j ≡ times_at es j
  unfolding between_turn
  turn-keeps i s h = go (eqb j i) refl
    where
      moved : Edges
      moved = set_times s i (times (times_at s (i - 1)).end (js_max (times_at s (i - 1)).end (times_at s (i + 1)).start))

      alike : {a b : Times} {c d : Float} → a ≡ b → c ≡ a.start → d ≡ a.end → times c d ≡ b
      alike p q r = rw (q, r) p

      other : (j ≡ i → ⊥) → (t : Bool) → times_at (cond t s moved) j ≡ times_at es j
      other n true = h
      other n false = alike h (get_or-set_other s.starts i j _ nan n) (get_or-set_other s.ends i j _ nan n)

      here : inside from to (times_at s i) ≡ true → times_at (cond (inside from to (times_at s i)) s moved) j ≡ times_at es j
      here t = rw t h

      go : (t : Bool) → eqb j i ≡ t → times_at (cond (inside from to (times_at s i)) s moved) j ≡ times_at es j
      go false t = other (eqb-false j i t) (inside from to (times_at s i))
      go true t = let e : j ≡ i = eqb-true j i t in here (ap (λ (k : ℕ). inside from to (times_at s k)) (sym e) ∙ ap (inside from to) h ∙ is)

  between-keeps : (first last : ℕ) (s : Edges) → times_at s j ≡ times_at es j → times_at (place_between from to first last s) j ≡ times_at es j
  unfolding place_between
  between-keeps first last s h =
      each_holds (λ (_ : ℕ) (v : Edges). times_at v j ≡ times_at es j) (between_turn from to) (first + 1 + (last - (first + 1))) (λ (i : ℕ) (v : Edges) (_ : i < first + 1 + (last - (first + 1))). turn-keeps i v)
      (last - (first + 1)) (first + 1) s refl h

after-keeps : (letters : List ℕ) (to : Float) (last : ℕ) (es : Edges) (j : ℕ) → length es.ends ≡ length es.starts → last < length es.starts → j ≤ last → times_at (spread_after letters to last es) j ≡ times_at es j
unfolding spread_after
after-keeps letters to last es j even l h = go (ltb (last + 1) (length es.starts))
  where
    go : (t : Bool) → times_at (cond t (on_part (last + 1) (length es.starts) (spread (part (last + 1) (length es.starts) letters) (get_or es.ends last nan) to) es) es) j ≡ times_at es j
    go true =
        on_part-before (last + 1) (length es.starts) (spread (part (last + 1) (length es.starts) letters) (get_or es.ends last nan) to) es (omega arith) (omega arith) (omega arith)
        (spread-long _ _ _ (part_edges (last + 1) (length es.starts) es)) j (omega arith)
    go false = refl

-- ---- one phrase
pub group-keeps : (letters : List ℕ) (from to : Float) (es : Edges) (j : ℕ) → length es.ends ≡ length es.starts → j < length es.starts → inside from to (times_at es j) ≡ true
    → times_at (place_group letters from to es) j ≡ times_at es j
unfolding place_group
group-keeps letters from to es j even h is =
    let first = first_inside from to es in
    let last = last_inside from to es in
    let f : first ≤ j = first-le from to es even j h is in
    let l : j ≤ last = last-ge from to es even j h is in
    let n : last < length es.starts = last-in from to es (omega arith) in
    let b : long (spread_before letters from first es) ≡ long es = before-long letters from first es in
    let bs : length (spread_before letters from first es).starts ≡ length es.starts = ap (λ (n : ℕ × ℕ). n.0) b in
    let be : length (spread_before letters from first es).ends ≡ length es.ends = ap (λ (n : ℕ × ℕ). n.1) b in
    let z : (first ≡ length es.starts → ⊥) = (λ e. omega arith) in
    rw (ne_eqb first (length es.starts) z)
    (between-keeps from to es even j h is first last _
    (after-keeps letters to last (spread_before letters from first es) j (be ∙ even ∙ sym bs) (omega arith) l ∙ before-keeps from to es even j h is letters first f))
