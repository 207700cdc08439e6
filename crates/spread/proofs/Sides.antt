-- A spread over no words changes nothing, so the code spreads before the first inside word and after the last one without a test; and a part
-- that was lent comes back in its place. Assumes nothing.
use Prim.Native.Nat.{ℕ, ◌+◌, ◌<◌}
use mathlib.Core.Path.{◌≡◌, refl, sym, ◌∙◌}
use mathlib.Core.Bool.{Bool, true, false, cond}
use mathlib.Core.List.{List, []}
use native.Mathlib.Omega.{arith}
use borrow.Author.Tests.{ltb-false}
use lib.Dec.{ltb}
use lib.ListN.{length, get_or}
use lib.Ieee.{Float, nan}
use Rattle.base.specs.Loop.{each}
use Rattle.base.specs.Words.{Edges, edges, part, with_part, part_edges, on_part}
use Rattle.base.proofs.Parts.{part_none, back_none, part-made}
use Rattle.share.specs.Share.{share}
use Rattle.spread.specs.Spread.{spread, spread_before, spread_after}

-- ---- no words are spread
spread_none : (from to : Float) (es : Edges) → spread [] from to es ≡ es
unfolding spread share each
spread_none from to es = refl

on_part-none : (a : ℕ) (letters : List ℕ) (from to : Float) (es : Edges) → on_part a a (spread (part a a letters) from to) es ≡ es
unfolding on_part part_edges
on_part-none a letters from to es =
    rw (part_none a letters, part_none a es.starts, part_none a es.ends, spread_none from to (edges [] []), back_none a es.starts, back_none a es.ends)

module _ (letters : List ℕ) (es : Edges) where
  before-always : (from : Float) (first : ℕ) → spread_before letters from first es ≡ on_part 0 first (spread (part 0 first letters) from (get_or es.starts first nan)) es
  unfolding spread_before
  before-always from first = go (ltb 0 first) refl
    where
      go : (t : Bool) → ltb 0 first ≡ t
          → cond (ltb 0 first) (on_part 0 first (spread (part 0 first letters) from (get_or es.starts first nan)) es) es ≡ on_part 0 first (spread (part 0 first letters) from (get_or es.starts first nan)) es
      go true t = rw t
      go false t = let z : first ≡ 0 = omega (arith, ltb-false 0 first t) in rw (t, z) (sym (on_part-none 0 letters from (get_or es.starts 0 nan) es))

  after-always : (to : Float) (last : ℕ) → last < length es.starts
      → spread_after letters to last es ≡ on_part (last + 1) (length es.starts) (spread (part (last + 1) (length es.starts) letters) (get_or es.ends last nan) to) es
  unfolding spread_after
  after-always to last h = go (ltb (last + 1) (length es.starts)) refl
    where
      go : (t : Bool) → ltb (last + 1) (length es.starts) ≡ t
          → cond (ltb (last + 1) (length es.starts)) (on_part (last + 1) (length es.starts) (spread (part (last + 1) (length es.starts) letters) (get_or es.ends last nan) to) es) es
          ≡ on_part (last + 1) (length es.starts) (spread (part (last + 1) (length es.starts) letters) (get_or es.ends last nan) to) es
      go true t = rw t
      go false t =
          let z : last + 1 ≡ length es.starts = omega (arith, ltb-false (last + 1) (length es.starts) t) in
          rw (t, z) (sym (on_part-none (length es.starts) letters (get_or es.ends last nan) to es))

pub before-made : (letters : List ℕ) (from : Float) (first : ℕ) (starts ends : List Float) {s t : List Float}
    → edges s t ≡ spread (part 0 first letters) from (get_or starts first nan) (edges (part 0 first starts) (part 0 first ends))
    → edges (with_part 0 first starts s) (with_part 0 first ends t) ≡ spread_before letters from first (edges starts ends)
unfolding part_edges
before-made letters from first starts ends h = part-made 0 first (spread (part 0 first letters) from (get_or starts first nan)) (edges starts ends) h ∙ sym (before-always letters (edges starts ends) from first)

pub after-made : (letters : List ℕ) (to : Float) (last : ℕ) (starts ends : List Float) {s t : List Float} → length starts ≡ length letters → length ends ≡ length letters → last < length letters
    → edges s t ≡ spread (part (last + 1) (length letters) letters) (get_or ends last nan) to (edges (part (last + 1) (length starts) starts) (part (last + 1) (length ends) ends))
    → edges (with_part (last + 1) (length starts) starts s) (with_part (last + 1) (length ends) ends t) ≡ spread_after letters to last (edges starts ends)
after-made letters to last starts ends p q l h =
    let r : length ends ≡ length starts = q ∙ sym p in
    let k : last < length starts = omega arith in
    rw r (part-made (last + 1) (length starts) (spread (part (last + 1) (length starts) letters) (get_or ends last nan) to) (edges starts ends) (go r h)
    ∙ sym (after-always letters (edges starts ends) to last k))
  where
    go : {s t : List Float} → length ends ≡ length starts
        → edges s t ≡ spread (part (last + 1) (length letters) letters) (get_or ends last nan) to (edges (part (last + 1) (length starts) starts) (part (last + 1) (length ends) ends))
        → edges s t ≡ spread (part (last + 1) (length starts) letters) (get_or ends last nan) to (part_edges (last + 1) (length starts) (edges starts ends))
    go r h = unfold part_edges in rw (← r, q) (rw (← r, q) at h)
