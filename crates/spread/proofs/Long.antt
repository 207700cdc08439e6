-- Placing keeps the lengths of both lists of times. Assumes nothing.
use Prim.Native.Nat.{ℕ, ◌+◌, ◌-◌}
use mathlib.Core.Path.{◌≡◌, refl, ◌∙◌}
use mathlib.Core.Bool.{Bool, true, false, cond}
use mathlib.Core.List.{List}
use lib.Dec.{ltb, eqb}
use lib.ListN.{length, length-set}
use lib.Ieee.{Float}
use Rattle.base.specs.Words.{Edges, times_at, part_edges}
use Rattle.base.proofs.Loops.{each_keeps}
use Rattle.base.proofs.Parts.{long, both, on_part-long}
use Rattle.share.proofs.Long.{share-long}
use Rattle.spread.specs.Spread.{inside, first_inside, spread, spread_before, spread_after, between_turn, place_between, place_group}

pub spread-long : (letters : List ℕ) (from to : Float) (es : Edges) → long (spread letters from to es) ≡ long es
unfolding spread
spread-long letters from to es = share-long letters _ _ from es

-- ---- what is changed or not, by a test
changed : (t : Bool) (a b es : Edges) → long a ≡ long es → long b ≡ long es → long (cond t a b) ≡ long es
changed true a b es p q = p
changed false a b es p q = q

pub before-long : (letters : List ℕ) (from : Float) (first : ℕ) (es : Edges) → long (spread_before letters from first es) ≡ long es
unfolding spread_before
before-long letters from first es = changed (ltb 0 first) _ _ es (on_part-long 0 first _ es (spread-long _ _ _ (part_edges 0 first es))) refl

pub after-long : (letters : List ℕ) (to : Float) (last : ℕ) (es : Edges) → long (spread_after letters to last es) ≡ long es
unfolding spread_after
after-long letters to last es =
    changed (ltb (last + 1) (length es.starts)) _ _ es (on_part-long (last + 1) (length es.starts) _ es (spread-long _ _ _ (part_edges (last + 1) (length es.starts) es))) refl

turn-long : (from to : Float) (i : ℕ) (es : Edges) → long (between_turn from to i es) ≡ long es
unfolding between_turn
turn-long from to i es = changed (inside from to (times_at es i)) _ _ es refl (both (length-set es.starts i _) (length-set es.ends i _))

between-long : (from to : Float) (first last : ℕ) (es : Edges) → long (place_between from to first last es) ≡ long es
unfolding place_between
between-long from to first last es = each_keeps long (between_turn from to) (turn-long from to) (last - (first + 1)) (first + 1) es

pub group-long : (letters : List ℕ) (from to : Float) (es : Edges) → long (place_group letters from to es) ≡ long es
unfolding place_group
group-long letters from to es =
    changed (eqb (first_inside from to es) (length es.starts)) _ _ es (spread-long letters from to es)
    (between-long from to _ _ _ ∙ after-long letters to _ _ ∙ before-long letters from (first_inside from to es) es)
