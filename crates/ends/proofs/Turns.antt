-- One word's turn: what is stored. Assumes nothing.
use Rattle.std.specs.Prelude.{Option}
use Prim.Native.Nat.{ℕ, ◌+◌}
use mathlib.Core.Bool.{Bool, true, false}
use mathlib.Core.List.{List}
use mathlib.Core.Path.{◌≡◌, sym, ap, ◌∙◌}
use lib.ListN.{get_or, set}
use lib.Seq.{set-get_or}
use lib.Ieee.{Float, nan}
use Rattle.base.specs.Words.{Edges, edges, times_at}
use Rattle.base.specs.declared.Times.{Times}
use Rattle.ends.specs.Ends.{next_start, is_pair, pair_of, end_of, end_turn, set_pair}
use Rattle.ends.proofs.OneWord.{trim_start}

-- ---- what is stored
module _ (row : List Bool) (duration : Float) (units : List ℕ) (i : ℕ) (es : Edges) where
  pub turn-pair : {next : Option Float} {w t : Times} {made : Edges} → next ≡ next_start es.starts i → w ≡ times_at es i → is_pair next w ≡ true
      → t ≡ pair_of row w (get_or es.ends (i + 1) nan) (get_or units i 0) (get_or units (i + 1) 0) → made ≡ set_pair es i t
      → made ≡ end_turn row duration units i es
  unfolding end_turn set_pair
  turn-pair en ew p et em = em ∙ rw (← en, ← ew, p, et)

  pub turn_end : {next : Option Float} {w t : Times} → next ≡ next_start es.starts i → w ≡ times_at es i → is_pair next w ≡ false
      → t ≡ end_of row duration next w → edges es.starts (set es.ends i t.end) ≡ end_turn row duration units i es
  unfolding end_turn end_of
  turn_end {next} {w} {t} en ew p et =
      let s : t.start ≡ get_or es.starts i nan = ap (λ (v : Times). v.start) et ∙ trim_start _ _ _ ∙ ap (λ (v : Times). v.start) ew in
      ap (λ (l : List Float). edges l (set es.ends i t.end)) (sym (set-get_or es.starts i nan) ∙ ap (set es.starts i) (sym s))
      ∙ rw (← en, (rw ew at p), (rw ew at et))
