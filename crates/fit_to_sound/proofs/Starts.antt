-- Starts in order, and what the loops over the words store. Assumes nothing.
use Rattle.std.specs.Prelude.{Option}
use Prim.Native.Nat.{ℕ, ◌+◌, ◌-◌, ◌<◌}
use mathlib.Core.Bool.{Bool, true, false, cond}
use mathlib.Core.List.{List}
use mathlib.Core.Path.{◌≡◌, refl, sym, ap, ◌∙◌}
use borrow.Author.Tests.{lt-ltb}
use lib.ListN.{get_or, set}
use lib.Seq.{set-get_or}
use lib.Ieee.{Float, nan, lt}
use Rattle.base.specs.Floats.{◌⊕◌}
use Rattle.base.specs.Words.{Edges, edges, times, times_at, set_times}
use Rattle.base.specs.declared.Times.{Times}
use Rattle.js.specs.Js.{js_min, js_max}
use Rattle.ends.specs.Ends.{next_start}
use Rattle.fit_to_sound.specs.FitToSound.{min_step, step_start, in_order, order_turn, rise_of, rise_turn_of, clipped, clip_turn}

-- ---- a start after another one
module _ (starts : List Float) (i : ℕ) where
  pub step_after : {r : Float} → 0 < i → r ≡ js_max (get_or starts i nan) (get_or starts (i - 1) nan ⊕ min_step) → r ≡ step_start starts i
  unfolding step_start
  step_after h e = rw (lt-ltb 0 i h) e

-- ---- a word in order, by its new end
module _ (w : Times) where
  pub order_is : {a b : Float} (duration : Float) → a ≡ js_max w.end w.start → b ≡ js_min duration a → times w.start b ≡ in_order duration w
  unfolding in_order
  order_is duration ea eb = rw (eb, ea)

-- ---- clipping moves the end only
clip-start : (next : Float) (w : Times) → (clipped next w).start ≡ w.start
unfolding clipped
clip-start next w = go (lt next w.end) where
  go : (t : Bool) → (cond t (times w.start (js_max w.start next)) w).start ≡ w.start
  go true = refl
  go false = refl

-- ---- a start that stays may be stored
pub set-end : (t : Times) (starts ends : List Float) (i : ℕ) → t.start ≡ get_or starts i nan → edges starts (set ends i t.end) ≡ edges (set starts i t.start) (set ends i t.end)
set-end t starts ends i e = ap (λ (l : List Float). edges l (set ends i t.end)) (sym (set-get_or starts i nan) ∙ ap (set starts i) (sym e))

-- ---- what is stored
module _ (i : ℕ) (es : Edges) where
  pub order-turn : {s : Float} {t : Times} {made : Edges} (duration : Float) → s ≡ step_start es.starts i → t ≡ in_order duration (times s (get_or es.ends i nan))
      → made ≡ set_times es i t → made ≡ order_turn duration i es
  unfolding order_turn
  order-turn duration eb et em = em ∙ rw (et, eb)

  pub rise-turn : {next : Option Float} {w t : Times} {made : Edges} (row : List Bool) → next ≡ next_start es.starts i → w ≡ times_at es i → t ≡ rise_of row next w
      → made ≡ set_times es i t → made ≡ rise_turn_of row i es
  unfolding rise_turn_of
  rise-turn row en ew et em = em ∙ rw (rw (ew, en) at et)

  pub clip-turn : {w t : Times} → w ≡ times_at es i → t ≡ clipped (get_or es.starts (i + 1) nan) w → edges es.starts (set es.ends i t.end) ≡ clip_turn i es
  unfolding clip_turn
  clip-turn {w} {t} ew et = set-end t es.starts es.ends i (ap (λ (v : Times). v.start) et ∙ clip-start _ _ ∙ ap (λ (v : Times). v.start) ew) ∙ rw (rw ew at et)
