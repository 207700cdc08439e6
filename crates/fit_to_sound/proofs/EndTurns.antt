-- One word's end, by its sound: by the code's parts, and what is stored. Assumes nothing.
use Rattle.std.specs.Prelude.{Option, Some, None}
use Prim.Native.Nat.{ℕ}
use mathlib.Core.Bool.{Bool, true, false, cond, not, ◌&&◌}
use mathlib.Core.List.{List}
use mathlib.Core.Path.{◌≡◌, refl, ap, ◌∙◌}
use lib.ListN.{get_or, set}
use lib.Ieee.{Float, lt, le}
use Rattle.base.specs.Floats.{◌⊕◌, ◌⊖◌, ◌⊗◌, num}
use Rattle.base.specs.Words.{Edges, edges, times, times_at, loose}
use Rattle.base.specs.declared.Times.{Times}
use Rattle.js.specs.Js.{js_min}
use Rattle.ends.specs.Ends.{next_start, or_duration}
use Rattle.fit_to_sound.specs.FitToSound.{max_need, letter_time, sound_end_in, quiet_run, cut_back, lasts_to, ended_by, end_of, end_turn}
use Rattle.fit_to_sound.proofs.Starts.{set-end}

-- ---- 6. the next word, or none
module _ (row : List Bool) (w : Times) where
  -- no next word, and its sound ends later: the word ends there
  pub end_later : (end : Float) → lt w.end end ≡ true → times w.start end ≡ lasts_to row None end w
  unfolding lasts_to
  end_later end h = rw h

  pub lasts-by : {next by : Option Float} {r : Times} (end : Float) → next ≡ by → r ≡ lasts_to row by end w → r ≡ lasts_to row next end w
  lasts-by end e h = rw e h

-- ---- a word by where its sound ends
module _ (row : List Bool) (next : Option Float) (letters : ℕ) (w : Times) where
  pub ended-none : {sound : Option Float} → sound ≡ None → w ≡ ended_by row next letters sound w
  unfolding ended_by
  ended-none e = rw e

  pub ended_some : {sound : Option Float} {end : Float} {cut r : Times} → sound ≡ Some end → cut ≡ cut_back letters end w → r ≡ lasts_to row next end cut → r ≡ ended_by row next letters sound w
  unfolding ended_by
  ended_some e ec er = rw e (er ∙ rw ec)

  pub end_of_is : {to : Float} {sound : Option Float} {r : Times} (duration : Float) → to ≡ or_duration next duration → sound ≡ sound_end_in row w.start to → r ≡ ended_by row next letters sound w
      → r ≡ end_of row duration next letters w
  unfolding end_of
  end_of_is duration et es er = er ∙ rw (es, et)

-- ---- both steps move the end only
cut-start : (letters : ℕ) (end : Float) (w : Times) → (cut_back letters end w).start ≡ w.start
unfolding cut_back
cut-start letters end w = go (lt (end ⊕ loose) w.end && le (js_min max_need (letter_time ⊗ num letters)) (end ⊖ w.start)) where
  go : (t : Bool) → (cond t (times w.start end) w).start ≡ w.start
  go true = refl
  go false = refl

lasts-start : (row : List Bool) (next : Option Float) (end : Float) (w : Times) → (lasts_to row next end w).start ≡ w.start
unfolding lasts_to
lasts-start row (Some s) end w = go (lt w.end s && not (quiet_run row w.end s)) where
  go : (t : Bool) → (cond t (times w.start s) w).start ≡ w.start
  go true = refl
  go false = refl
lasts-start row None end w = go (lt w.end end) where
  go : (t : Bool) → (cond t (times w.start end) w).start ≡ w.start
  go true = refl
  go false = refl

ended-start : (row : List Bool) (next : Option Float) (letters : ℕ) (sound : Option Float) (w : Times) → (ended_by row next letters sound w).start ≡ w.start
unfolding ended_by
ended-start row next letters None w = refl
ended-start row next letters (Some end) w = lasts-start row next end (cut_back letters end w) ∙ cut-start letters end w

-- ---- what is stored
pub end-turn : {next : Option Float} {w t : Times} (row : List Bool) (duration : Float) (letters : List ℕ) (i : ℕ) (es : Edges) → next ≡ next_start es.starts i → w ≡ times_at es i
    → t ≡ end_of row duration next (get_or letters i 0) w → edges es.starts (set es.ends i t.end) ≡ end_turn row duration letters i es
unfolding end_turn end_of
end-turn {next} {w} {t} row duration letters i es en ew et =
    set-end t es.starts es.ends i (ap (λ (v : Times). v.start) et ∙ ended-start _ _ _ _ _ ∙ ap (λ (v : Times). v.start) ew) ∙ rw (rw (ew, en) at et)
