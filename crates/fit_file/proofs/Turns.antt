-- A word kept inside its span, and a phrase with no sound after its last word. Assumes nothing.
use Rattle.std.specs.Prelude.{Option, None}
use Prim.Native.Nat.{ℕ}
use mathlib.Core.Path.{◌≡◌}
use mathlib.Core.List.{List}
use lib.Ieee.{Float}
use Rattle.base.specs.Floats.{◌⊕◌, ◌⊖◌}
use Rattle.base.specs.Words.{edges, times}
use Rattle.base.specs.declared.Times.{Times}
use Rattle.js.specs.Js.{js_min, js_max}
use Rattle.fit_file.specs.FitFile.{min_word, inside_span, take_run}

-- ---- a word kept inside its span
pub inside_is : {a s b e : Float} (from to : Float) (w : Times) → a ≡ js_max w.start from → s ≡ js_min a (to ⊖ min_word) → b ≡ js_max w.end (s ⊕ min_word) → e ≡ js_min b to
    → times s e ≡ inside_span (times from to) w
unfolding inside_span
inside_is from to w ea es eb ee = rw (ee, eb, es, ea)

-- ---- no sound after the last word: it stays
module _ (last : ℕ) (starts ends : List Float) (after : Float) where
  pub run_none : {run : Option Times} → run ≡ None → edges starts ends ≡ take_run run after last (edges starts ends)
  unfolding take_run
  run_none h = rw h
