-- The words of a phrase stay as many as they are. Assumes nothing.
use Rattle.std.specs.Prelude.{Option, Some, None}
use Prim.Native.Nat.{ℕ, ◌-◌}
use mathlib.Core.Bool.{Bool, true, false, cond}
use mathlib.Core.Path.{◌≡◌, refl, ◌∙◌}
use mathlib.Core.List.{List}
use lib.Dec.{ltb}
use lib.ListN.{length, set, length-set}
use lib.Ieee.{Float, lt}
use Rattle.base.specs.Words.{Edges}
use Rattle.base.specs.declared.Times.{Times}
use Rattle.base.proofs.Loops.{each_keeps}
use Rattle.base.proofs.Parts.{long, both}
use Rattle.even.proofs.Turns.{even-long}
use Rattle.fit_to_sound.proofs.Kept.{fit-long}
use Rattle.fit_file.specs.FitFile.{inside_turn, keep_inside, make_way, take_sound, take_run, take_trailing, fit_group}

inside-long : (span : Times) (group : Edges) → long (keep_inside span group) ≡ long group
unfolding keep_inside inside_turn
inside-long span group = each_keeps long (inside_turn span) (λ (i : ℕ) (s : Edges). both (length-set s.starts i _) (length-set s.ends i _)) _ 0 group

kept_if : (t : Bool) (a b : List Float) → length a ≡ length b → length (cond t a b) ≡ length b
kept_if true a b h = h
kept_if false a b h = refl

way_long : (last : ℕ) (start : Float) (ends : List Float) → length (make_way last start ends) ≡ length ends
unfolding make_way
way_long last start ends = kept_if (ltb 0 last) _ ends (length-set ends (last - 1) _)

sound-long : (last : ℕ) (w : Times) (group : Edges) → long (take_sound last w group) ≡ long group
unfolding take_sound
sound-long last w group = both (length-set group.starts last w.start) (way_long last w.start (set group.ends last w.end) ∙ length-set group.ends last w.end)

run_long : (run : Option Times) (after : Float) (last : ℕ) (group : Edges) → long (take_run run after last group) ≡ long group
unfolding take_run
run_long None after last group = refl
run_long (Some w) after last group = go (lt after w.start) where
  go : (t : Bool) → long (cond t (take_sound last w group) group) ≡ long group
  go true = sound-long last w group
  go false = refl

-- ---- fitting keeps the lengths of both lists
pub group-long : (row : List Bool) (duration : Float) (span : Times) (letters : List ℕ) (group : Edges) → long (fit_group row duration span letters group) ≡ long group
unfolding fit_group take_trailing
group-long row duration span letters group = even-long letters _ _ ∙ run_long _ _ _ _ ∙ inside-long span _ ∙ fit-long row _ letters group
