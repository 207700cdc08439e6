-- Settling ends keeps the lengths of both lists. Assumes nothing.
use Prim.Native.Nat.{ℕ}
use mathlib.Core.Bool.{Bool}
use mathlib.Core.List.{List}
use mathlib.Core.Path.{◌≡◌}
use lib.Ieee.{Float}
use Rattle.base.specs.Words.{Edges}
use Rattle.base.proofs.Loops.{each_keeps}
use Rattle.base.proofs.Parts.{long}
use Rattle.fit_to_sound.specs.FitToSound.{end_turn, settle_ends}
use Rattle.fit_to_sound.proofs.StartsKept.{stored-long}

pub settle-long : (row : List Bool) (duration : Float) (letters : List ℕ) (es : Edges) → long (settle_ends row duration letters es) ≡ long es
unfolding settle_ends end_turn
settle-long row duration letters es = each_keeps long (end_turn row duration letters) (λ (i : ℕ) (s : Edges). stored-long s i _) _ 0 es
