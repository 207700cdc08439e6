use Prim.Native.Nat.{◌-◌}
use mathlib.Core.Path.{◌≡◌}
use lib.ListN.{length}
use Rattle.base.specs.Loop.{each}
use Rattle.base.specs.Words.{edges}
use Rattle.fit_to_sound.specs.FitToSound.{clip_turn, clip as clip_all}
use Rattle.fit_to_sound.proofs.word_starts.clip.Given as goal

abbrev pub invariant-loop-i : goal.invariant-loop-i
invariant-loop-i l =
    (length l.ends ≡ length l.initial.ends)
    × (clip_all (edges l.starts l.initial.ends) ≡ each clip_turn (length l.starts - 1 - l.i) l.i (edges l.starts l.ends))
