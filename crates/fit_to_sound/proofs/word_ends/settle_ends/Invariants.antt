use Prim.Native.Nat.{◌-◌}
use mathlib.Core.Path.{◌≡◌}
use lib.ListN.{length}
use Rattle.base.specs.Loop.{each}
use Rattle.base.specs.Words.{edges}
use Rattle.envelope.specs.Envelope.{loud_row}
use Rattle.fit_to_sound.specs.FitToSound.{end_turn, settle_ends}
use Rattle.fit_to_sound.proofs.word_ends.settle_ends.Given as goal

abbrev pub invariant-loop-i : goal.invariant-loop-i
invariant-loop-i l =
    (length l.ends ≡ length l.initial.ends)
    × (settle_ends (loud_row l.e.floor l.e.levels.now) l.duration l.letters (edges l.starts l.initial.ends)
    ≡ each (end_turn (loud_row l.e.floor l.e.levels.now) l.duration l.letters) (length l.starts - l.i) l.i (edges l.starts l.ends))
