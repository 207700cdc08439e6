use Prim.Native.Nat.{◌-◌, ◌≤◌, max}
use mathlib.Core.Path.{◌≡◌}
use lib.IntN.{pos}
use Rattle.base.specs.Loop.{on, run}
use Rattle.envelope.specs.Envelope.{loud_row}
use Rattle.fit_to_sound.specs.FitToSound.{rise_turn, rise_frame}
use Rattle.fit_to_sound.proofs.word_starts.rise_frame.Given as goal

abbrev pub invariant-loop-k : goal.invariant-loop-k
invariant-loop-k l =
    (l.k ≤ max l.fn.r.lo l.fn.r.hi)
    × (rise_frame (loud_row l.e.floor l.e.levels.now) (pos l.fn.r.lo) (pos l.fn.r.hi) ≡ run (rise_turn (loud_row l.e.floor l.e.levels.now)) (l.fn.r.hi - l.k) (pos l.k) (on (pos l.k)))
