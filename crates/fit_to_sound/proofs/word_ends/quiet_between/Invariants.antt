use Prim.Native.Nat.{◌-◌, ◌<◌}
use mathlib.Core.Path.{◌≡◌}
use lib.IntN.{pos}
use Rattle.base.specs.Loop.{on, run as run_turns}
use Rattle.envelope.specs.Envelope.{loud_row}
use Rattle.fit_to_sound.specs.FitToSound.{quiet_turn, quiet_between}
use Rattle.fit_to_sound.proofs.Silence.{running}
use Rattle.fit_to_sound.proofs.word_ends.quiet_between.Given as goal

abbrev pub invariant-loop-k : goal.invariant-loop-k
invariant-loop-k l =
    (l.run < 15) × (quiet_between (loud_row l.e.floor l.e.levels.now) (pos l.fn.r.lo) (pos l.fn.r.hi) ≡ (run_turns (quiet_turn (loud_row l.e.floor l.e.levels.now)) (l.fn.r.hi - l.k) (pos l.k) (on (running l.run))).met)
