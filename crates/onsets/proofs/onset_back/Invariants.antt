use mathlib.Core.Path.{◌≡◌}
use lib.IntN.{pos}
use Rattle.envelope.specs.Envelope.{loud_row}
use Rattle.onsets.specs.Onsets.{onset_frame}
use Rattle.onsets.proofs.Starts.{rises_at}
use Rattle.onsets.proofs.onset_back.Given as goal

abbrev pub invariant-loop-onset : goal.invariant-loop-onset
invariant-loop-onset l = onset_frame (loud_row l.e.floor l.e.levels.now) (pos l.f) (pos l.lo) ≡ rises_at (loud_row l.e.floor l.e.levels.now) l.lo l.onset

abbrev pub decreases-loop-onset : goal.decreases-loop-onset
decreases-loop-onset l = l.onset
