use Prim.Native.Nat.{◌-◌, ◌≤◌}
use mathlib.Core.Path.{◌≡◌}
use Rattle.envelope.specs.Envelope.{loud_row}
use Rattle.ends.specs.Parts.{sound_on}
use Rattle.ends.proofs.sound.sound_past.Given as goal

abbrev pub invariant-loop-past : goal.invariant-loop-past
invariant-loop-past l =
    (l.fn.r.lo ≤ l.past) × ((l.past ≤ l.fn.r.hi) × (sound_on l.edge (loud_row l.e.floor l.e.levels.now) l.fn.r.lo l.fn.r.hi ≡ sound_on l.edge (loud_row l.e.floor l.e.levels.now) l.past l.fn.r.hi))

abbrev pub decreases-loop-past : goal.decreases-loop-past
decreases-loop-past l = l.fn.r.hi - l.past
