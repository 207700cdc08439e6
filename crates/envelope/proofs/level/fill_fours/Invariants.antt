use Rattle.std.proofs.Common.{◌≡◌, ◌-◌, ◌*◌}
use Rattle.base.specs.Loop.{each}
use Rattle.envelope.specs.Envelope.{frames}
use Rattle.envelope.specs.Parts.{stored}
use Rattle.envelope.specs.Sound.{SameLists}
use Rattle.envelope.proofs.level.fill_fours.Given as goal

abbrev pub invariant-loop-i : goal.invariant-loop-i
invariant-loop-i l =
    let samples = l.initial.s.samples.now in
    SameLists l.initial.s l.s
    × (each (stored samples) (frames samples) 0 l.initial.s.levels.now ≡ each (stored samples) (frames samples - l.i * 4) (l.i * 4) l.s.levels.now)
