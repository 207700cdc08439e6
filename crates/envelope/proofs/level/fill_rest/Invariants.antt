use Rattle.std.proofs.Common.{◌≡◌, ◌-◌}
use Rattle.base.specs.Loop.{each}
use Rattle.envelope.specs.Envelope.{frames}
use Rattle.envelope.specs.Parts.{stored}
use Rattle.envelope.specs.Sound.{SameLists}
use Rattle.envelope.proofs.level.fill_rest.Given as goal

abbrev pub invariant-loop-k : goal.invariant-loop-k
invariant-loop-k l =
    let samples = l.initial.s.samples.now in
    SameLists l.initial.s l.s
    × (each (stored samples) (frames samples - l.from) l.from l.initial.s.levels.now ≡ each (stored samples) (frames samples - l.k) l.k l.s.levels.now)
