use Rattle.std.proofs.Common.{◌≡◌, drop}
use Rattle.base.specs.Loop.{fold}
use Rattle.js.specs.Js.{js_max}
use Rattle.envelope.specs.Envelope.{peak}
use Rattle.envelope.proofs.floor.floor_of.Given as goal

abbrev pub invariant-loop-level : goal.invariant-loop-level
invariant-loop-level l = peak l.levels ≡ fold js_max l.peak (drop l.level-index l.levels)
