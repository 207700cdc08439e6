use Prim.Native.Nat.{◌-◌, ◌≤◌}
use mathlib.Core.Path.{◌≡◌}
use Rattle.base.specs.Loop.{each}
use Rattle.envelope.specs.Envelope.{loud_row}
use Rattle.tally.specs.Parts.{loud_turn, loud_between}
use Rattle.tally.proofs.loud_count.Given as goal

abbrev pub invariant-loop-k : goal.invariant-loop-k
invariant-loop-k l =
    (l.n ≤ l.k) × ((l.n ≤ l.fn.r.hi) × (loud_between (loud_row l.e.floor l.e.levels.now) l.fn.r.lo l.fn.r.hi ≡ each (loud_turn (loud_row l.e.floor l.e.levels.now)) (l.fn.r.hi - l.k) l.k l.n))
