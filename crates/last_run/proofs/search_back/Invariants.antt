use Prim.Native.Nat.{◌≤◌}
use mathlib.Core.Path.{◌≡◌}
use mathlib.Core.Bool.{false}
use lib.IntN.{pos}
use Rattle.envelope.specs.Envelope.{loud_row}
use Rattle.last_run.specs.LastRun.{ends_between}
use Rattle.last_run.proofs.Steps.{rest}
use Rattle.last_run.proofs.search_back.Given as goal

abbrev pub invariant-loop-k : goal.invariant-loop-k
invariant-loop-k l =
    (l.s.over ≡ false) × ((l.s.past ≤ l.fn.r.hi) × (ends_between (loud_row l.e.floor l.e.levels.now) (pos l.fn.r.lo) (pos l.fn.r.hi) ≡ rest (loud_row l.e.floor l.e.levels.now) l.fn.r.lo l.k l.s))
