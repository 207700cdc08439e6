use Rattle.job_io.proofs.Hearing.{Hearing}
use Prim.Native.Nat.{◌-◌, ◌≤◌}
use Rattle.job_io.proofs.hear.Given as goal

abbrev pub invariant-loop-done : goal.invariant-loop-done
invariant-loop-done g l =
    (l.done ≤ l.count)
    × Hearing (g.R.Read.remaining l.initial.from) (g.R.Read.remaining l.from) l.count l.done l.came l.bytes l.initial.levels l.levels

abbrev pub decreases-loop-done : goal.decreases-loop-done
decreases-loop-done g l = l.count - l.done
