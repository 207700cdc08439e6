-- The call, by what its tests found. Assumes nothing.
use Prim.Native.Nat.{ℕ}
use mathlib.Core.List.{List}
use mathlib.Core.Path.{◌≡◌, ap}
use lib.ListN.{length}
use lib.Ieee.{Float}
use Rattle.base.specs.Refusals.{first, Rule}
use Rattle.envelope.specs.Envelope.{loud_row}
use Rattle.last_run.specs.LastRun.{last_run, tests, by_rule, last_run_call}

pub call_by : (levels : List Float) (floor : Float) (count : ℕ) (from to : Float) {r : Rule} → first (tests (length levels) count from to) ≡ r
    → last_run_call levels floor count from to ≡ by_rule r (last_run (loud_row floor levels) from to)
unfolding last_run_call
call_by levels floor count from to h = ap (λ (r : Rule). by_rule r (last_run (loud_row floor levels) from to)) h
