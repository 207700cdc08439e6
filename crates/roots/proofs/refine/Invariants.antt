use Prim.Native.Nat.{◌+◌, ◌-◌, ◌≤◌}
use Rattle.roots.specs.Parts.{Search}
use Rattle.roots.proofs.refine.Given as goal

abbrev pub invariant-loop : goal.invariant-loop
invariant-loop l = Search l.a l.q l.r l.w (l.j0 - l.counter) × (l.q0 ≤ l.q) × (l.q + l.w ≤ l.q0 + l.w0)
