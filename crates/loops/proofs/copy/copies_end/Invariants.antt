use Prim.Native.Nat.{◌+◌, ◌-◌, ◌≤◌}
use mathlib.Core.Path.{◌≡◌}
use lib.ListN.{length}
use Rattle.loops.specs.Loops.{copies_end}
use Rattle.loops.specs.Parts.{held_keys}
use Rattle.loops.proofs.Held.{copies_from}
use Rattle.loops.proofs.copy.copies_end.Given as goal

abbrev pub invariant-loop-end : goal.invariant-loop-end
invariant-loop-end l = (l.rest ≤ l.end) × ((l.end ≤ length l.keys) × (copies_end l.n (held_keys (l.i + l.n) l.rest l.keys) l.i ≡ copies_from l.keys l.n l.i l.rest l.end))

abbrev pub decreases-loop-end : goal.decreases-loop-end
decreases-loop-end l = length l.keys - l.end
