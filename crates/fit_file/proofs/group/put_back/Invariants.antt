use Prim.Native.Nat.{◌≤◌}
use mathlib.Core.Path.{◌≡◌}
use lib.ListN.{length}
use Rattle.base.specs.Words.{edges}
use Rattle.fit_file.specs.FitFile.{members_of}
use Rattle.fit_file.specs.Parts.{Put}
use Rattle.fit_file.proofs.group.put_back.Given as goal

abbrev pub invariant-loop-i : goal.invariant-loop-i
invariant-loop-i l =
    (length l.starts ≡ length l.initial.starts) × ((length l.ends ≡ length l.initial.ends)
    × ((l.next ≤ l.i) × Put (members_of l.phrases l.p l.i) (edges l.work_starts l.work_ends) (edges l.initial.starts l.initial.ends) l.next (edges l.starts l.ends)))
