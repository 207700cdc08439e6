use Prim.Native.Nat.{◌≤◌}
use mathlib.Core.Path.{◌≡◌}
use lib.ListN.{length}
use Rattle.base.specs.Words.{edges}
use Rattle.fit_file.specs.FitFile.{members_of}
use Rattle.fit_file.specs.Parts.{Holds}
use Rattle.fit_file.proofs.group.gather.Given as goal

abbrev pub invariant-loop-i : goal.invariant-loop-i
invariant-loop-i l =
    (length l.work_starts ≡ length l.initial.work_starts) × ((length l.work_ends ≡ length l.initial.work_ends) × ((length l.work_letters ≡ length l.initial.work_letters)
    × ((l.n ≤ l.i) × Holds (members_of l.phrases l.p l.i) (edges l.starts l.ends) l.letters l.n l.work_starts l.work_ends l.work_letters)))
