use Prim.Native.Nat.{◌-◌}
use mathlib.Core.Path.{◌≡◌}
use lib.ListN.{length}
use Rattle.base.specs.Loop.{each}
use Rattle.base.specs.TimedWords.{edges_of, SameLists}
use Rattle.fit_file.specs.FitFile.{inside_turn, keep_inside}
use Rattle.fit_file.proofs.one_phrase.keep_inside.Given as goal

abbrev pub invariant-loop-i : goal.invariant-loop-i
invariant-loop-i l =
    SameLists l.initial.w l.w × ((length l.w.starts.now ≡ length l.initial.w.starts.now)
    × (keep_inside l.span (edges_of l.initial.w) ≡ each (inside_turn l.span) (length l.initial.w.starts.now - l.i) l.i (edges_of l.w)))
