use Prim.Native.Nat.{◌-◌}
use mathlib.Core.Path.{◌≡◌}
use lib.ListN.{length}
use Rattle.base.specs.Loop.{each}
use Rattle.base.specs.TimedWords.{edges_of, SameLists}
use Rattle.spread.specs.Spread.{between_turn, place_between}
use Rattle.spread.proofs.place_between.Given as goal

abbrev pub invariant-loop-i : goal.invariant-loop-i
invariant-loop-i l = SameLists l.initial.w l.w × ((length l.w.starts.now ≡ length l.initial.w.starts.now)
    × (place_between l.span.start l.span.end l.first l.last (edges_of l.initial.w) ≡ each (between_turn l.span.start l.span.end) (l.last - l.i) l.i (edges_of l.w)))
