use Prim.Native.Nat.{◌-◌}
use mathlib.Core.Path.{◌≡◌}
use lib.ListN.{length}
use Rattle.base.specs.TimedWords.{edges_of, SameLists}
use Rattle.even.specs.Even.{even_out}
use Rattle.even.proofs.Turns.{turns}
use Rattle.even.proofs.even_words.Given as goal

abbrev pub invariant-loop-i : goal.invariant-loop-i
invariant-loop-i l = SameLists l.initial.w l.w × ((length l.w.starts.now ≡ length l.initial.w.starts.now) × (even_out l.initial.w.weights.now l.limit (edges_of l.initial.w) ≡ turns l.initial.w.weights.now l.limit 0 (length l.initial.w.starts.now - l.i) (record { edges = edges_of l.w; i = l.i })))

abbrev pub decreases-loop-i : goal.decreases-loop-i
decreases-loop-i l = length l.initial.w.starts.now - l.i
