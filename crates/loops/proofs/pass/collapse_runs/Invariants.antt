use Prim.Native.Nat.{◌+◌, ◌-◌, ◌≤◌}
use mathlib.Core.Path.{◌≡◌}
use lib.ListN.{length}
use Rattle.base.specs.Words.{words}
use Rattle.base.specs.Parts.{OneLength, first_words}
use Rattle.base.specs.WordListsMut.{words_of}
use Rattle.loops.specs.Parts.{pass_words}
use Rattle.loops.proofs.InPlace.{after}
use Rattle.loops.proofs.pass.collapse_runs.Given as goal

abbrev pub invariant-loop-rest : goal.invariant-loop-rest
invariant-loop-rest l =
    OneLength (length l.fn.w.keys.now) (words l.starts l.ends l.letters l.units l.keys) × ((l.i + l.n ≤ l.rest) × ((l.rest ≤ l.len)
    × (pass_words l.n (first_words l.len (words_of l.fn.w)) ≡ after l.len l.n l.i l.rest (words l.starts l.ends l.letters l.units l.keys))))

abbrev pub decreases-loop-rest : goal.decreases-loop-rest
decreases-loop-rest l = l.len - l.rest
