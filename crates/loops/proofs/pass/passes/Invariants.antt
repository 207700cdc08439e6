use Prim.Native.Nat.{◌≤◌}
use mathlib.Core.Path.{◌≡◌}
use lib.ListN.{length}
use Rattle.base.specs.Parts.{first_words}
use Rattle.base.specs.WordListsMut.{words_of, SameLists}
use Rattle.loops.specs.Parts.{loop_words}
use Rattle.loops.proofs.InPlace.{passes_from}
use Rattle.loops.proofs.pass.passes.Given as goal

abbrev pub invariant-loop-n : goal.invariant-loop-n
invariant-loop-n l =
    SameLists l.initial.w l.w × ((length l.w.keys.now ≡ length l.initial.w.keys.now) × ((l.len ≤ length l.initial.w.keys.now)
    × (loop_words (words_of l.initial.w) ≡ passes_from l.n (first_words l.len (words_of l.w)))))
