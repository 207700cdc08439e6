use mathlib.Core.Path.{◌≡◌}
use lib.ListN.{length}
use Rattle.base.specs.Words.{edges}
use Rattle.envelope.specs.Envelope.{loud_row}
use Rattle.tally.specs.Parts.{filled}
use Rattle.tally.proofs.sum_words.Given as goal

abbrev pub invariant-loop-i : goal.invariant-loop-i
invariant-loop-i l =
    (length l.places ≡ length l.fn.places) × (l.places ≡ filled (loud_row l.e.floor l.e.levels.now) l.phrases (edges l.starts l.ends) (length l.fn.places) l.i l.initial.places)
