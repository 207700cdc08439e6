-- `phrase_align::place::place_spans` meets its contract: the spans that are left, on the lists as they stand, give what all of them give. Assumes nothing.
use borrow.Author.Rules.{rules}
use mathlib.Core.Path.{refl, sym, ap, ◌∙◌}
use native.Mathlib.Omega.{arith}
use lib.ListN.{length}
use Rattle.base.proofs.Loops.{each_start, each_next, each-done}
use Rattle.phrase_align.specs.Parts.{held_spans}
use Rattle.phrase_align.proofs.InPlace.{held-alike, turn-made}
use Rattle.phrase_align.proofs.place.place_spans.Goals as goal

pub loop-p-init : goal.loop-p-init
unfolding held_spans
loop-p-init c = (search rules, (omega arith, (omega arith, (refl, each_start _ _ _))))

pub loop-p-preserved : goal.loop-p-preserved
loop-p-preserved c = (
  search rules,
  (
    omega (arith, c.min-e.ensures),
    (
      omega (arith, ap length c.place_span.ensures.same.1.1),
      (
        search rules,
        c.loop-p.invariant.1.1.1.1 ∙ each_next _ _ _ (omega arith) (turn-made _ _ _ _ c.loop-p.invariant.0.1.1 c.min-e.ensures c.place_span.ensures.placed),
      ),
    ),
  ),
)

pub returns : goal.returns
returns c = (held-alike (search rules) (search rules) ∙ sym (c.loop-p.invariant.1.1.1.1 ∙ each-done _ _ _ _ (omega arith)), c.loop-p.invariant.1.0)
