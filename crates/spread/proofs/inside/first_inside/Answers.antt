-- `spread::inside::first_inside` meets its contract: the code's search stops where the definition's does. Assumes nothing.
use Rattle.std.proofs.Common.{rules, tests, arith}
use native.Mathlib.Nat.{sub-zero}
use Rattle.base.specs.Words.{edges}
use Rattle.base.proofs.Searches.{found_up, found_under}
use Rattle.spread.specs.Spread.{outside_at, first_inside}
use Rattle.spread.proofs.inside.first_inside.Goals as goal

pub returns : goal.returns
unfolding first_inside
returns c =
    let p = outside_at c.args.span.start c.args.span.end (edges c.args.starts.now c.args.ends.now) in (
      rw sub-zero at (found_up _ p (λ x b q k. search (rules, tests)) _ _ _ (omega arith) c.find.ensures.ran),
      found_under _ p (λ x b q k. search (rules, tests)) _ _ _ (omega arith) c.find.ensures.ran,
    )
