-- `spread::inside::last_inside` meets its contract: the code's search stops where the definition's does. Assumes nothing.
use Rattle.std.proofs.Common.{rules, tests, arith, ◌≡◌, ◌-◌, ◌∙◌, length}
use Rattle.base.specs.Loop.{down}
use Rattle.base.specs.Words.{edges}
use Rattle.base.proofs.Loops.{down_le}
use Rattle.base.proofs.Searches.{found_below}
use Rattle.spread.specs.Spread.{outside_at, last_inside}
use Rattle.spread.proofs.inside.last_inside.Goals as goal

pub returns : goal.returns
unfolding last_inside
returns c =
    let p = outside_at c.args.span.start c.args.span.end (edges c.args.starts.now c.args.ends.now) in
    let n = length c.args.starts.now in
    let found : c.unwrap_or.result ≡ down p (n - 1) =
    c.unwrap_or.ensures ∙ found_below _ p (λ x b q k. search (rules, tests)) _ _ _ n c.rev.ensures.source c.find.ensures.ran in
    (found, omega (arith, found, down_le p (n - 1)))
