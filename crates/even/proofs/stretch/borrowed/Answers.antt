-- `even::stretch::borrowed` meets its contract: the code's search stops where the definition's does. Assumes nothing.
use Rattle.std.proofs.Common.{rules, tests, arith}
use Rattle.even.specs.WeighedWords.{edges_of}
use Rattle.base.proofs.Searches.{down-at}
use Rattle.even.specs.Even.{borrows, borrowed}
use Rattle.even.proofs.stretch.borrowed.Goals as goal

pub returns-then-not-cramped : goal.returns-then-not-cramped
unfolding borrowed borrows
returns-then-not-cramped c =
    let p = borrows c.args.w.weights.now (edges_of c.args.w) c.args.ceiling c.args.row.last in
    (down-at p c.args.row.first c.loop-first.first (omega arith) (λ _. search (rules, tests)) c.loop-first.invariant, omega arith)

pub loop-first-preserved : goal.loop-first-preserved
unfolding borrows
loop-first-preserved c = search (rules, tests)

pub returns : goal.returns
unfolding borrowed
returns c =
    let p = borrows c.args.w.weights.now (edges_of c.args.w) c.args.ceiling c.args.row.last in
    (down-at p c.args.row.first 0 (omega arith) (λ h. absurd (omega arith)) (λ k low high. c.loop-first.invariant k (omega arith) high), omega arith)
