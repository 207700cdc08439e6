-- `even::stretch::grown` meets its contract: the code's search stops where the definition's does. Assumes nothing.
use Rattle.std.proofs.Common.{rules, tests, arith, ◌-◌, length, get_or}
use Rattle.std.specs.Float.{nan}
use Rattle.even.specs.WeighedWords.{edges_of}
use Rattle.base.proofs.Searches.{up-at}
use Rattle.even.specs.Even.{grows, grown}
use Rattle.even.proofs.stretch.grown.Goals as goal

pub returns-then-not-cramped : goal.returns-then-not-cramped
unfolding grown grows
returns-then-not-cramped c =
    let w = c.args.w in
    let r = c.args.row in
    let p = grows w.weights.now (edges_of w) (get_or w.starts.now r.first nan) r.first in
    let n = length w.starts.now - 1 - r.last in
    (up-at p n r.last c.loop-last.last (omega arith) (omega arith) (λ _. search (rules, tests)) c.loop-last.invariant, (omega arith, omega arith))

pub loop-last-preserved : goal.loop-last-preserved
unfolding grows
loop-last-preserved c = search (rules, tests)

pub returns : goal.returns
unfolding grown
returns c =
    let w = c.args.w in
    let r = c.args.row in
    let p = grows w.weights.now (edges_of w) (get_or w.starts.now r.first nan) r.first in
    let end = length w.starts.now - 1 in
    (up-at p (end - r.last) r.last end (omega arith) (omega arith) (λ h. absurd (omega arith)) (λ k low high. c.loop-last.invariant k low (omega arith)), (omega arith, omega arith))
