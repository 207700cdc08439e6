-- `even::stretch::first_crushed` meets its contract: the code's search stops where the definition's does. Assumes nothing.
use Rattle.std.proofs.Common.{rules, tests, arith, ◌-◌, ℕ}
use Rattle.even.specs.WeighedWords.{edges_of}
use Rattle.base.proofs.Searches.{down-at}
use Rattle.even.specs.Even.{crushed, first_crushed}
use Rattle.even.proofs.stretch.first_crushed.Goals as goal

pub returns-then-not-is_crushed : goal.returns-then-not-is_crushed
unfolding first_crushed
returns-then-not-is_crushed c =
    let p = λ (a : ℕ). crushed (edges_of c.args.w) (a - 1) in
    (down-at p c.args.i c.loop-a.a (omega arith) (λ _. search (rules, tests)) c.loop-a.invariant, omega arith)

pub returns : goal.returns
unfolding first_crushed
returns c =
    let p = λ (a : ℕ). crushed (edges_of c.args.w) (a - 1) in
    (down-at p c.args.i 0 (omega arith) (λ h. absurd (omega arith)) (λ k low high. c.loop-a.invariant k (omega arith) high), omega arith)
