-- `even::stretch::last_crushed` meets its contract: the code's search stops where the definition's does. Assumes nothing.
use Rattle.std.proofs.Common.{rules, tests, arith, ◌-◌, ◌+◌, length, ℕ}
use Rattle.even.specs.WeighedWords.{edges_of}
use Rattle.base.proofs.Searches.{up-at}
use Rattle.even.specs.Even.{crushed, last_crushed}
use Rattle.even.proofs.stretch.last_crushed.Goals as goal

pub returns-then-not-is_crushed : goal.returns-then-not-is_crushed
unfolding last_crushed
returns-then-not-is_crushed c =
    let p = λ (b : ℕ). crushed (edges_of c.args.w) (b + 1) in
    let n = length c.args.w.starts.now - 1 - c.args.i in
    (up-at p n c.args.i c.loop-b.b (omega arith) (omega arith) (λ _. search (rules, tests)) c.loop-b.invariant, (omega arith, omega arith))

pub returns : goal.returns
unfolding last_crushed
returns c =
    let p = λ (b : ℕ). crushed (edges_of c.args.w) (b + 1) in
    let end = length c.args.w.starts.now - 1 in
    (up-at p (end - c.args.i) c.args.i end (omega arith) (omega arith) (λ h. absurd (omega arith)) (λ k low high. c.loop-b.invariant k low (omega arith)), (omega arith, omega arith))
