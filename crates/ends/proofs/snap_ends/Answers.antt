-- `ends::snap_ends` meets its contract, by what the tests found. Assumes nothing.
use borrow.Author.Rules.{rules}
use mathlib.Core.Path.{sym}
use Rattle.word_calls.proofs.Moved.{timed-fine}
use Rattle.ends.proofs.Calls.{refused-made, accepted-made}
use Rattle.ends.proofs.snap_ends.Goals as goal

pub invariant_of-w : goal.invariant_of-w
invariant_of-w c =
    let w = timed-fine _ _ _ _ (sym c.in_ok-timed_rule.ensures) in
    record { alike = (w.0.ends-as-long, w.0.units-as-long) }

pub returns-in_err-timed_rule : goal.returns-in_err-timed_rule
returns-in_err-timed_rule c = refused-made _ _ _ _ _ c.from_residual.ensures.1 c.in_err-timed_rule.ensures

pub returns : goal.returns
returns c =
    let h = accepted-made _ _ _ _ _ _ _ c.in_ok-timed_rule.ensures c.move_ends.ensures.snapped in search rules
