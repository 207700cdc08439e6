-- `tails::hand_back_tails` meets its contract, by what the tests found. Assumes nothing.
use borrow.Author.Rules.{rules}
use mathlib.Core.Path.{sym}
use Rattle.word_calls.proofs.Moved.{sound-fine}
use Rattle.word_calls.proofs.Within.{letters-most}
use Rattle.tails.proofs.Calls.{refused-made, accepted-made}
use Rattle.tails.proofs.hand_back_tails.Goals as goal

pub invariant_of-w : goal.invariant_of-w
invariant_of-w c =
    let w = (sound-fine _ _ _ (sym c.in_ok-sound_rule.ensures)).0 in
    record { alike = (w.ends-as-long, w.letters-as-long) }

pub move_tails-requires : goal.move_tails-requires
move_tails-requires c = letters-most (sound-fine _ _ _ (sym c.in_ok-sound_rule.ensures)).0

pub returns-in_err-sound_rule : goal.returns-in_err-sound_rule
returns-in_err-sound_rule c = refused-made _ _ _ _ c.from_residual.ensures.1 c.in_err-sound_rule.ensures

pub returns : goal.returns
returns c =
    let h = accepted-made _ _ _ _ _ _ c.in_ok-sound_rule.ensures c.move_tails.ensures.handed in search rules
