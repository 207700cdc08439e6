-- `fit_to_sound::fit_to_sound` meets its contract, by what the tests found. Assumes nothing.
use borrow.Author.Rules.{rules}
use mathlib.Core.Path.{sym}
use Rattle.word_calls.proofs.Moved.{timed-fine}
use Rattle.fit_to_sound.proofs.Calls.{refused-made, accepted-made}
use Rattle.fit_to_sound.proofs.fit_to_sound.Goals as goal

pub invariant_of-w : goal.invariant_of-w
invariant_of-w c =
    let w = (timed-fine _ _ _ _ (sym c.in_ok-timed_rule.ensures)).0 in
    record { alike = (w.ends-as-long, w.letters-as-long) }

pub fit_words-requires : goal.fit_words-requires
fit_words-requires c = (timed-fine _ _ _ _ (sym c.in_ok-timed_rule.ensures)).0.few

pub returns-in_err-timed_rule : goal.returns-in_err-timed_rule
returns-in_err-timed_rule c = refused-made _ _ _ _ _ c.from_residual.ensures.1 c.in_err-timed_rule.ensures

pub returns : goal.returns
returns c =
    let h = accepted-made _ _ _ _ _ _ _ c.in_ok-timed_rule.ensures c.fit_words.ensures.fitted in search rules
