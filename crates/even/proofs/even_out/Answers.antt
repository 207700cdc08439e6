-- `even::even_out` meets its contract, by what the tests found. Assumes nothing.
use borrow.Author.Rules.{rules}
use mathlib.Core.Path.{sym}
use Rattle.word_calls.proofs.Moved.{limit-fine}
use Rattle.even.proofs.Calls.{refused-made, accepted-made}
use Rattle.even.proofs.even_out.Goals as goal

pub invariant_of-w : goal.invariant_of-w
invariant_of-w c =
    let w = (limit-fine _ _ (sym c.in_ok-limit_rule.ensures)).0 in
    record { alike = (w.ends-as-long, w.letters-as-long) }

pub even_words-requires : goal.even_words-requires
even_words-requires c = (limit-fine _ _ (sym c.in_ok-limit_rule.ensures)).0.few

pub returns-in_err-limit_rule : goal.returns-in_err-limit_rule
returns-in_err-limit_rule c = refused-made _ _ c.from_residual.ensures.1 c.in_err-limit_rule.ensures

pub returns : goal.returns
returns c =
    let h = accepted-made _ _ _ _ c.in_ok-limit_rule.ensures c.even_words.ensures.evened in search rules
