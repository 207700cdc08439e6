-- `fit_file::fit_file` meets its contract, by what the tests found. Assumes nothing.
use borrow.Author.Rules.{rules}
use Rattle.base.proofs.First.{refused}
use mathlib.Core.Path.{refl}
use Rattle.base.specs.Refusals.{Unchanged}
use Rattle.fit_file.proofs.Calls.{refused-made, short, lent, ready, accepted-made}
use Rattle.fit_file.proofs.fit_file.Goals as goal

pub duration_of-requires : goal.duration_of-requires
duration_of-requires c =
    short _ _ _ _ _ _ _ _ c.min.ensures c.min-places.ensures c.in_ok-phrases_rule.ensures refl

pub invariant_of-w : goal.invariant_of-w
invariant_of-w c =
    let w = lent _ _ _ _ _ _ _ _ c.min.ensures c.min-places.ensures c.in_ok-phrases_rule.ensures refl in
    record { alike = w.0; room = w.1.1 }

pub fit_phrases-requires : goal.fit_phrases-requires
fit_phrases-requires c =
    let w = lent _ _ _ _ _ _ _ _ c.min.ensures c.min-places.ensures c.in_ok-phrases_rule.ensures refl in
    (w.1.0, ready _ _ _ _ _ _ _ _ c.min.ensures c.min-places.ensures c.in_ok-phrases_rule.ensures refl)

pub returns-in_err-phrases_rule : goal.returns-in_err-phrases_rule
unfolding Unchanged
returns-in_err-phrases_rule c = rw (refused _ c.from_residual.ensures.1) (
  refused-made _ _ _ _ _ _ _ _ _ c.min.ensures c.min-places.ensures c.in_err-phrases_rule.ensures refl refl,
  (refl, (refl, refl)),
)

pub returns : goal.returns
unfolding Unchanged
returns c =
    let h = accepted-made _ _ _ _ _ _ _ _ _ c.min.ensures c.min-places.ensures c.in_ok-phrases_rule.ensures _ _ refl c.duration_of.ensures c.fit_phrases.ensures.fitted in
    (search rules, (tt, (tt, tt)))
