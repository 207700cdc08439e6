-- `tally::tally` meets its contract, by what the tests found. Assumes nothing.
use mathlib.Core.Path.{refl, ap, ◌∙◌}
use lib.ListN.{length}
use Rattle.std.proofs.lemmas.List.{length-take-le}
use Rattle.tally.specs.Tally.{tallies}
use Rattle.base.proofs.First.{refused}
use native.Mathlib.Omega.{arith}
use Rattle.tally.proofs.Calls.{enough, ready, refused-made, accepted-made}
use Rattle.tally.proofs.tally.Goals as goal

pub slice_bounds-sum_words-end : goal.slice_bounds-sum_words-end
slice_bounds-sum_words-end c = omega (arith, enough _ _ _ _ _ _ c.in_ok-phrases_rule.ensures refl)

pub slice_bounds-sum_words-end-2 : goal.slice_bounds-sum_words-end-2
slice_bounds-sum_words-end-2 c =
    let e = enough _ _ _ _ _ _ c.in_ok-phrases_rule.ensures refl in omega (arith, e, length-take-le (length c.args.spans.starts.now) c.args.places.now e)

pub sum_words-requires : goal.sum_words-requires
sum_words-requires c = ready _ _ _ _ _ _ c.in_ok-phrases_rule.ensures refl

pub returns-in_err-phrases_rule : goal.returns-in_err-phrases_rule
returns-in_err-phrases_rule c = rw (refused _ c.from_residual.ensures.1) (refused-made _ _ _ _ _ _ _ c.in_err-phrases_rule.ensures _ refl)

pub returns : goal.returns
returns c =
    accepted-made _ _ _ _ _ _ _ c.in_ok-phrases_rule.ensures refl
    (c.sum_words.ensures ∙ ap (tallies _ _ _) (length-take-le _ _ (enough _ _ _ _ _ _ c.in_ok-phrases_rule.ensures refl)))
