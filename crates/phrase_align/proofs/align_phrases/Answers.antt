-- `phrase_align::align_phrases` meets its contract, by what the tests found. Assumes nothing.
use mathlib.Core.Path.{refl, sym, ◌∙◌}
use borrow.Author.Rules.{rules}
use Rattle.base.proofs.Cleared.{words-alike}
use Rattle.base.proofs.First.{refused}
use native.Mathlib.Nat.{le_trans, le_of_eq}
use Rattle.word_calls.proofs.Moved.{spans-fine}
use Rattle.word_calls.proofs.Within.{one-length}
use Rattle.phrase_align.proofs.Calls.{refused-made, accepted-made, left-alike}
use Rattle.phrase_align.proofs.align_phrases.Goals as goal

pub invariant_of-w : goal.invariant_of-w
invariant_of-w c = record { alike = one-length (spans-fine _ _ _ _ (sym c.in_ok-spans_rule.ensures)).0 }

pub place_words-n-requires : goal.place_words-n-requires
place_words-n-requires c =
    let w = spans-fine _ _ _ _ (sym c.in_ok-spans_rule.ensures) in
    (le_trans (le_of_eq w.0.keys-as-long) w.0.few, w.1.1)

pub invariant_of-spans : goal.invariant_of-spans
invariant_of-spans c =
    let s = (spans-fine _ _ _ _ (sym c.in_ok-spans_rule.ensures)).1.0 in record { alike = (s.ends-as-long, s.counts-as-long); few = s.few }

pub returns-in_err-spans_rule : goal.returns-in_err-spans_rule
returns-in_err-spans_rule c = rw (refused _ c.from_residual.ensures.1) (refused-made _ _ _ c.in_err-spans_rule.ensures _ refl)

pub returns : goal.returns
returns c =
    left-alike (words-alike (search rules) (search rules) (search rules) (search rules) (search rules))
    ∙ accepted-made _ _ _ c.in_ok-spans_rule.ensures refl c.place_words-n.ensures.placed
