-- `full_run::rule::judge` meets its contract: the tests, joined as the definition has them. Assumes nothing.
use Prim.Native.Nat.{ℕ}
use mathlib.Core.Path.{◌≡◌, ap, ◌∙◌}
use Rattle.limits.proofs.Joined.{also-made, chain-made}
use Rattle.limits.specs.declared.Applies.{Applies}
use Rattle.word_calls.specs.Calls.{of_places}
use Rattle.full_run.specs.Parts.{applies_to}
use Rattle.full_run.proofs.rule.judge.Goals as goal

needed : (places : ℕ) {n m : ℕ} {r : Applies} → n ≡ m → r ≡ of_places places n → r ≡ of_places places m
needed places e h = h ∙ ap (of_places places) e

pub returns : goal.returns
unfolding applies_to
returns c =
    chain-made (also-made (also-made c.of_words-listed.ensures (also-made c.of_spans-placed.ensures c.of_samples.ensures c.also.ensures) c.also-given.ensures)
    (also-made c.of_places-heard.ensures
    (also-made (needed _ c.places_needed.ensures c.of_places-cut.ensures)
    (also-made c.of_places-numbered.ensures c.of_places-fitted.ensures c.also-2.ensures) c.also-3.ensures) c.also-lent.ensures) c.also-4.ensures) c.chain.ensures
