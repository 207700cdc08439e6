-- The first refusal that applies, by the tests in their order. Assumes nothing.
use Rattle.pieces.proofs.Rules.{samples-break, levels-break, places-break, none-break}
use Rattle.pieces.proofs.judge.Goals as goal

pub returns-then-many_samples : goal.returns-then-many_samples
returns-then-many_samples c = samples-break _ _ _ _ _ c.many_samples.ensures c.if-many_samples.true

pub returns-then-other_levels : goal.returns-then-other_levels
returns-then-other_levels c = levels-break _ _ _ _ _ c.many_samples.ensures c.if-many_samples.false c.other_levels.ensures c.if-other_levels.true

pub returns-then-short_of_places : goal.returns-then-short_of_places
returns-then-short_of_places c =
    places-break _ _ _ _ _ c.many_samples.ensures c.if-many_samples.false
    c.other_levels.ensures c.if-other_levels.false c.short_of_places.ensures c.if-short_of_places.true

pub returns : goal.returns
returns c =
    none-break _ _ _ _ _ c.many_samples.ensures c.if-many_samples.false
    c.other_levels.ensures c.if-other_levels.false c.short_of_places.ensures c.if-short_of_places.false
