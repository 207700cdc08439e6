-- `phrase_align::place::place_span` meets its contract. Assumes nothing.
use Rattle.phrase_align.proofs.InPlace.{span-made}
use Rattle.phrase_align.proofs.place.place_span.Goals as goal

pub returns-clause-placed : goal.returns-clause-placed
returns-clause-placed c =
    span-made _ _ _ _ _ _ _ _ _ c.place_group.ensures c.number_words.ensures
