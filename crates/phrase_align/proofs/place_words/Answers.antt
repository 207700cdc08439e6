-- `phrase_align::place_words` meets its contract: what is placed in place is what the definition places. Assumes nothing.
use native.Mathlib.Nat.{le_trans, le_of_eq}
use Rattle.phrase_align.proofs.Made.{placed-made}
use Rattle.phrase_align.proofs.place_words.Goals as goal

pub returns-clause-placed : goal.returns-clause-placed
returns-clause-placed c =
    let even = c.args.w.now.alike in
    placed-made _ even _ c.requires.1 _ c.args.spans.alike.1 c.place_spans-at.ensures.0 (le_trans c.place_spans-at.ensures.1 (le_of_eq even.1.1.0)) c.number_words.ensures c.clear.ensures.cleared
