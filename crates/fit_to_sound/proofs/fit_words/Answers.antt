-- `fit_to_sound::fit_words` meets its contract, step after step. Assumes nothing.
use mathlib.Core.Path.{refl, sym}
use lib.Ieee.{of_bits, of_fields}
use Rattle.fit_to_sound.proofs.Turns.{fit_is}
use Rattle.fit_to_sound.proofs.fit_words.Goals as goal

pub returns-clause-fitted : goal.returns-clause-fitted
unfolding of_bits of_fields
returns-clause-fitted c =
    let evened = c.even_words.ensures.same.1.1 in
    fit_is _ _ _ _ c.put_in_order.ensures c.move_to_rise.ensures c.clip.ensures
    refl c.even_words.ensures.evened (rw (sym evened) at c.settle_ends.ensures) (rw (sym evened) at c.even_words-2.ensures.evened)
