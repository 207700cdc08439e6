-- `job::print` meets its contract: by what the answer is. Assumes nothing.
use borrow.Author.Rules.{rules}
use mathlib.Core.Path.{refl, ◌∙◌}
use Rattle.job.proofs.Printing.{lent, refused-fits, pieces-fit, words-fit, refused-written, accepted-written}
use Rattle.job.proofs.print.Goals as goal

pub put_refused-requires : goal.put_refused-requires
put_refused-requires c =
    refused-fits _ _ _ _ _ _ _ c.requires c.in-Err.is

pub put_pieces-requires : goal.put_pieces-requires
put_pieces-requires c =
    pieces-fit _ _ _ _ _ _ _ c.requires _ c.in-Ok.is

pub put_words-requires : goal.put_words-requires
put_words-requires c =
    words-fit _ _ _ _ _ _ _ c.requires _ c.in-Ok.is c.put_pieces.ensures.1 c.put_pieces.ensures.0.places

pub returns-in-Err : goal.returns-in-Err
returns-in-Err c = lent (search rules) (refused-written _ _ _ _ _ _ _ c.requires _ c.in-Err.is c.from.ensures refl c.put_refused.ensures)

pub returns-in-Ok : goal.returns-in-Ok
returns-in-Ok c =
    let same = c.put_pieces.ensures.0.same ∙ c.put_words.ensures.0.same in
    lent (search rules) (accepted-written _ _ _ _ _ _ _ c.requires _ _ c.in-Ok.is refl c.put_pieces.ensures c.put_words.ensures)
