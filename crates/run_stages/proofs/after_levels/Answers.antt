-- `run_stages::after_levels` meets its contract. Assumes nothing.
use Rattle.run_stages.proofs.Left.{run_is}
use Rattle.run_stages.proofs.after_levels.Goals as goal

pub write_pieces-requires : goal.write_pieces-requires
write_pieces-requires c =
    c.requires.1.1

pub duration_of-requires : goal.duration_of-requires
duration_of-requires c =
    c.requires.1.1.few

pub run_on_words-left-requires : goal.run_on_words-left-requires
run_on_words-left-requires c =
    (c.requires.0, c.requires.1.0)

pub returns : goal.returns
returns c =
    run_is _ _ _ _ _ _ c.count_pieces-pieces.ensures c.write_pieces.ensures c.duration_of.ensures c.run_on_words-left.ensures
