-- `run_stages::snap::snap` meets its contract. Assumes nothing.
use Rattle.run_stages.proofs.Row.{snap-is}
use Rattle.run_stages.proofs.snap.snap.Goals as goal

pub move_tails-requires : goal.move_tails-requires
move_tails-requires c = let p = c.requires in (p.0, (p.1.0, p.1.1.1))

pub returns : goal.returns
returns c =
    snap-is _ _ _ _ _ c.move_tails.ensures c.move_onsets.ensures c.move_ends.ensures
