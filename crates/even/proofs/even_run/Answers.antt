-- `even::even_run` meets its contract. Assumes nothing.
use Rattle.even.proofs.Runs.{run_is}
use Rattle.even.proofs.even_run.Goals as goal

pub returns-clause-evened : goal.returns-clause-evened
returns-clause-evened c =
    run_is _ _ _ _ c.share.ensures c.sum-total.ensures
