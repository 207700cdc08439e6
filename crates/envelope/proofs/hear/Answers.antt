-- `envelope::hear` meets its contract: the levels stand in front, and the floor is theirs. Assumes nothing.
use Rattle.envelope.proofs.Answers.{heard-is}
use Rattle.envelope.proofs.hear.Goals as goal

pub returns : goal.returns
returns c = heard-is _ _ _ _ c.fill.ensures c.floor_of.ensures
