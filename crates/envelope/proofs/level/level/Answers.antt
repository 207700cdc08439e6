-- `envelope::level::level` meets its contract. Assumes nothing.
use Rattle.envelope.specs.Envelope.{level}
use Rattle.envelope.proofs.level.level.Goals as goal

pub returns : goal.returns
unfolding level
returns c = cc
