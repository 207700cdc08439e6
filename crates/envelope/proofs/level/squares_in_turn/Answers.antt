-- Four sums, one frame after another: each part that is lent is a frame. Assumes nothing.
use Rattle.envelope.specs.Envelope.{frame}
use Rattle.envelope.proofs.level.squares_in_turn.Goals as goal

pub returns : goal.returns
unfolding frame
returns c =
    record {
      first = c.squares-first.ensures;
      second = c.squares-second.ensures;
      third = c.squares-third.ensures;
      fourth = c.squares-fourth.ensures;
    }
