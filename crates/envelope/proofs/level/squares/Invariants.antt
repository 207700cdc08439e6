use Rattle.std.proofs.Common.{◌≡◌, drop}
use Rattle.base.specs.Loop.{fold}
use Rattle.envelope.specs.Envelope.{plus_square, squares}
use Rattle.envelope.proofs.level.squares.Given as goal

abbrev pub invariant-loop-s : goal.invariant-loop-s
invariant-loop-s l = squares l.frame ≡ fold plus_square l.e (drop l.s-index l.frame)
