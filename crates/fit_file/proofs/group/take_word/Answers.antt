-- `fit_file::group::take_word` meets its contract. Assumes nothing.
use native.Mathlib.Omega.{arith}
use Rattle.fit_file.proofs.Members.{taken, passed}
use Rattle.fit_file.proofs.group.take_word.Goals as goal

pub returns-then-phrases-i : goal.returns-then-phrases-i
returns-then-phrases-i c = ((λ members at. taken _ _ _ members _ _ _ _ _ _ at c.if-phrases-i.true (omega arith) (omega arith) (omega arith)), omega arith)

pub returns : goal.returns
returns c = ((λ members at. passed _ _ _ members _ _ _ _ _ _ at c.if-phrases-i.false), omega arith)
