-- `fit_file::group::put_word` meets its contract. Assumes nothing.
use mathlib.Core.Path.{sym}
use native.Mathlib.Omega.{arith}
use Rattle.fit_file.proofs.Members.{stored, left}
use Rattle.fit_file.proofs.group.put_word.Goals as goal

pub returns-then-p-phrases : goal.returns-then-p-phrases
returns-then-p-phrases c = ((λ members es at. stored _ _ _ members _ es _ _ _ at (sym c.if-p-phrases.true) (omega arith) (omega arith)), omega arith)

pub returns : goal.returns
returns c = ((λ members es at. left _ _ _ members _ es _ _ _ at (λ e. c.if-p-phrases.false (sym e))), omega arith)
