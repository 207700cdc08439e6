-- `fit_file::group::gather` meets its contract: the work space holds the members among the words before i. Assumes nothing.
use mathlib.Core.Path.{refl}
use borrow.Author.Rules.{rules}
use native.Mathlib.Omega.{arith}
use Rattle.fit_file.proofs.Members.{holds-none, holds-next}
use Rattle.fit_file.proofs.group.gather.Goals as goal

pub loop-i-init : goal.loop-i-init
loop-i-init c = (refl, (refl, (refl, (omega arith, holds-none _ _ _ _ _ _ _))))

pub loop-i-preserved : goal.loop-i-preserved
loop-i-preserved c = (
  search rules,
  (search rules, (search rules, (omega arith, holds-next _ _ _ _ _ _ _ _ _ (c.take_word-n.ensures.0 _ c.loop-i.invariant.1.1.1.1)))),
)
