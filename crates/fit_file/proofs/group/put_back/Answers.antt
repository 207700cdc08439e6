-- `fit_file::group::put_back` meets its contract: the places before i have their words back. Assumes nothing.
use mathlib.Core.Path.{refl}
use borrow.Author.Rules.{rules}
use native.Mathlib.Omega.{arith}
use Rattle.fit_file.proofs.Members.{put-none, put_next}
use Rattle.fit_file.proofs.group.put_back.Goals as goal

pub loop-i-init : goal.loop-i-init
loop-i-init c = (refl, (refl, (omega arith, put-none _ _ _ _)))

pub loop-i-preserved : goal.loop-i-preserved
loop-i-preserved c =
    (search rules, (search rules, (omega arith, put_next _ _ _ _ _ _ _ (c.put_word-next.ensures.0 _ _ c.loop-i.invariant.1.1.1))))
