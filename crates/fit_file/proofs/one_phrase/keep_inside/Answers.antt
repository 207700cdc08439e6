-- `fit_file::one_phrase::keep_inside` meets its contract: the words left from i give what all of them give. Assumes nothing.
use Rattle.std.proofs.Common.{rules, refl, sym, ◌∙◌, arith}
use Rattle.base.proofs.Loops.{each_start, each_next, each-done}
use Rattle.fit_file.specs.FitFile.{inside_turn, keep_inside}
use Rattle.fit_file.proofs.one_phrase.keep_inside.Goals as goal

pub loop-i-init : goal.loop-i-init
unfolding keep_inside
loop-i-init c = ((refl, (refl, refl)), (refl, each_start _ _ _))

pub loop-i-preserved : goal.loop-i-preserved
unfolding inside_turn
loop-i-preserved c = (search rules, (search rules, c.loop-i.invariant.1.1 ∙ each_next _ _ _ (omega arith) (search rules)))

pub returns-clause-inside : goal.returns-clause-inside
returns-clause-inside c = sym (c.loop-i.invariant.1.1 ∙ each-done _ _ _ _ (omega arith))
