-- `fit_file::each_phrase::fit_phrases` meets its contract: the phrases left from p give what all of them give. Assumes nothing.
use borrow.Author.Rules.{rules}
use mathlib.Core.Path.{refl, sym, ◌∙◌}
use Rattle.base.proofs.Loops.{each_start, each_next, each-done}
use Rattle.fit_file.specs.FitFile.{fit_file}
use native.Mathlib.Omega.{arith}
use Rattle.fit_file.proofs.each_phrase.fit_phrases.Goals as goal

pub loop-p-init : goal.loop-p-init
loop-p-init c = unfold fit_file in (search rules, (refl, each_start _ _ _))

pub loop-p-preserved : goal.loop-p-preserved
loop-p-preserved c =
    let v = c.loop-p.invariant in
    (search rules, (search rules, v.1.1 ∙ each_next _ _ _ (omega arith) (rw (v.0.1.1.0, v.0.1.1.1.0) c.fit_phrase.ensures.fitted)))

pub returns-clause-fitted : goal.returns-clause-fitted
returns-clause-fitted c = sym (c.loop-p.invariant.1.1 ∙ each-done _ _ _ _ (omega arith))
