-- `fit_file::each_phrase::fit_phrase` meets its contract. Assumes nothing.
use Rattle.fit_file.proofs.Phrases.{phrase-none, phrase-some}
use native.Mathlib.Omega.{arith}
use Rattle.fit_file.proofs.each_phrase.fit_phrase.Goals as goal

pub returns-then-n-eq0-clause-fitted : goal.returns-then-n-eq0-clause-fitted
returns-then-n-eq0-clause-fitted c = phrase-none _ _ _ _ _ _ _ _ _ _ _ c.gather-n.ensures.0 c.if-n-eq0.true

pub returns-clause-fitted : goal.returns-clause-fitted
returns-clause-fitted c =
    phrase-some _ _ _ _ _ _ _ _ _ _ _ c.gather-n.ensures.0 c.if-n-eq0.false (omega arith) (omega arith)
    c.fit_group.ensures c.put_back.ensures
