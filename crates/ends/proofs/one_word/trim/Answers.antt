-- `ends::one_word::trim` meets its contract. Assumes nothing.
use Rattle.ends.proofs.OneWord.{trim-none, trim-some}
use Rattle.ends.proofs.one_word.trim.Goals as goal

pub returns-in-None : goal.returns-in-None
returns-in-None c = trim-none _ _ c.in-None.is

pub returns-in-Some : goal.returns-in-Some
returns-in-Some c = trim-some _ _ c.in-Some.is c.trim_to.ensures
