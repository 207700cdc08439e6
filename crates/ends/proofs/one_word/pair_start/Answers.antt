-- `ends::one_word::pair_start` meets its contract. Assumes nothing.
use Rattle.ends.proofs.Rise.{rise-met, rise-none}
use Rattle.ends.proofs.one_word.pair_start.Goals as goal

pub returns-in_default : goal.returns-in_default
returns-in_default c = rise-none _ _ _ _ _ _ c.between-r.ensures.0 c.between-r.ensures.1 c.in_default.ensures.found

pub returns : goal.returns
returns c = rise-met _ _ _ _ _ _ c.between-r.ensures.0 c.between-r.ensures.1 _ c.in-Some.ensures.found c.index_seconds.ensures c.js_max.ensures
