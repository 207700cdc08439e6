-- `limits::any_outside` meets its contract. Assumes nothing.
use Rattle.std.proofs.Common.{◌∙◌, rules, tests}
use Rattle.std.proofs.lemmas.Iterator.{YieldsList-from_slice}
use Rattle.std.proofs.lemmas.Iterator.Search.{any_from_yields_List}
use Rattle.limits.specs.Limits.{outside}
use Rattle.limits.proofs.Any.{any-is}
use Rattle.limits.proofs.any_outside.Goals as goal

pub returns : goal.returns
returns c = any_from_yields_List (outside c.args.least c.args.most) _ _ c.any.result c.any.ensures.ran (YieldsList-from_slice c.args.list.now cc) (λ x b q k. search (rules, tests)) ∙ any-is (outside c.args.least c.args.most) c.args.list.now
