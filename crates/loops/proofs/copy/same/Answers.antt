-- `loops::copy::same` meets its contract: the runs are compared key by key. Assumes nothing.
use Rattle.std.proofs.Common.{◌∙◌, rules, tests, arith, refl}
use Rattle.std.proofs.lemmas.Iterator.{YieldsList-from_range}
use Rattle.std.proofs.lemmas.Iterator.Search.{all_from_yields_List}
use Rattle.loops.proofs.Runs.{key_same, all-same}
use Rattle.loops.proofs.copy.same.Goals as goal

pub returns : goal.returns
unfolding key_same
returns c =
    all_from_yields_List (key_same c.args.keys.now c.args.a c.args.b) _ _ c.all.result c.all.ensures.ran
    (YieldsList-from_range 0 c.args.n c.args.n refl (omega arith)) (λ x b q k. search (rules, tests))
    ∙ all-same c.args.n c.args.keys.now c.args.a c.args.b (omega arith) (omega arith)
