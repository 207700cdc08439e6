-- `last_run::search_back` meets its contract: what is left of the loop, from where the search stands, gives the whole. Assumes nothing.
use mathlib.Core.Path.{refl}
use native.Mathlib.Omega.{arith}
use Rattle.last_run.proofs.Steps.{search-starts, search-next, search-stop, search-done}
use Rattle.last_run.proofs.search_back.Goals as goal

pub loop-k-init : goal.loop-k-init
loop-k-init c = (refl, (omega arith, search-starts _ _ _))

pub returns-then-s : goal.returns-then-s
returns-then-s c =
    let inv = c.loop-k.invariant in
    (search-stop _ _ _ _ _ c.loop-k-test.true c.loud.ensures c.step-s.ensures.0 inv.1.1 c.if-s.true, omega arith)

pub loop-k-preserved : goal.loop-k-preserved
loop-k-preserved c =
    let inv = c.loop-k.invariant in
    (c.if-s.false, (omega arith, search-next _ _ _ _ _ c.loop-k-test.true c.loud.ensures c.step-s.ensures.0 inv.1.1 c.if-s.false))

pub returns : goal.returns
returns c = let inv = c.loop-k.invariant in (search-done _ _ _ _ c.loop-k-test.false inv.1.1, inv.1.0)
