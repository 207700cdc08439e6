-- `limits::chain` meets its contract: the tests in their order. Assumes nothing.
use mathlib.Core.Path.{sym, ◌∙◌}
use Rattle.base.proofs.First.{first-here, first-skip, first-end}
use Rattle.limits.specs.Order.{in_order, chain}
use Rattle.limits.proofs.chain.Goals as goal

pub returns-then-a : goal.returns-then-a
unfolding chain in_order
returns-then-a c = sym (first-here _ _ c.if-a.true)

pub returns-then-a-2 : goal.returns-then-a-2
unfolding chain in_order
returns-then-a-2 c = sym (first-skip _ _ c.if-a.false ∙ first-here _ _ c.if-a-2.true)

pub returns-then-a-3 : goal.returns-then-a-3
unfolding chain in_order
returns-then-a-3 c = sym (first-skip _ _ c.if-a.false ∙ first-skip _ _ c.if-a-2.false ∙ first-here _ _ c.if-a-3.true)

pub returns-then-a-4 : goal.returns-then-a-4
unfolding chain in_order
returns-then-a-4 c = sym (first-skip _ _ c.if-a.false ∙ first-skip _ _ c.if-a-2.false ∙ first-skip _ _ c.if-a-3.false ∙ first-here _ _ c.if-a-4.true)

pub returns-then-a-5 : goal.returns-then-a-5
unfolding chain in_order
returns-then-a-5 c = sym (first-skip _ _ c.if-a.false ∙ first-skip _ _ c.if-a-2.false ∙ first-skip _ _ c.if-a-3.false ∙ first-skip _ _ c.if-a-4.false ∙ first-here _ _ c.if-a-5.true)

pub returns-then-a-6 : goal.returns-then-a-6
unfolding chain in_order
returns-then-a-6 c = sym (first-skip _ _ c.if-a.false ∙ first-skip _ _ c.if-a-2.false ∙ first-skip _ _ c.if-a-3.false ∙ first-skip _ _ c.if-a-4.false ∙ first-skip _ _ c.if-a-5.false ∙ first-here _ _ c.if-a-6.true)

pub returns-then-a-7 : goal.returns-then-a-7
unfolding chain in_order
returns-then-a-7 c =
    sym
    (first-skip _ _ c.if-a.false ∙ first-skip _ _ c.if-a-2.false ∙ first-skip _ _ c.if-a-3.false ∙ first-skip _ _ c.if-a-4.false ∙ first-skip _ _ c.if-a-5.false ∙ first-skip _ _ c.if-a-6.false ∙ first-here _ _ c.if-a-7.true)

pub returns : goal.returns
unfolding chain in_order
returns c =
    sym
    (first-skip _ _ c.if-a.false ∙ first-skip _ _ c.if-a-2.false ∙ first-skip _ _ c.if-a-3.false ∙ first-skip _ _ c.if-a-4.false ∙ first-skip _ _ c.if-a-5.false ∙ first-skip _ _ c.if-a-6.false ∙ first-skip _ _ c.if-a-7.false ∙ first-end)
