-- `loops::collapse` meets its contract: the passes, and the places behind what they leave. Assumes nothing.
use mathlib.Core.Path.{◌∙◌}
use native.Mathlib.Omega.{arith}
use Rattle.loops.proofs.Rules.{collapsing}
use Rattle.loops.proofs.collapse.Goals as goal

pub returns-clause-as_many : goal.returns-clause-as_many
returns-clause-as_many c = c.clear.ensures.as_many ∙ c.passes-len.ensures.as_many

pub returns-clause-collapsed : goal.returns-clause-collapsed
returns-clause-collapsed c =
    collapsing _ _ _ _ _ c.passes-len.ensures.passed c.clear.ensures.cleared (omega arith) c.passes-len.ensures.as_many
    (c.clear.ensures.as_many ∙ c.passes-len.ensures.as_many)
