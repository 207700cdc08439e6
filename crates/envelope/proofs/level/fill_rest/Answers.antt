-- `envelope::level::fill_rest` meets its contract: what is left of the stores, from where the loop stands, gives the whole. Assumes nothing.
use Rattle.std.proofs.Common.{List, take, drop, ◌*◌, ◌+◌, ◌-◌, set, sym, ap, ◌∙◌, length, rules, arith}
use lib.Ieee.{Float}
use Rattle.base.proofs.Loops.{each_next, each-done}
use Rattle.envelope.specs.Envelope.{level}
use Rattle.envelope.proofs.Places.{part-frame}
use Rattle.envelope.proofs.level.fill_rest.Goals as goal

pub loop-k-preserved : goal.loop-k-preserved
loop-k-preserved c =
    (search rules, c.loop-k.invariant.1 ∙ each_next _ _ _ (omega (arith, ap length c.loop-k.invariant.0.1)) (ap (set c.loop-k.s.levels.now c.loop-k.k) (c.level.ensures ∙ ap level (ap (λ (x : List Float). take (c.loop-k.k * 160 + 160 - c.loop-k.k * 160) (drop (c.loop-k.k * 160) x)) (sym c.loop-k.invariant.0.1) ∙ part-frame _ _))))

pub returns-clause-stored : goal.returns-clause-stored
returns-clause-stored c = sym (c.loop-k.invariant.1 ∙ each-done _ _ _ _ (omega (arith, ap length c.loop-k.invariant.0.1)))
