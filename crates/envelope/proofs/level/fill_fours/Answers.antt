-- Four frames a turn. Invariant: what is left of the stores, from where the loop stands, gives the whole. Assumes nothing.
use Rattle.std.proofs.Common.{◌≡◌, List, ◌+◌, ◌*◌, ◌∙◌, ap, sym, length, rules, arith}
use lib.Ieee.{Float}
use Rattle.base.proofs.Loops.{each_after}
use Rattle.base.specs.Loop.{each}
use Rattle.envelope.specs.Parts.{stored}
use Rattle.envelope.proofs.level.fill_fours.Goals as goal

pub loop-i-preserved : goal.loop-i-preserved
loop-i-preserved c =
    let n : (c.loop-i.i + 1) * 4 ≡ c.loop-i.i * 4 + 4 = omega arith in
    (search rules, rw n (c.loop-i.invariant.1 ∙ each_after _ _ _ 4 _ (omega (arith, ap length c.loop-i.invariant.0.1)) (c.store_four.ensures.stored ∙ ap (λ (x : List Float). each (stored x) 4 (c.loop-i.i * 4) c.loop-i.s.levels.now) (sym c.loop-i.invariant.0.1))))

pub store_four-requires : goal.store_four-requires
store_four-requires c = omega (arith, ap length c.loop-i.invariant.0.1)
