-- `peak::loudest` meets its contract: what is left of the turns, from where the loop stands, gives the whole. Assumes nothing.
use Rattle.std.proofs.Common.{sym, ap, ◌∙◌}
use Rattle.base.specs.Loop.{on}
use Rattle.base.proofs.Loops.{run-next, run-done, range-pos}
use Rattle.js.specs.Js.{js_max}
use Rattle.peak.specs.Peak.{magnitude}
use Rattle.peak.proofs.Unsigned.{unsigned}
use Rattle.peak.proofs.loudest.Goals as goal

pub loop-i-init : goal.loop-i-init
loop-i-init c = range-pos _ _ _ _

pub loop-i-preserved : goal.loop-i-preserved
loop-i-preserved c =
    c.loop-i.invariant
    ∙ run-next _ _ _ c.loop-i-test.true (ap on (sym (c.js_max-peak.ensures ∙ ap (js_max _) (c.abs.ensures.value ∙ unsigned _ ∙ ap magnitude c.f32_to_f64_with_nan-s.ensures))))

pub returns : goal.returns
returns c = sym (c.loop-i.invariant ∙ run-done _ _ _ _ c.loop-i-test.false)
