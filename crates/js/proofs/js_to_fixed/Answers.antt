-- `js::js_to_fixed` meets its contract: a negative number is the mirror of its size; what is neither negative nor positive is NaN or a zero.
-- Assumes nothing.
use mathlib.Core.Path.{ap, ◌∙◌}
use lib.Ieee.{of_bits, neg}
use Rattle.js.proofs.ToFixed.{mirror-above, fixed-mirror, fixed-neither}
use Rattle.js.proofs.js_to_fixed.Goals as goal

pub positive_fixed-requires : goal.positive_fixed-requires
unfolding of_bits
positive_fixed-requires c = mirror-above _ c.if-x.true

pub returns-then-x : goal.returns-then-x
unfolding of_bits
returns-then-x c = ap neg c.positive_fixed.ensures ∙ fixed-mirror _ c.if-x.true

pub returns : goal.returns
unfolding of_bits
returns c = fixed-neither _ c.if-x.false c.if-x-2.false
