-- `js::js_min` meets its contract: it is the mirror of the maximum (`proofs/Mirror.antt`). Assumes nothing.
use mathlib.Core.Path.{ap, ◌∙◌}
use lib.Ieee.{neg}
use Rattle.js.proofs.Mirror.{min-mirror}
use Rattle.js.proofs.js_min.Goals as goal

pub returns : goal.returns
returns c = ap neg c.js_max.ensures ∙ min-mirror _ _
