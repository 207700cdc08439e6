-- `js::js_max` meets its contract: each return is a case of `proofs/Choice.antt`. Assumes nothing.
use mathlib.Core.Path.{sym, subst}
use lib.Dec.{T}
use lib.Ieee.{Float, binary64, fits}
use Rattle.std.proofs.Common.{◌≡◌, true}
use Rattle.js.proofs.Choice.{eq-numbers, max-plus, max-minus, max-nan, max-lt, max-other}
use Rattle.js.proofs.js_max.Goals as goal

held : (x : Float) → fits binary64 x ≡ true → T (fits binary64 x)
held x e = subst T (sym e) tt

pub float_to_bits-a : goal.float_to_bits-a
float_to_bits-a c = (eq-numbers _ _ c.if-a-b.true).0

pub returns-then-a-lt-SIGN : goal.returns-then-a-lt-SIGN
returns-then-a-lt-SIGN c = max-plus _ _ (held _ c.well_formed.0.1) (held _ c.well_formed.1.0.1) c.if-a-b.true c.if-a-lt-SIGN.true

pub returns-then-a-b : goal.returns-then-a-b
returns-then-a-b c = max-minus _ _ (held _ c.well_formed.0.1) (held _ c.well_formed.1.0.1) c.if-a-b.true c.if-a-lt-SIGN.false

pub returns-then-b : goal.returns-then-b
returns-then-b c = max-nan _ _ c.if-b.true

pub returns-then-a-b-2 : goal.returns-then-a-b-2
returns-then-a-b-2 c = max-lt _ _ c.if-a-b-2.true

pub returns : goal.returns
returns c = max-other _ _ c.if-a-b.false c.if-b.false c.if-a-b-2.false
