-- `js::positive_fixed` meets its contract: each return is a case of `proofs/Patterns.antt`, at the bits of x. Assumes nothing.
use mathlib.Core.Path.{◌≡◌, refl, sym, ap, ◌∙◌, subst}
use mathlib.Core.Bool.{true, false}
use Prim.Native.Nat.{ℕ, ◌^◌, ◌<◌}
use lib.IntN.{pos}
use lib.Dec.{T, le→leb}
use lib.Ieee.{Float, fin, binary64, fits, of_bits, to_bits, of_int, in_float, lt, div, round}
use lib.Ieee.Bits.{of_bits-to_bits}
use Rattle.js.specs.Js.{js_to_fixed}
use Rattle.js.proofs.Patterns.{above-nan, above-bits, pattern-none, pattern-mid, pattern-large, thousandth}
use Rattle.js.proofs.positive_fixed.Goals as goal

held : (x : Float) → fits binary64 x ≡ true → T (fits binary64 x)
held x e = subst T (sym e) tt

back : (x : Float) → fits binary64 x ≡ true → of_bits binary64 (to_bits binary64 x) ≡ x
back x e = of_bits-to_bits binary64 x (held x e)

-- the constants of the code
zero_bits : of_bits binary64 0 ≡ fin false 0 (pos 0)
unfolding of_bits
zero_bits = refl

thousand-bits : of_bits binary64 0x408f_4000_0000_0000 ≡ fin false 125 (pos 3)
unfolding of_bits
thousand-bits = refl

above : (x : Float) → lt (of_bits binary64 0) x ≡ true → lt (fin false 0 (pos 0)) x ≡ true
above x h = ap (λ (z : Float). lt z x) (sym zero_bits) ∙ h

positive : (x : Float) → fits binary64 x ≡ true → lt (of_bits binary64 0) x ≡ true → to_bits binary64 x < 2 ^ 63
positive x e h = above-bits x (held x e) (above x h)

pub float_to_bits-b : goal.float_to_bits-b
float_to_bits-b c = above-nan c.args.x (above _ c.requires)

pub returns-then-b-lt4557642822898941952 : goal.returns-then-b-lt4557642822898941952
returns-then-b-lt4557642822898941952 c = zero_bits ∙ sym (pattern-none _ c.if-b-lt4557642822898941952.true) ∙ ap js_to_fixed (back _ c.well_formed.0.1)

pub int_to_float-result : goal.int_to_float-result
unfolding in_float
int_to_float-result c = le→leb _ _ c.thousandths-n.ensures.1

pub returns-then-b-lt4800837202776948736 : goal.returns-then-b-lt4800837202776948736
returns-then-b-lt4800837202776948736 c =
    let n = c.thousandths-n in
    ap (div binary64 (of_int binary64 (pos n.result))) thousand-bits
    ∙ thousandth n.result n.ensures.1
    ∙ ap (λ (k : ℕ). round binary64 false k 1000) n.ensures.0
    ∙ sym (pattern-mid (to_bits binary64 c.args.x) _ c.if-b-lt4557642822898941952.false c.if-b-lt4800837202776948736.true refl)
    ∙ ap js_to_fixed (back c.args.x c.well_formed.0.1)

pub returns : goal.returns
returns c =
    sym (back c.args.x c.well_formed.0.1) ∙ pattern-large (to_bits binary64 c.args.x) c.if-b-lt4800837202776948736.false (positive c.args.x c.well_formed.0.1 c.requires) ∙ ap js_to_fixed (back c.args.x c.well_formed.0.1)
