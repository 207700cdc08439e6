-- `roots::sqrt` meets its contract: each return is a case of proofs/Cases.antt, at the bits of x. Assumes nothing.
use mathlib.Core.Bool.{true}
use mathlib.Core.Path.{◌≡◌, sym, ◌∙◌, subst}
use lib.Dec.{T}
use lib.Ieee.{Float, binary64, fits, of_bits, to_bits}
use lib.Ieee.Bits.{of_bits-to_bits, to_bits-lt}
use Rattle.roots.specs.Sqrt.{sqrt}
use Rattle.roots.proofs.Cases.{at-nan, made-nan, plus-zero, minus-zero, below-zero, infinite, finite-bits}
use Rattle.roots.proofs.sqrt.Goals as goal

held : (x : Float) → fits binary64 x ≡ true → T (fits binary64 x)
held x e = subst T (sym e) tt

back : (x : Float) → fits binary64 x ≡ true → of_bits binary64 (to_bits binary64 x) ≡ x
back x e = of_bits-to_bits binary64 x (held x e)

-- a result that is the argument, and a result that is not
itself : (x : Float) → fits binary64 x ≡ true → of_bits binary64 (to_bits binary64 x) ≡ sqrt binary64 (of_bits binary64 (to_bits binary64 x)) → x ≡ sqrt binary64 x
itself x h e = subst (λ (v : Float). v ≡ sqrt binary64 v) (back x h) e

other : (x : Float) → fits binary64 x ≡ true → (r : Float) → r ≡ sqrt binary64 (of_bits binary64 (to_bits binary64 x)) → r ≡ sqrt binary64 x
other x h r e = subst (λ (v : Float). r ≡ sqrt binary64 v) (back x h) e

pub returns-then-is_nan : goal.returns-then-is_nan
returns-then-is_nan c = at-nan binary64 c.args.x (sym c.is_nan.ensures.value ∙ c.if-is_nan.true)

pub returns-then-b-eq0 : goal.returns-then-b-eq0
returns-then-b-eq0 c = itself c.args.x c.well_formed.0.1 (plus-zero _ c.if-b-eq0.true)

pub returns-then-b : goal.returns-then-b
returns-then-b c = itself c.args.x c.well_formed.0.1 (minus-zero _ c.if-b.true)

pub returns-then-b-gt-SIGN : goal.returns-then-b-gt-SIGN
returns-then-b-gt-SIGN c =
    other c.args.x c.well_formed.0.1 _ (made-nan ∙ sym (below-zero (to_bits binary64 c.args.x) c.if-b-gt-SIGN.true (to_bits-lt binary64 c.args.x (held c.args.x c.well_formed.0.1))))

pub returns-then-b-ge-INFINITY : goal.returns-then-b-ge-INFINITY
returns-then-b-ge-INFINITY c = itself c.args.x c.well_formed.0.1 (infinite _ c.if-b-gt-SIGN.false c.if-b.false c.if-b-ge-INFINITY.true)

pub float_from_bits-result : goal.float_from_bits-result
float_from_bits-result c = finite-bits c.root_of.result c.root_of.ensures.finite

pub returns : goal.returns
returns c = other c.args.x c.well_formed.0.1 _ c.root_of.ensures.value
