-- `has_bits` meets its contract: the bits are those of floats with one NaN, each of which has bits of its own. Assumes nothing.
use Rattle.std.proofs.Common.{◌≡◌, true, sym, ap, ◌∙◌, subst, T, eqb-true, eq-eqb, to_bits}
use Rattle.std.specs.Float.{binary64}
use Rattle.std.specs.Float.Ieee
use lib.Ieee.Bits.{of_bits-to_bits}
use Rattle.vector_rows.proofs.numbers.has_bits.Goals as goal

pub returns : goal.returns
returns c =
    let back = λ (v : Ieee.Float) (fits : Ieee.fits binary64 v ≡ true). of_bits-to_bits binary64 v (subst T (sym fits) tt) in
    let given = c.f64_from_bits_with_nan in
    rw (c.f64_to_bits_with_nan.ensures, c.f64_to_bits_with_nan-2.ensures) (
      λ same. sym (back c.args.x c.well_formed.0.1) ∙ ap (Ieee.of_bits binary64) (eqb-true _ _ same) ∙ back given.result given.type_inv ∙ given.ensures,
      λ same. eq-eqb _ _ (ap (to_bits binary64) (same ∙ sym given.ensures)),
    )
