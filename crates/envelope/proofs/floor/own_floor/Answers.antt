-- `envelope::floor::own_floor` meets its contract, by the bits of both. Assumes nothing.
use Rattle.std.proofs.Common.{T, sym, subst}
use Rattle.envelope.proofs.Floors.{own-by_bits}
use Rattle.envelope.proofs.floor.own_floor.Goals as goal

pub returns : goal.returns
returns c =
    rw (c.f64_to_bits_with_nan.ensures, c.f64_to_bits_with_nan-2.ensures, c.floor_of.ensures)
    (own-by_bits c.args.levels.now c.args.floor (subst T (sym c.well_formed.1.0.1) tt))
