-- `roots::root_of` meets its contract: each return is a case of proofs/Cases.antt. Assumes nothing.
use native.Mathlib.Omega.{arith}
use Rattle.roots.proofs.Cases.{subnormal, even-field, odd-field}
use Rattle.roots.proofs.root_of.Goals as goal

pub returns-then-e-eq0 : goal.returns-then-e-eq0
returns-then-e-eq0 c =
    subnormal c.args.b c.root_by_fours.result c.requires.1 c.requires.0 c.if-e-eq0.true c.root_by_fours.ensures

pub returns-then-e-eq0-2 : goal.returns-then-e-eq0-2
returns-then-e-eq0-2 c =
    even-field c.args.b c.root_by_fours-then-e-eq0-2.result c.requires.1 (omega arith) c.if-e-eq0-2.true c.root_by_fours-then-e-eq0-2.ensures

pub returns : goal.returns
returns c =
    odd-field c.args.b c.root_by_fours-2.result c.requires.1 c.if-e-eq0-2.false c.root_by_fours-2.ensures
