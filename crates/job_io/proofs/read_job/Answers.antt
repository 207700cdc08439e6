-- `job_io::read_job` meets its contract: by what the table says that follows. Assumes nothing.
use Rattle.job_io.proofs.Reading.{all-came, received-short, received-breaks, received-bodies}
use Rattle.job.proofs.Places.{front_long}
use Prim.Native.Nat.{◌+◌, ◌*◌, ◌/◌}
use lib.Dec.{ltb}
use mathlib.Core.Path.{refl, sym, ap, ◌∙◌}
use native.Mathlib.Omega.{arith}
use Rattle.job_io.proofs.read_job.Goals as goal

pub returns-then-head-clause-received : goal.returns-then-head-clause-received
returns-then-head-clause-received g c =
    let table = c.read-head in
    let pre = c.args.b.now.room in
    received-short _ (g.R.Read.remaining table.new.from) table.new.bytes (table.auto.bytes ∙ pre.0) _ _ _ c.if-head.true (table.ensures.came.1 ∙ ap (ltb table.result.bytes) pre.0) table.ensures.taken

pub returns-in_default-clause-received : goal.returns-in_default-clause-received
returns-in_default-clause-received g c =
    let table = c.read-head in
    let pre = c.args.b.now.room in
    received-breaks _ (g.R.Read.remaining table.new.from) table.new.bytes (table.auto.bytes ∙ pre.0) _ _ _ c.read_table.ensures.plan c.in_default.is
    (omega (arith, table.ensures.came.0, pre.0)) (table.ensures.came.1 ∙ ap (ltb table.result.bytes) pre.0) table.ensures.taken

pub returns-clause-received : goal.returns-clause-received
returns-clause-received g c =
    let args = c.args in
    let pre = c.args.b.now.room in
    let numbers = c.in-Ok.numbers in
    let table = c.read-head in
    let rest = c.read_bodies-rest in
    let few = c.in-Ok.ensures.within in
    let b = front_long args.b.now.bodies.now (28 * numbers.words + 20 * numbers.spans) (omega (arith, few.0, few.1.0, pre.1.0)) in
    let l = front_long args.b.now.levels.now (numbers.samples / 160) (omega (arith, few.1.1, pre.1.1.1.1)) in
    let whole = all-came _ _ c.if-head.false table.ensures.came.0 table.ensures.came.1 in
    received-bodies _ (g.R.Read.remaining table.new.from) table.new.bytes (table.auto.bytes ∙ pre.0) args.b.now.bodies.now _ args.b.now.levels.now numbers (sym c.read_table.ensures.plan ∙ c.in-Ok.is)
    rest.new.bodies rest.new.levels (g.R.Read.remaining rest.new.from) rest.ensures (rest.auto.bodies ∙ b) (rest.auto.levels ∙ l)
    (whole ∙ pre.0) refl table.ensures.taken
