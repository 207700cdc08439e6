-- `job_io::read_bodies` meets its contract: by where the input ends. Assumes nothing.
use Rattle.job_io.proofs.Reading.{all-came, follows-part, follows-all}
use mathlib.Core.Path.{◌∙◌, refl, sym}
use native.Mathlib.Omega.{arith}
use Rattle.job_io.proofs.read_bodies.Goals as goal

pub returns-then-heard : goal.returns-then-heard
returns-then-heard g c =
    let rows = c.read-rows in
    let goes_on = c.if-rows.false in
    let all = all-came _ _ goes_on rows.ensures.came.0 rows.ensures.came.1 ∙ sym rows.auto.bytes in
    follows-part _ (g.R.Read.remaining rows.new.from) rows.new.bytes (g.R.Read.remaining c.hear-heard.new.from) all rows.ensures.taken c.hear-heard.ensures c.if-heard.true refl

pub returns : goal.returns
returns g c =
    let rows = c.read-rows in
    let goes_on = c.if-rows.false in
    let all = all-came _ _ goes_on rows.ensures.came.0 rows.ensures.came.1 ∙ sym rows.auto.bytes in
    let more = c.read-last in
    follows-all _ (g.R.Read.remaining rows.new.from) rows.new.bytes (g.R.Read.remaining c.hear-heard.new.from) all rows.ensures.taken c.hear-heard.ensures (g.R.Read.remaining more.new.from) more.new.bytes c.if-heard.false (omega (arith, more.ensures.came.0, more.auto.bytes)) more.auto.bytes
    more.ensures.came.1 refl more.ensures.taken
