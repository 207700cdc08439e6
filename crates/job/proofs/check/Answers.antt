-- `job::check` meets its contract: by how many bytes came, and by what the table says. Assumes nothing.
use Rattle.std.proofs.Common.{sym}
use Rattle.std.proofs.lemmas.Result.{err_from_is_err_and}
use Rattle.job.proofs.Files.{came-short, came-breaks, came-other}
use Rattle.job.proofs.check.Goals as goal

pub returns-then-came-lt-TABLE-clause-refused : goal.returns-then-came-lt-TABLE-clause-refused
returns-then-came-lt-TABLE-clause-refused c = λ bodies file levels h. came-short _ _ _ _ file h c.if-came-lt-TABLE.true

pub returns-in_err-numbers-clause-refused : goal.returns-in_err-numbers-clause-refused
returns-in_err-numbers-clause-refused c =
    let p = err_from_is_err_and c.from_residual.result c.from_residual.ensures.1 in
    rw (p.1, p.2) (λ bodies file levels h. came-breaks _ _ _ _ file h c.requires c.if-came-lt-TABLE.false (sym c.in_err-numbers.ensures.plan))

pub returns-then-came-size-clause-refused : goal.returns-then-came-size-clause-refused
returns-then-came-size-clause-refused c =
    let numbers = c.in_ok-numbers.numbers in
    λ bodies file levels h. came-other _ _ _ _ file h c.requires c.if-came-lt-TABLE.false numbers.words numbers.spans numbers.samples (sym c.in_ok-numbers.ensures.plan) c.if-came-size.true
