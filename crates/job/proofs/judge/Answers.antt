-- `job::judge` meets its contract: by what `check` finds. Assumes nothing.
use Rattle.std.proofs.Common.{rules, refl, sym, ◌∙◌, arith}
use Rattle.job.proofs.Files.{came-all, refused-text}
use Rattle.job.proofs.judge.Goals as goal

pub returns-in-Err : goal.returns-in-Err
returns-in-Err c =
    let w = refused-text c.in-Err.why c.requires.1.1.1 c.from.ensures refl (search rules) c.put_refused.ensures in
    (λ file h. w.0 ∙ sym (c.in-Err.ensures.refused _ file _ h), w.1)

pub returns-in-Ok : goal.returns-in-Ok
returns-in-Ok c =
    let held = c.in-Ok.ensures.held in
    let numbers = c.in-Ok.numbers in (
      λ file h. c.settle.ensures.0 file
          (came-all _ _ _ _ file h c.requires.0 held.table-came numbers.words numbers.spans numbers.samples held.holds held.came-all
          (omega (arith, c.requires.1.0, held.words-few, held.spans-few))),
      c.settle.ensures.1,
    )
