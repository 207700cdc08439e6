-- `job_io::hear` meets its contract: after each stretch the first places hold the levels of all samples so far, and the buffer the bytes of the last. Assumes nothing.
use Rattle.job_io.proofs.Hearing.{hearing-none, hearing-next, hearing-part, hearing-all}
use Rattle.job.proofs.Places.{front_long}
use lib.Dec.{ltb}
use mathlib.Core.Path.{◌∙◌, refl, ap}
use Prim.Native.Nat.{◌*◌}
use native.Mathlib.Omega.{arith}
use Rattle.job_io.proofs.hear.Goals as goal

pub loop-done-init : goal.loop-done-init
loop-done-init g c = (omega arith, hearing-none _ _ _ _)

pub returns-then-got : goal.returns-then-got
returns-then-got g c =
    let loop = c.loop-done in
    let pre = c.requires in
    let n = c.min-n.result in
    let bytes_fit = front_long loop.bytes (4 * n) (omega (arith, c.min-n.ensures, pre.1.1.0, loop.auto.bytes)) in
    let step = c.hear_stretch-got in
    let got = step.result.bytes in
    hearing-part _ _ _ (g.R.Read.remaining step.new.from) loop.invariant.1 c.loop-done-test.true c.min-n.ensures refl pre.1.0 got step.new.bytes _ _ (step.auto.bytes ∙ bytes_fit) c.if-got.true
    (step.ensures.heard.1.1 ∙ ap (ltb got) bytes_fit) refl step.ensures.taken

pub loop-done-preserved : goal.loop-done-preserved
loop-done-preserved g c =
    let loop = c.loop-done in
    let pre = c.requires in
    let n = c.min-n.result in
    let bytes_fit = front_long loop.bytes (4 * n) (omega (arith, c.min-n.ensures, pre.1.1.0, loop.auto.bytes)) in
    let samples-fit = front_long loop.samples n (omega (arith, c.min-n.ensures, pre.1.1.1, loop.auto.samples)) in
    let step = c.hear_stretch-got in
    let got = step.result.bytes in (
      omega (arith, c.min-n.ensures, loop.invariant.0),
      hearing-next _ _ _ (g.R.Read.remaining step.new.from) loop.invariant.1 c.loop-done-test.true c.min-n.ensures refl pre.1.0 step.new.bytes samples-fit (step.auto.bytes ∙ bytes_fit) c.if-got.false
          (omega (arith, step.ensures.heard.1.0, bytes_fit)) (step.ensures.heard.1.1 ∙ ap (ltb got) bytes_fit) step.ensures.heard.0 refl refl step.ensures.taken,
    )

pub returns : goal.returns
returns g c = hearing-all _ _ _ c.loop-done.invariant.1 c.loop-done.invariant.0 c.loop-done-test.false c.requires.1.0
