-- `roots::refine` meets its contract. The loop keeps a `Search` whose bounds lie within those it was handed. Assumes nothing.
use mathlib.Core.Path.{sym}
use Prim.Native.Nat.{◌+◌, ◌-◌}
use native.Mathlib.Nat.{le_refl, sub-zero}
use native.Mathlib.Omega.{arith}
use Rattle.roots.proofs.Root.{near_up, near_down}
use Rattle.roots.proofs.Search.{even, digit-zero, digit-one, ended}
use Rattle.roots.proofs.refine.Goals as goal
use Rattle.roots.proofs.refine.Goals.{then-t-r, else-t-r}

pub loop-init : goal.loop-init
loop-init c = rw sub-zero (c.requires.0, le_refl c.args.q0, le_refl (c.args.q0 + c.args.w0))

pub loop-preserved : goal.loop-preserved
loop-preserved c =
    let l = c.loop in
    let a = c.args.a in
    let n = c.args.j0 in
    let t = c.loop-test.true in
    let e = even a l.q l.r l.w n l.counter l.invariant.0 t in
    elim c.if-t-r.branch [
      | then-t-r w ↦ rw (w.q-is, w.r-is) (digit-one a l.q l.r l.w n l.counter l.invariant.0 t (omega arith), omega arith, omega arith)
      | else-t-r w ↦ rw (w.q-is, w.r-is) (digit-zero a l.q l.r l.w n l.counter l.invariant.0 t (omega arith), l.invariant.1, omega arith)
    ]

pub returns-then-q-r : goal.returns-then-q-r
returns-then-q-r c =
    let l = c.loop in
    let d = ended c.args.a l.q l.r l.w (c.args.j0 - l.counter) l.invariant.0 (omega arith) in
    record { value = sym (near_up _ l.q l.r d.0 d.1 (omega arith)); low = omega arith; high = omega arith }

pub returns-else-q-r : goal.returns-else-q-r
returns-else-q-r c =
    let l = c.loop in
    let d = ended c.args.a l.q l.r l.w (c.args.j0 - l.counter) l.invariant.0 (omega arith) in
    record { value = sym (near_down _ l.q l.r d.0 d.1 (omega arith)); low = l.invariant.1; high = omega arith }
