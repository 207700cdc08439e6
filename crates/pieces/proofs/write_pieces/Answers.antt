-- The writing pass. Invariant: writing the pieces left from `from` on at place n gives both lists as they are at the end, and there is room for
-- them. The measure is the frames left. Assumes nothing.
use Prim.Native.Nat.{ℕ, ◌*◌}
use mathlib.Core.Path.{refl, ap}
use native.Mathlib.Omega.{arith}
use Rattle.pieces.specs.Parts.{starts_over, ends_over}
use Rattle.pieces.proofs.Passes.{quiet-length, fits-starts, fits-ends, writing-starts, writing-room, writing-next, writing-last, writing-done}
use Rattle.pieces.proofs.write_pieces.Goals as goal

pub loop-from-init : goal.loop-from-init
loop-from-init c = (
  quiet-length _ _,
  (
    omega arith,
    (
      omega arith,
      (writing-starts _ _ _ _ (fits-starts _ _ c.requires), writing-starts _ _ _ _ (fits-ends _ _ c.requires)),
    ),
  ),
)

pub bounds-starts-n : goal.bounds-starts-n
bounds-starts-n c = omega (arith, writing-room c.loop-from.invariant.1.1.1.0 (omega arith))

pub bounds-ends-n : goal.bounds-ends-n
bounds-ends-n c = omega (arith, writing-room c.loop-from.invariant.1.1.1.1 (omega arith))

pub returns-then-e-from-le-MAX_FRAMES : goal.returns-then-e-from-le-MAX_FRAMES
unfolding starts_over ends_over
returns-then-e-from-le-MAX_FRAMES c = (
  writing-last c.loop-from.invariant.1.1.1.0 (omega arith) (omega arith) refl,
  writing-last c.loop-from.invariant.1.1.1.1 (omega arith) (omega arith) refl,
)

pub bounds-starts-n-in-loop-from : goal.bounds-starts-n-in-loop-from
bounds-starts-n-in-loop-from c = omega (arith, writing-room c.loop-from.invariant.1.1.1.0 (omega arith))

pub bounds-ends-n-in-loop-from : goal.bounds-ends-n-in-loop-from
bounds-ends-n-in-loop-from c = omega (arith, writing-room c.loop-from.invariant.1.1.1.1 (omega arith))

pub loop-from-preserved : goal.loop-from-preserved
loop-from-preserved c = (
  c.loop-from.invariant.0,
  (
    omega arith,
    (
      omega arith,
      (
        writing-next c.loop-from.invariant.1.1.1.0 (omega arith) c.find_cut-cut.ensures.0 refl,
        writing-next c.loop-from.invariant.1.1.1.1 (omega arith) c.find_cut-cut.ensures.0 (ap (λ (n : ℕ). n * 160) c.find_cut-cut.ensures.0),
      ),
    ),
  ),
)

pub returns : goal.returns
unfolding starts_over ends_over
returns c = (writing-done c.loop-from.invariant.1.1.1.0 (omega arith), writing-done c.loop-from.invariant.1.1.1.1 (omega arith))
