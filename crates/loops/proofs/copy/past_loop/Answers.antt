-- `loops::copy::past_loop` meets its contract, by what the test for a loop found. Assumes nothing.
use native.Mathlib.Omega.{arith}
use lib.Seq.{length-take-le}
use Rattle.loops.proofs.Held.{goes-behind, goes_on_lem}
use Rattle.loops.proofs.copy.past_loop.Goals as goal

pub returns-then-is_loop : goal.returns-then-is_loop
returns-then-is_loop c = (
  goes-behind _ _ _ _ (omega arith) (omega arith) c.is_loop.ensures c.if-is_loop.true c.copies_end.ensures.0,
  (c.copies_end.ensures.1.0, omega (arith, length-take-le c.args.len c.args.keys.now)),
)

pub returns-else-is_loop : goal.returns-else-is_loop
returns-else-is_loop c = (
  goes_on_lem _ _ _ _ (omega arith) (omega (arith, length-take-le c.args.len c.args.keys.now)) c.is_loop.ensures c.if-is_loop.false,
  (omega arith, omega arith),
)
