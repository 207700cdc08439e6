-- Four sums side by side. Invariant: what is left of each, from where the loop stands, gives the whole. Assumes nothing.
use Rattle.std.proofs.Common.{arith}
use Rattle.envelope.proofs.Fours.{left-starts, left-next, left-done}
use Rattle.envelope.proofs.level.squares_side_by_side.Goals as goal

pub loop-i-init : goal.loop-i-init
loop-i-init c = (left-starts _ _, (left-starts _ _, (left-starts _ _, left-starts _ _)))

pub loop-i-preserved : goal.loop-i-preserved
loop-i-preserved c =
    let h = c.loop-i.invariant in
    let l = c.args.part.whole in (
      left-next _ l 0 _ _ (omega arith) (omega arith) (omega arith) h.0,
      (
        left-next _ l 1 _ _ (omega arith) (omega arith) (omega arith) h.1.0,
        (
          left-next _ l 2 _ _ (omega arith) (omega arith) (omega arith) h.1.1.0,
          left-next _ l 3 _ _ (omega arith) (omega arith) (omega arith) h.1.1.1,
        ),
      ),
    )

pub returns : goal.returns
returns c =
    let h = c.loop-i.invariant in
    let l = c.args.part.whole in
    record {
      first = left-done _ l 0 _ (omega arith) (omega arith) h.0;
      second = left-done _ l 1 _ (omega arith) (omega arith) h.1.0;
      third = left-done _ l 2 _ (omega arith) (omega arith) h.1.1.0;
      fourth = left-done _ l 3 _ (omega arith) (omega arith) h.1.1.1;
    }
