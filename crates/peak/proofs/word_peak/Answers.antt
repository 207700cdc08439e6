-- `peak::word_peak` meets its contract, by where the range begins. Assumes nothing.
use Rattle.std.proofs.Common.{min, ap, ◌∙◌}
use lib.Ieee.{of_bits, div}
use Rattle.base.specs.Whole.{to_nat}
use Rattle.frames.proofs.Signed.{read_back, test_back, index_is}
use Rattle.peak.proofs.Ends.{less-back}
use Rattle.peak.proofs.Ranges.{peak-before, peak-none, peak-from}
use Rattle.peak.proofs.word_peak.Goals as goal

pub returns-then-from-to : goal.returns-then-from-to
unfolding of_bits div
returns-then-from-to c =
    let a = c.floor_i64-from in
    let b = c.ceil_i64-to in
    peak-before _ _ _ a.ensures b.ensures (test_back a.result a.type_inv c.if-from-lt0.true) (less-back a.result b.result a.type_inv b.type_inv c.if-from-to.true)

pub returns-then-from-lt0 : goal.returns-then-from-lt0
returns-then-from-lt0 c =
    let a = c.floor_i64-from in
    let b = c.ceil_i64-to in
    peak-none _ _ _ a.ensures b.ensures (test_back a.result a.type_inv c.if-from-lt0.true) (less-back a.result b.result a.type_inv b.type_inv c.if-from-to.false)

pub returns : goal.returns
returns c =
    let a = c.floor_i64-from in
    let b = c.ceil_i64-to in
    let t = c.if-from-lt0.false in
    peak-from _ _ _ a.ensures b.ensures (test_back a.result a.type_inv t) (index_is a.result a.type_inv t)
    (c.end_index.ensures ∙ ap (min _) (ap to_nat (read_back b.result b.type_inv)))
    c.loudest.ensures
