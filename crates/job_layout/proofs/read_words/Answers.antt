-- `job_layout::read_words` meets its contract: the places of each list hold a table. Assumes nothing.
use Rattle.std.proofs.Common.{arith}
use Rattle.std.specs.Float.{nan}
use Rattle.base.proofs.Cleared.{words-alike}
use Rattle.job_layout.proofs.Filling.{tabled}
use Rattle.job_layout.specs.Layout.{words_from, column}
use Rattle.job_layout.proofs.read_words.Goals as goal

pub returns : goal.returns
unfolding words_from column
returns c =
    let h = c.loop-i.invariant in
    words-alike
    (tabled _ nan c.loop-i.starts h.0 (omega arith) (omega arith))
    (tabled _ nan c.loop-i.ends h.1.0 (omega arith) (omega arith))
    (tabled _ 0 c.loop-i.letters h.1.1.0 (omega arith) (omega arith))
    (tabled _ 0 c.loop-i.units h.1.1.1.0 (omega arith) (omega arith))
    (tabled _ 0 c.loop-i.keys h.1.1.1.1 (omega arith) (omega arith))
