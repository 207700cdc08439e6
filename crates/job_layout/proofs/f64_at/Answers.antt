-- `job_layout::f64_at` meets its contract: the double of the lent eight bytes. Assumes nothing.
use Rattle.std.proofs.Common.{ap, ◌∙◌}
use Rattle.std.proofs.lemmas.Result.{MatchResult-at_ok}
use Rattle.std.specs.Float.{binary64}
use Rattle.std.specs.Float.Ieee.{of_bits}
use Rattle.job_layout.specs.Layout.{f64_at}
use Rattle.job_layout.proofs.Bytes.{whole-is}
use Rattle.job_layout.proofs.f64_at.Goals as goal

pub returns : goal.returns
unfolding f64_at
returns c =
    let same = (MatchResult-at_ok _ _ _ c.unwrap.ensures c.try_into.ensures.1).same in
    c.f64_from_bits_with_nan.ensures ∙ ap (of_bits binary64) (c.from_le_bytes.ensures ∙ whole-is 7 c.args.bytes.now _ c.args.at c.requires same)
