-- `job_layout::u32_at` meets its contract: the lent part is four bytes, the lowest first. Assumes nothing.
use Rattle.std.proofs.Common.{◌∙◌}
use Rattle.std.proofs.lemmas.Result.{MatchResult-at_ok}
use Rattle.job_layout.specs.Layout.{u32_at}
use Rattle.job_layout.proofs.Bytes.{whole-is}
use Rattle.job_layout.proofs.u32_at.Goals as goal

pub returns : goal.returns
unfolding u32_at
returns c =
    c.from_le_bytes.ensures
    ∙ whole-is 3 c.args.bytes.now _ c.args.at c.requires (MatchResult-at_ok _ _ _ c.unwrap.ensures c.try_into.ensures.1).same
