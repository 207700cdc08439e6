-- `run_stages::lists::move_ends` meets its contract: the lists as one value, and back. Assumes nothing.
use borrow.Author.Rules.{rules}
use mathlib.Core.Path.{◌∙◌}
use Rattle.base.proofs.Cleared.{edges-alike}
use Rattle.run_stages.proofs.lists.move_ends.Goals as goal

pub returns : goal.returns
returns c = edges-alike (search rules) (search rules) ∙ c.move_ends.ensures.snapped
