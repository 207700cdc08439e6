-- `run_stages::lists::move_tails` meets its contract: the lists as one value, and back. Assumes nothing.
use borrow.Author.Rules.{rules}
use mathlib.Core.Path.{◌∙◌}
use Rattle.base.proofs.Cleared.{edges-alike}
use Rattle.run_stages.proofs.lists.move_tails.Goals as goal

pub returns : goal.returns
returns c = edges-alike (search rules) (search rules) ∙ c.move_tails.ensures.handed
