-- `run_stages::lists::fit_words` meets its contract: the lists as one value, and back. Assumes nothing.
use borrow.Author.Rules.{rules}
use mathlib.Core.Path.{◌∙◌}
use Rattle.base.proofs.Cleared.{edges-alike}
use Rattle.run_stages.proofs.lists.fit_words.Goals as goal

pub returns : goal.returns
returns c = edges-alike (search rules) (search rules) ∙ c.fit_words.ensures.fitted
