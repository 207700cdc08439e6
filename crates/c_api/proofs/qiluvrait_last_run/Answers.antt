-- `c_api::qiluvrait_last_run` meets its contract: what the search answers. Assumes nothing.
use mathlib.Core.Path.{ap, ◌∙◌}
use Rattle.c_api.specs.Answers.{searched_of}
use Rattle.c_api.proofs.qiluvrait_last_run.Goals as goal

pub returns : goal.returns
returns c = c.from.ensures ∙ ap searched_of c.last_run.ensures
