-- `c_api::qiluvrait_peak` meets its contract: what `peak::peak` answers. Assumes nothing.
use mathlib.Core.Path.{ap, ◌∙◌}
use Rattle.c_api.specs.Answers.{level_of}
use Rattle.c_api.proofs.qiluvrait_peak.Goals as goal

pub returns : goal.returns
returns c = c.from.ensures ∙ ap level_of c.peak.ensures
