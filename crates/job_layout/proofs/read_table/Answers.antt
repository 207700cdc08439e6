-- `job_layout::read_table` meets its contract: by what the two tests find. Assumes nothing.
use Rattle.std.proofs.Common.{arith}
use Rattle.std.proofs.lemmas.Grind.{common_steps}
use Rattle.job_layout.specs.Layout.{too_many, gapless, contents}
use Rattle.job_layout.specs.Parts.{plan_of}
use Rattle.job_layout.proofs.read_table.Goals as goal

pub returns-then-too_many-clause-plan : goal.returns-then-too_many-clause-plan
unfolding plan_of too_many contents
returns-then-too_many-clause-plan c = grind (arith, common_steps)

pub returns-then-not-gapless-clause-plan : goal.returns-then-not-gapless-clause-plan
unfolding plan_of too_many gapless contents
returns-then-not-gapless-clause-plan c = grind (arith, common_steps)

pub returns-clause-plan : goal.returns-clause-plan
unfolding plan_of too_many gapless contents
returns-clause-plan c = grind (arith, common_steps)
