-- `limits::when` meets its contract, refusal by refusal. Assumes nothing.
use Rattle.limits.specs.Order.{when}
use Rattle.limits.proofs.when.Goals as goal

pub returns-in-Lengths : goal.returns-in-Lengths
unfolding when
returns-in-Lengths c = rw c.in-Lengths.is

pub returns-in-Counts : goal.returns-in-Counts
unfolding when
returns-in-Counts c = rw c.in-Counts.is

pub returns-in-Time : goal.returns-in-Time
unfolding when
returns-in-Time c = rw c.in-Time.is

pub returns-in-Letters : goal.returns-in-Letters
unfolding when
returns-in-Letters c = rw c.in-Letters.is

pub returns-in-Levels : goal.returns-in-Levels
unfolding when
returns-in-Levels c = rw c.in-Levels.is

pub returns-in-Places : goal.returns-in-Places
unfolding when
returns-in-Places c = rw c.in-Places.is

pub returns-in-Cut : goal.returns-in-Cut
unfolding when
returns-in-Cut c = rw c.in-Cut.is

pub returns-in-Layout : goal.returns-in-Layout
unfolding when
returns-in-Layout c = rw c.in-Layout.is
