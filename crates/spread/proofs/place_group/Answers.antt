-- `spread::place_group` meets its contract. Assumes nothing.
use borrow.Author.Rules.{rules}
use mathlib.Core.Path.{◌∙◌}
use Rattle.base.proofs.Cleared.{edges-alike}
use Rattle.spread.proofs.Groups.{group-around, group-stray}
use Rattle.spread.proofs.place_group.Goals as goal

pub returns-in-Some : goal.returns-in-Some
returns-in-Some c =
    edges-alike (search rules) (search rules) ∙ c.place_around.ensures.placed ∙ group-around _ _ _ _ c.in-Some.ensures.0 c.in-Some.ensures.1

pub returns-in-None : goal.returns-in-None
returns-in-None c = c.spread.ensures ∙ group-stray _ _ _ _ c.in-None.ensures.0
