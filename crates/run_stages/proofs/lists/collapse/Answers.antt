-- `run_stages::lists::collapse` meets its contract: the lists as one value, and back. Assumes nothing.
use borrow.Author.Rules.{rules}
use mathlib.Core.Path.{sym, subst}
use Rattle.base.specs.Words.{Words, words}
use Rattle.base.proofs.Cleared.{words-alike}
use Rattle.loops.specs.Parts.{Collapsing}
use Rattle.run_stages.proofs.lists.collapse.Goals as goal

pub returns : goal.returns
returns c =
    subst (λ (after : Words). Collapsing c.collapse.result (words c.args.starts.now c.args.ends.now c.args.letters.now c.args.units.now c.args.keys.now) after)
    (sym (words-alike (search rules) (search rules) (search rules) (search rules) (search rules))) c.collapse.ensures.collapsed
