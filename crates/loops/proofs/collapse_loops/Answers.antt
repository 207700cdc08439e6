-- The public call meets its contract, by what its checks found. Assumes nothing.
use mathlib.Core.Path.{refl, sym, ap, ◌∙◌}
use borrow.Author.Rules.{rules}
use Rattle.std.specs.Prelude.{Ok}
use Rattle.base.proofs.Cleared.{words-alike}
use Rattle.base.proofs.First.{refused}
use Rattle.limits.specs.Order.{chain}
use Rattle.loops.specs.Loops.{output}
use Rattle.loops.proofs.Rules.{fine-even, refused-made, call-made}
use Rattle.loops.proofs.collapse_loops.Goals as goal

pub invariant_of-w : goal.invariant_of-w
invariant_of-w c = record { alike = fine-even _ (sym (c.in_ok-chain.ensures ∙ ap chain c.of_words.ensures)) }

pub returns-in_err-chain : goal.returns-in_err-chain
returns-in_err-chain c = rw (refused _ c.from_residual.ensures.1) (refused-made _ _ (c.in_err-chain.ensures ∙ ap chain c.of_words.ensures) refl)

pub returns : goal.returns
returns c =
    ap (output (Ok _)) (words-alike (search rules) (search rules) (search rules) (search rules) (search rules))
    ∙ call-made _ (c.in_ok-chain.ensures ∙ ap chain c.of_words.ensures) refl c.collapse.ensures.collapsed
