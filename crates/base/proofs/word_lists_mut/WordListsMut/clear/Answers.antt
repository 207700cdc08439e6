-- `WordListsMut::clear` meets its contract: each list's places from `count` on are filled with zero. Assumes nothing.
use mathlib.Core.Path.{ap, ◌∙◌}
use Rattle.base.specs.Words.{count}
use Rattle.base.proofs.Cleared.{all_filled, places-kept}
use Rattle.base.proofs.word_lists_mut.WordListsMut.clear.Goals as goal

pub returns-clause-cleared : goal.returns-clause-cleared
returns-clause-cleared c =
    all_filled _ _ _ c.args.self.now.alike c.requires (c.fill.ensures.after (λ _ e. e)) (c.fill-2.ensures.after (λ _ e. e)) (c.fill-3.ensures.after (λ _ e. e))
    (c.fill-4.ensures.after (λ _ e. e)) (c.fill-5.ensures.after (λ _ e. e))

pub returns-clause-as_many : goal.returns-clause-as_many
returns-clause-as_many c = ap count (returns-clause-cleared c) ∙ places-kept _ _ _ c.requires c.requires
