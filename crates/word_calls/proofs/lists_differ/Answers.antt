-- `word_calls::lists_differ` meets its contract. Assumes nothing.
use Rattle.std.proofs.Common.{ℕ, ◌∙◌, rules, tests}
use Rattle.std.proofs.lemmas.Iterator.{YieldsList-from_slice}
use Rattle.std.proofs.lemmas.Iterator.Search.{any_from_yields_List}
use Rattle.limits.specs.Limits.{differ}
use Rattle.limits.proofs.Any.{any-is}
use Rattle.word_calls.proofs.lists_differ.Goals as goal

pub returns : goal.returns
returns c = any_from_yields_List (λ (n : ℕ). differ n c.args.starts) _ _ c.any.result c.any.ensures.ran (YieldsList-from_slice c.args.others.now cc) (λ x b q k. search (rules, tests)) ∙ any-is (λ (n : ℕ). differ n c.args.starts) c.args.others.now
