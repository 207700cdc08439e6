-- `fit_to_sound::word_starts::rise_of` meets its contract. Assumes nothing.
use native.Mathlib.Omega.{arith}
use mathlib.Core.Path.{sym, ◌∙◌}
use Rattle.fit_to_sound.proofs.Rise.{start-past, start-loud, start-quiet}
use Rattle.fit_to_sound.proofs.word_starts.rise_of.Goals as goal

pub returns-then-saturating_sub-f : goal.returns-then-saturating_sub-f
returns-then-saturating_sub-f c = start-past _ _ _ _ _ c.index_at-f.ensures (omega arith)

pub returns-then-loud : goal.returns-then-loud
returns-then-loud c = start-loud _ _ _ _ _ c.index_at-f.ensures (omega arith) (sym c.loud.ensures ∙ c.if-loud.true)

pub returns : goal.returns
returns c = start-quiet _ _ _ _ _ c.index_at-f.ensures (omega arith) (sym c.loud.ensures ∙ c.if-loud.false) c.rise_from.ensures
