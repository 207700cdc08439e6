-- `fit_to_sound::word_starts::clip` meets its contract: the words left from i give what the whole list gives. Assumes nothing.
use native.Mathlib.Omega.{arith}
use mathlib.Core.Path.{refl, sym, ◌∙◌}
use lib.ListN.{length-set}
use Rattle.base.specs.Words.{edges}
use Rattle.base.proofs.Loops.{each_start, each_next, each-done}
use Rattle.fit_to_sound.specs.FitToSound.{clip as clip_all}
use Rattle.fit_to_sound.proofs.Starts.{clip-turn}
use Rattle.fit_to_sound.proofs.word_starts.clip.Goals as goal

pub loop-i-init : goal.loop-i-init
unfolding clip_all
loop-i-init c = (refl, each_start _ _ _)

pub loop-i-preserved : goal.loop-i-preserved
loop-i-preserved c = (
  simp length-set (omega arith),
  c.loop-i.invariant.1 ∙ each_next _ _ _ (omega arith) (clip-turn _ (edges c.args.starts.now c.loop-i.ends) refl c.clipped_to.ensures),
)

pub returns : goal.returns
returns c = sym (c.loop-i.invariant.1 ∙ each-done _ _ _ _ (omega arith))
