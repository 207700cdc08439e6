-- `fit_to_sound::word_starts::rise_frame` meets its contract: the frames left from k give what all give. Assumes nothing.
use mathlib.Core.Path.{◌≡◌, sym, ap, ◌∙◌}
use native.Mathlib.Omega.{arith}
use lib.IntN.{pos}
use Rattle.fit_to_sound.proofs.Rise.{rise-starts, rise-next, rise-stop, rise-done}
use Rattle.fit_to_sound.proofs.word_starts.rise_frame.Goals as goal

pub loop-k-init : goal.loop-k-init
loop-k-init c = (omega arith, rise-starts _ _ _)

pub returns-then-is_loud_run : goal.returns-then-is_loud_run
returns-then-is_loud_run c = rise-stop _ _ _ c.loop-k.invariant.1 c.loop-k-test.true (sym c.is_loud_run.ensures ∙ c.if-is_loud_run.true)

pub loop-k-preserved : goal.loop-k-preserved
loop-k-preserved c = (omega arith, rise-next _ _ _ c.loop-k.invariant.1 c.loop-k-test.true (sym c.is_loud_run.ensures ∙ c.if-is_loud_run.false))

pub returns : goal.returns
returns c = let z : c.max.result ≡ c.loop-k.k = omega arith in ap pos z ∙ rise-done _ _ _ c.loop-k.invariant.1 c.loop-k-test.false
