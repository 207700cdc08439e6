-- `fit_to_sound::word_ends::quiet_between` meets its contract: the frames left from k give what all give. Assumes nothing.
use native.Mathlib.Omega.{arith}
use Rattle.fit_to_sound.proofs.Silence.{quiet-starts, quiet_next, quiet-met, quiet-done}
use Rattle.fit_to_sound.proofs.word_ends.quiet_between.Goals as goal

pub loop-k-init : goal.loop-k-init
loop-k-init c = (omega arith, quiet-starts _ _ _)

pub returns-then-run-ge-END_SILENCE : goal.returns-then-run-ge-END_SILENCE
returns-then-run-ge-END_SILENCE c = quiet-met _ _ _ _ c.loop-k.invariant.1 c.loop-k-test.true c.loud.ensures c.counted-run.ensures c.if-run-ge-END_SILENCE.true

pub loop-k-preserved : goal.loop-k-preserved
loop-k-preserved c = (omega arith, quiet_next _ _ _ _ c.loop-k.invariant.1 c.loop-k-test.true c.loud.ensures c.counted-run.ensures c.if-run-ge-END_SILENCE.false)

pub returns : goal.returns
returns c = quiet-done _ _ _ _ c.loop-k.invariant.1 c.loop-k-test.false
