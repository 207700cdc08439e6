-- `onsets::onset_back` meets its contract: the sound rises further back as long as a loud frame is near. Assumes nothing.
use native.Mathlib.Omega.{arith}
use Rattle.onsets.proofs.Starts.{rises-first, rises-on, rises-here, rises-last}
use Rattle.onsets.proofs.onset_back.Goals as goal

pub loop-onset-init : goal.loop-onset-init
loop-onset-init c = rises-first _ _ _

pub returns-in_default : goal.returns-in_default
returns-in_default c = rises-here _ _ _ c.loop-onset-test.true c.frames_back-from.ensures c.loop-onset.invariant c.in_default.ensures.found

pub loop-onset-preserved : goal.loop-onset-preserved
loop-onset-preserved c = rises-on _ _ _ c.loop-onset-test.true c.frames_back-from.ensures c.loop-onset.invariant _ c.in-Some.ensures.found

pub returns : goal.returns
returns c = rises-last _ _ _ (omega arith) c.loop-onset.invariant
