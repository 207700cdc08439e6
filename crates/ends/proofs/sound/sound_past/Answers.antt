-- `ends::sound::sound_past` meets its contract: the sound goes on as long as a loud frame is near. Assumes nothing.
use native.Mathlib.Omega.{arith}
use Rattle.ends.proofs.SoundEnds.{goes_on, stops-here, sound-over}
use Rattle.ends.proofs.sound.sound_past.Goals as goal

pub returns-in_default : goal.returns-in_default
returns-in_default c =
    let inv = c.loop-past.invariant in (stops-here _ _ _ _ (omega arith) c.min.ensures inv.1.1 (omega arith) inv.1.0 c.in_default.ensures.found, omega arith)

pub loop-past-preserved : goal.loop-past-preserved
loop-past-preserved c =
    let inv = c.loop-past.invariant in
    let m = c.in-Some.ensures.found in
    let f = m.from in
    let t = m.to in
    let l = c.min.ensures in
    (omega arith, (omega arith, goes_on _ _ _ _ (omega arith) l inv.1.1 _ m))

pub returns : goal.returns
returns c = let inv = c.loop-past.invariant in (sound-over _ _ _ _ (omega arith) inv.1.1, omega arith)
