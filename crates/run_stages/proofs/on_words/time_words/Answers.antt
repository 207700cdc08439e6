-- `run_stages::on_words::time_words` meets its contract. Assumes nothing.
use native.Mathlib.Omega.{arith}
use mathlib.Core.Path.{◌∙◌}
use Rattle.run_stages.proofs.Stages.{still-ready, time-is, whole_is, phrased-is}
use Rattle.run_stages.proofs.on_words.time_words.Goals as goal

pub snap-requires : goal.snap-requires
snap-requires c =
    let p = c.requires.0 in (omega (arith, p.0.0, p.0.1.0), (omega (arith, p.0.0, p.0.1.1.0), (omega (arith, p.0.0, p.0.1.1.1.0), c.requires.1)))

pub fit_words-requires : goal.fit_words-requires
fit_words-requires c =
    let p = c.requires.0 in (omega (arith, p.0.0, p.0.1.0, c.snap.auto.starts, c.snap.auto.ends), (omega (arith, p.0.0, p.0.1.1.0, c.snap.auto.starts), omega (arith, p.0.0, p.1.0, c.snap.auto.starts)))

pub returns-then-spans-eq0 : goal.returns-then-spans-eq0
returns-then-spans-eq0 c =
    let p = c.requires.0 in time-is _ _ _ _ _ _ c.snap.ensures (whole_is _ _ _ _ _ (c.snap.auto.starts ∙ p.0.0, (c.snap.auto.ends ∙ p.0.1.0, p.0.1.1)) c.if-spans-eq0.true c.fit_words.ensures c.fit_words.auto.starts c.fit_words.auto.ends)

pub place_and_fit-requires : goal.place_and_fit-requires
place_and_fit-requires c =
    still-ready c.snap.auto.starts c.snap.auto.ends c.requires.0

pub returns : goal.returns
returns c =
    time-is _ _ _ _ _ _ c.snap.ensures (phrased-is _ _ _ _ _ _ c.if-spans-eq0.false c.place_and_fit.ensures)
