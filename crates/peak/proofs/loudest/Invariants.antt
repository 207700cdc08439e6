use Rattle.std.proofs.Common.{◌≡◌, ◌-◌, pos}
use lib.Ieee.{binary64, of_bits}
use Rattle.base.specs.Loop.{on, run, range}
use Rattle.peak.specs.Peak.{peak_turn}
use Rattle.peak.proofs.loudest.Given as goal

abbrev pub invariant-loop-i : goal.invariant-loop-i
invariant-loop-i l =
    range (peak_turn l.samples) (pos l.from) (pos l.to) (of_bits binary64 0) ≡ run (peak_turn l.samples) (l.to - l.i) (pos l.i) (on l.peak)
