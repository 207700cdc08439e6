use Prim.Native.Nat.{◌-◌}
use mathlib.Core.Path.{◌≡◌}
use lib.ListN.{length}
use Rattle.base.specs.Loop.{each}
use Rattle.base.specs.Words.{edges}
use Rattle.share.specs.Share as shares
use Rattle.share.specs.Share.{share_turn}
use Rattle.share.proofs.share.Given as goal

abbrev pub invariant-loop-i : goal.invariant-loop-i
invariant-loop-i l = shares.share l.letters l.room l.total l.from (edges l.initial.starts l.initial.ends) ≡ (each (share_turn l.letters l.room l.total) (length l.letters - l.i) l.i (record { edges = edges l.starts l.ends; t = l.t })).edges
