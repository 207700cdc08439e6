-- The share-out keeps the lengths of both lists. Assumes nothing.
use Prim.Native.Nat.{ℕ}
use mathlib.Core.Path.{◌≡◌}
use mathlib.Core.List.{List}
use lib.ListN.{length, length-set}
use lib.Ieee.{Float}
use Rattle.base.specs.Words.{Edges}
use Rattle.base.proofs.Loops.{each_keeps}
use Rattle.base.proofs.Parts.{long, both}
use Rattle.share.specs.Share.{Sharing, share_turn, share}

pub share-long : (letters : List ℕ) (room total from : Float) (es : Edges) → long (share letters room total from es) ≡ long es
unfolding share
share-long letters room total from es =
    each_keeps (λ (s : Sharing). long s.edges) (share_turn letters room total)
    (λ (i : ℕ) (s : Sharing). both (length-set s.edges.starts i _) (length-set s.edges.ends i _))
    (length letters) 0 (record { edges = es; t = from })
