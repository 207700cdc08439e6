-- A run's words, and a turn of the loop: for each return of the code what it stands for in the definition. Assumes nothing.
use Prim.Native.Nat.{ℕ, ◌+◌, ◌<◌}
use mathlib.Core.Path.{◌≡◌}
use mathlib.Core.Bool.{false}
use mathlib.Core.List.{List}
use lib.ListN.{get_or, length}
use lib.Ieee.{Float, nan}
use borrow.Author.Tests.{lt-ltb}
use Rattle.base.specs.Floats.{◌⊖◌}
use Rattle.base.specs.Words.{Edges, edges, part, with_part, part_edges}
use Rattle.base.proofs.Parts.{part-made}
use Rattle.share.specs.Share as shares
use Rattle.even.specs.Even.{sum, crushed, even_run, even_turn}
use Rattle.even.specs.declared.stretch.Stretch.{Stretch}

module _ (letters : List ℕ) (es : Edges) (limit : Float) where
  -- ---- a turn
  pub turn-long : (i : ℕ) → i < length es.starts → crushed es i ≡ false → record { edges = es; i = i + 1 } ≡ even_turn letters limit (record { edges = es; i = i })
  unfolding even_turn
  turn-long i h t = rw (lt-ltb i (length es.starts) h, t)

-- ---- the run's words, lent and given back
pub run_is : (letters : List ℕ) (r : Stretch) (starts ends : List Float) {n : Float} {s e : List Float}
    → edges s e ≡ shares.share (part r.first (r.last + 1) letters) (r.to ⊖ get_or starts r.first nan) n (get_or starts r.first nan)
    (edges (part r.first (r.last + 1) starts) (part r.first (r.last + 1) ends))
    → n ≡ sum letters r.first r.last
    → edges (with_part r.first (r.last + 1) starts s) (with_part r.first (r.last + 1) ends e) ≡ even_run letters r (edges starts ends)
unfolding even_run part_edges
run_is letters r starts ends h p = part-made r.first (r.last + 1) _ (edges starts ends) (rw p at h)
