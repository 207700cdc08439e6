-- Levels heard a stretch at a time: the levels of a recording in two parts, of which the first is made of whole frames, are those of the first, then those of the second.
-- Assumes nothing.
use Prim.Native.Nat.{ℕ, ◌+◌, ◌*◌, ◌<◌}
use mathlib.Core.List.{List, ◌++◌}
use mathlib.Core.Path.{◌≡◌, ap, ◌∙◌}
use native.Mathlib.Omega.{arith}
use lib.ListN.{length, take, drop, length-append, length-drop}
use lib.Seq.{drop-append-le, drop-append-add, take-append-le}
use lib.Ieee.{Float}
use Rattle.envelope.specs.Envelope.{hop, level, frame, frames, levels}
use Rattle.job_layout.proofs.Tabled.{table-alike, table-after}

module _ (xs ys : List Float) (q : ℕ) (whole : length xs ≡ 160 * q) where
  first : (k : ℕ) → k < q → frame (xs ++ ys) k ≡ frame xs k
  unfolding frame
  first k l =
      ap (take hop) (drop-append-le (k * hop) xs ys (omega arith))
      ∙ take-append-le hop (drop (k * hop) xs) ys (let d = length-drop (k * hop) xs in omega arith)

  second : (k : ℕ) → frame (xs ++ ys) (q + k) ≡ frame ys k
  unfolding frame
  second k = let e : (q + k) * hop ≡ length xs + k * hop = omega arith in rw e (ap (take hop) (drop-append-add xs ys (k * hop)))

  pub levels-append : levels (xs ++ ys) ≡ levels xs ++ levels ys
  unfolding levels
  levels-append =
      let l = length-append xs ys in
      let n : frames (xs ++ ys) ≡ q + frames ys = omega arith in
      let m : frames xs ≡ q = omega arith in
      rw (n, m) (
      table-after (λ (k : ℕ). level (frame (xs ++ ys) k)) q (frames ys)
      ∙ rw (
        table-alike (λ (k : ℕ). level (frame (xs ++ ys) k)) (λ (k : ℕ). level (frame xs k)) q 0 (λ k a b. ap level (first k (omega (arith, b)))),
        table-alike (λ (k : ℕ). level (frame (xs ++ ys) (q + k))) (λ (k : ℕ). level (frame ys k)) (frames ys) 0 (λ k a b. ap level (second k)),
      )
      )
