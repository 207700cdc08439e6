use Rattle.std.proofs.Common.{◌≡◌, ◌<◌, ◌≤◌, ℕ, true}
use Rattle.even.specs.WeighedWords.{edges_of}
use Rattle.even.specs.Even.{borrows}
use Rattle.even.proofs.stretch.borrowed.Given as goal

abbrev pub invariant-loop-first : goal.invariant-loop-first
invariant-loop-first l = (k : ℕ) → l.first < k → k ≤ l.fn.row.first → borrows l.w.weights.now (edges_of l.w) l.ceiling l.last k ≡ true
