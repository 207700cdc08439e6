use Rattle.std.proofs.Common.{◌≡◌, ◌+◌, ◌<◌, ◌≤◌, ℕ, true}
use Rattle.even.specs.WeighedWords.{edges_of}
use Rattle.even.specs.Even.{crushed}
use Rattle.even.proofs.stretch.last_crushed.Given as goal

abbrev pub invariant-loop-b : goal.invariant-loop-b
invariant-loop-b l = (k : ℕ) → l.i ≤ k → k < l.b → crushed (edges_of l.w) (k + 1) ≡ true
