use Rattle.std.proofs.Common.{◌≡◌, ◌-◌, ◌<◌, ◌≤◌, ℕ, true}
use Rattle.even.specs.WeighedWords.{edges_of}
use Rattle.even.specs.Even.{crushed}
use Rattle.even.proofs.stretch.first_crushed.Given as goal

abbrev pub invariant-loop-a : goal.invariant-loop-a
invariant-loop-a l = (k : ℕ) → l.a < k → k ≤ l.i → crushed (edges_of l.w) (k - 1) ≡ true
