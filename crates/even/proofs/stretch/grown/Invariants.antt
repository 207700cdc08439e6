use Rattle.std.proofs.Common.{◌≡◌, ◌<◌, ◌≤◌, ℕ, true, get_or}
use Rattle.std.specs.Float.{nan}
use Rattle.even.specs.WeighedWords.{edges_of}
use Rattle.even.specs.Even.{grows}
use Rattle.even.proofs.stretch.grown.Given as goal

abbrev pub invariant-loop-last : goal.invariant-loop-last
invariant-loop-last l = (k : ℕ) → l.fn.row.last ≤ k → k < l.last → grows l.w.weights.now (edges_of l.w) (get_or l.w.starts.now l.first nan) l.first k ≡ true
