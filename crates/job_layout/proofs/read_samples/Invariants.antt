use Rattle.std.proofs.Common.{◌≡◌, ℕ, ◌+◌, ◌*◌, ◌<◌, get_or}
use Rattle.std.specs.Float.{nan}
use Rattle.job_layout.specs.Layout.{f32_at}
use Rattle.job_layout.proofs.read_samples.Given as goal

abbrev pub invariant-loop-i : goal.invariant-loop-i
invariant-loop-i l = (k : ℕ) → k < l.i → get_or l.samples k nan ≡ f32_at l.bytes (0 + 4 * k)
