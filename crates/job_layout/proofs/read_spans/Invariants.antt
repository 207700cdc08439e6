use Rattle.std.proofs.Common.{◌≡◌, ℕ, ◌+◌, ◌*◌, ◌<◌, get_or}
use Rattle.std.specs.Float.{nan}
use Rattle.job_layout.specs.Layout.{f64_at, u32_at}
use Rattle.job_layout.proofs.read_spans.Given as goal

abbrev pub invariant-loop-i : goal.invariant-loop-i
invariant-loop-i l =
    ((k : ℕ) → k < l.i → get_or l.starts k nan ≡ f64_at l.bytes (l.from + 20 * k))
    × (((k : ℕ) → k < l.i → get_or l.ends k nan ≡ f64_at l.bytes (l.from + 8 + 20 * k))
    × (((k : ℕ) → k < l.i → get_or l.counts k 0 ≡ u32_at l.bytes (l.from + 16 + 20 * k))))
