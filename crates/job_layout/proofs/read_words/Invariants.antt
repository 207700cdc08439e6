use Rattle.std.proofs.Common.{◌≡◌, ℕ, ◌+◌, ◌*◌, ◌<◌, get_or}
use Rattle.std.specs.Float.{nan}
use Rattle.job_layout.specs.Layout.{f64_at, u32_at}
use Rattle.job_layout.proofs.read_words.Given as goal

abbrev pub invariant-loop-i : goal.invariant-loop-i
invariant-loop-i l =
    ((k : ℕ) → k < l.i → get_or l.starts k nan ≡ f64_at l.bytes (0 + 28 * k))
    × (((k : ℕ) → k < l.i → get_or l.ends k nan ≡ f64_at l.bytes (0 + 8 + 28 * k))
    × (((k : ℕ) → k < l.i → get_or l.letters k 0 ≡ u32_at l.bytes (0 + 16 + 28 * k))
    × (((k : ℕ) → k < l.i → get_or l.units k 0 ≡ u32_at l.bytes (0 + 20 + 28 * k))
    × (((k : ℕ) → k < l.i → get_or l.keys k 0 ≡ u32_at l.bytes (0 + 24 + 28 * k))))))
