-- transcriber.rs, peak: the largest magnitude of the samples that a word spans. Assumes nothing.
use Rattle.base.specs.declared.Refusal.{Refusal}
use Rattle.std.specs.Prelude.{ℕ, false, ◌||◌, List, [], ◌∷◌, length, ℤ, pos, negsuc, ◌≤ℤ◌, ◌<ℤ◌, from_bits, slice_index_or, Float, Ok, Err, Result}
use Rattle.std.specs.Float.{nan, inf, fin, binary64}
use Rattle.std.specs.Float.Ieee.{mul}
use Rattle.base.specs.Whole.{min_z}
use Rattle.base.specs.Loop.{Turn, on, range}
use Rattle.base.specs.Refusals.{Test, test, first, Rule}
use Rattle.base.specs.declared.Refusal.TheVariants.{Counts, Time}
use Rattle.js.specs.Js.{js_max}
use Rattle.frames.specs.Frames.{rate, floor_i64, ceil_i64}
use Rattle.limits.specs.Limits.{many_samples, bad_time}

-- ---- f64::abs
abbrev pub magnitude : Float → Float
magnitude nan = nan
magnitude (inf s) = inf false
magnitude (fin s m e) = fin false m e

-- ---- pcm.get(i), widened, .abs(); NaN where there is no sample i
abbrev pub sample_at : List Float → ℤ → Float
sample_at samples (pos i) = magnitude (slice_index_or samples i nan)
sample_at samples (negsuc i) = nan

-- ---- peak = js_max(peak, v)
abbrev pub peak_turn : List Float → ℤ → Float → Turn Float
peak_turn samples i p = on (js_max p (sample_at samples i))

-- ---- let from = (w.start * RATE).floor() as i64; let end = (pcm.len() as i64).min((w.end * RATE).ceil() as i64);
abbrev pub first_sample : Float → ℤ
first_sample start = floor_i64 (mul binary64 start rate)

abbrev pub end_sample : List Float → Float → ℤ
end_sample samples end = min_z (pos (length samples)) (ceil_i64 (mul binary64 end rate))

-- ---- for i in from..end
unfoldable pub word_peak : List Float → Float → Float → Float
word_peak samples start end = range (peak_turn samples) (first_sample start) (end_sample samples end) (from_bits binary64 0)

-- ---- Sample i is in that range.
abbrev pub Spanned : List Float → Float → Float → ℕ → Type 0
Spanned samples start end i = (first_sample start ≤ℤ pos i) × (pos i <ℤ end_sample samples end)

-- ---- Refusals 4 and 1.
unfoldable pub tests : List Float → Float → Float → List Test
tests samples start end = test (many_samples (length samples)) Counts ∷ test (bad_time start || bad_time end) Time ∷ []

-- ---- What the call answers, by what its tests found.
abbrev pub by_rule : Rule → List Float → Float → Float → Result Float Refusal
by_rule (Ok u) samples start end = Ok (word_peak samples start end)
by_rule (Err r) samples start end = Err r

-- ---- What the call answers.
unfoldable pub peak_call : List Float → Float → Float → Result Float Refusal
peak_call samples start end = by_rule (first (tests samples start end)) samples start end
