-- The test of a time and of a limit, case by case as the code has it. Assumes nothing.
use mathlib.Core.Path.{◌≡◌, refl, sym}
use mathlib.Core.Bool.{true, false, true≢false}
use lib.IntN.{pos}
use lib.Ieee.{Float, nan, inf, fin, le, lt, eq, of_bits}
use Rattle.std.specs.Float.{float_is_finite}
use Rattle.limits.specs.Limits.{least, most, time_of, limit_of}
use Rattle.limits.specs.Parts.{no_time}
use Rattle.std.specs.Prelude.{Ok, Err}
use Rattle.limits.specs.declared.times.NoTime.{NoTime}

abbrev zero_f : Float
zero_f = fin false 0 (pos 0)

-- ---- a time, by the comparisons
pub time-fine : (t : Float) → le least t ≡ true → le t most ≡ true → Ok tt ≡ time_of t
time-fine nan p q = unfold le lt eq in absurd (true≢false (sym q))
time-fine (inf true) p q = unfold le lt eq of_bits in absurd (true≢false (sym p))
time-fine (inf false) p q = unfold le lt eq of_bits in absurd (true≢false (sym q))
time-fine (fin s m e) p q = unfold time_of in rw (p, q)

low-none : (t : Float) → le least t ≡ false → Err (no_time t) ≡ time_of t
unfolding float_is_finite
low-none nan p = unfold time_of in refl
low-none (inf s) p = unfold time_of in refl
low-none (fin s m e) p = unfold time_of in rw p

pub time-low : {why : NoTime} (t : Float) → why ≡ no_time t → le least t ≡ false → Err why ≡ time_of t
time-low t h p = rw h (low-none t p)

high-none : (t : Float) → le least t ≡ true → le t most ≡ false → Err (no_time t) ≡ time_of t
unfolding float_is_finite
high-none nan p q = unfold time_of in refl
high-none (inf s) p q = unfold time_of in refl
high-none (fin s m e) p q = unfold time_of in rw (p, q)

pub time-high : {why : NoTime} (t : Float) → why ≡ no_time t → le least t ≡ true → le t most ≡ false → Err why ≡ time_of t
time-high t h p q = rw h (high-none t p q)

-- ---- a limit: +infinity is fine, and any other number is tested as a time
pub limit-finite : (t : Float) → float_is_finite t ≡ true → time_of t ≡ limit_of t
unfolding float_is_finite
limit-finite nan e = absurd (true≢false (sym e))
limit-finite (inf s) e = absurd (true≢false (sym e))
limit-finite (fin s m e) h = unfold limit_of in refl

pub limit-top : (t : Float) → lt zero_f t ≡ true → float_is_finite t ≡ false → Ok tt ≡ limit_of t
unfolding float_is_finite
limit-top nan p e = unfold lt in absurd (true≢false (sym p))
limit-top (inf true) p e = unfold lt in absurd (true≢false (sym p))
limit-top (inf false) p e = unfold limit_of in refl
limit-top (fin s m e) p h = absurd (true≢false h)

pub limit-low : (t : Float) → lt zero_f t ≡ false → time_of t ≡ limit_of t
limit-low nan p = unfold time_of limit_of in refl
limit-low (inf true) p = unfold time_of limit_of in refl
limit-low (inf false) p = unfold lt in absurd (true≢false p)
limit-low (fin s m e) p = unfold limit_of in refl
