-- What only the code's inner contracts cite: a reader of the promises may skip it. Assumes nothing.
use Rattle.std.specs.Prelude.{cond, Float}
use Rattle.std.specs.Float.{float_is_finite}
use Rattle.limits.specs.declared.times.NoTime.{NoTime}
use Rattle.limits.specs.declared.times.NoTime.TheVariants.{NotFinite, Outside}

-- ---- Why a number is no time that is not from -7,200 to 7,200.
abbrev pub no_time : Float → NoTime
no_time t = cond (float_is_finite t) Outside NotFinite
