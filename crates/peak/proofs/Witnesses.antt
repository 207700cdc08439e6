-- Inputs for each answer of `peak`: one that is accepted, one that is accepted with NaN, one refused with 4, one refused with 1. Assumes nothing.
use Rattle.std.proofs.Common.{◌≡◌, ℕ, ◌<◌, true, false, List, [], ◌∷◌, replicate, pos, negsuc, refl, ap, ◌∙◌, inl, lit<, lit≤, lt-ltb}
use lib.Signed.{lt_z_yes}
use lib.ListN.{length-replicate}
use lib.Ieee.{Float, nan, fin, is_nan, le, lt, eq, mul, of_bits}
use Rattle.base.specs.Loop.{run}
use Rattle.base.specs.Refusals.{first, accepts, refuses, Rule, says}
use Rattle.base.proofs.First.{first-here}
use Rattle.limits.specs.Limits.{time_of}
use Rattle.js.specs.Js.{js_max, under}
use Rattle.frames.specs.Frames.{floor_i64, ceil_i64}
use Rattle.peak.specs.Peak.{word_peak, tests, by_rule, peak_call}
use Rattle.peak.proofs.Promises.{accepted-exactly, nan-exactly}

-- 0.5, -0.75
two-samples : List Float
two-samples = fin false 1 (negsuc 0) ∷ fin true 3 (negsuc 1) ∷ []

-- from 0 s to 1 s
abbrev zero_f : Float
zero_f = fin false 0 (pos 0)

abbrev one_f : Float
one_f = fin false 1 (pos 0)

largest : word_peak two-samples zero_f one_f ≡ fin false 3 (negsuc 1)
unfolding two-samples word_peak run floor_i64 ceil_i64 mul of_bits js_max under is_nan lt
largest = refl

witness-accepted : says (peak_call two-samples zero_f one_f) ≡ accepts (fin false 3 (negsuc 1))
unfolding two-samples le lt eq of_bits
witness-accepted = (accepted-exactly _ _ _).0 (lit≤ tt, ((refl, refl), (refl, refl))) ∙ ap (λ (x : Float). accepts x) largest

-- from -1 s to 1 s
minus_one_f : Float
minus_one_f = fin true 1 (pos 0)

witness-nan : says (peak_call two-samples minus_one_f one_f) ≡ accepts nan
unfolding two-samples minus_one_f floor_i64 ceil_i64 mul le lt eq of_bits
witness-nan = (accepted-exactly _ _ _).0 (lit≤ tt, ((refl, refl), (refl, refl))) ∙ ap (λ (x : Float). accepts x) ((nan-exactly _ _ _).0 (inl (lt_z_yes tt, lt_z_yes tt)))

-- any number above the limit
too_many : (n : ℕ) → 57600000 < n → says (peak_call (replicate n zero_f) zero_f one_f) ≡ refuses 4
unfolding peak_call tests
too_many n h = ap (λ (r : Rule). says (by_rule r (replicate n zero_f) zero_f one_f)) (first-here _ _ (rw (length-replicate n zero_f) (lt-ltb 57600000 n h)))

witness-4 : (samples : List Float) × (says (peak_call samples zero_f one_f) ≡ refuses 4)
witness-4 = (replicate 57600001 zero_f, too_many 57600001 (lit< tt))

witness-1 : says (peak_call two-samples zero_f nan) ≡ refuses 1
unfolding two-samples peak_call tests first time_of le lt eq of_bits
witness-1 = refl
