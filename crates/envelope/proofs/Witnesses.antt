-- Inputs for each answer of `envelope`: one that is accepted, one refused with 4, one refused with 6. Assumes nothing.
use Rattle.std.proofs.Common.{◌≡◌, ℕ, ◌<◌, false, List, [], ◌∷◌, replicate, pos, negsuc, refl, ap, lit<, lit≤, lt-ltb}
use lib.ListN.{length-replicate}
use lib.Ieee.{Float, fin}
use Rattle.base.specs.Refusals.{first, accepts, refuses, Rule, says}
use Rattle.base.proofs.First.{first-here}
use Rattle.envelope.specs.Envelope.{levels, floor, tests, by_rule, envelope_call}
use Rattle.envelope.proofs.Promises.{accepted-exactly}

-- one frame of 0.5
frame-of-half : List Float
frame-of-half = replicate 160 (fin false 1 (negsuc 0))

witness-accepted : says (envelope_call frame-of-half (fin false 0 (pos 0) ∷ [])).answer ≡ accepts (floor (levels frame-of-half))
unfolding frame-of-half
witness-accepted = (accepted-exactly _ _).0 (lit≤ tt, lit≤ tt)

-- any number above the limit
too_many : (n : ℕ) → 57600000 < n → says (envelope_call (replicate n (fin false 0 (pos 0))) []).answer ≡ refuses 4
unfolding envelope_call tests
too_many n h =
    ap (λ (r : Rule). says (by_rule r (replicate n (fin false 0 (pos 0))) []).answer) (first-here _ _ (rw (length-replicate n (fin false 0 (pos 0))) (lt-ltb 57600000 n h)))

witness-4 : (samples : List Float) × (says (envelope_call samples []).answer ≡ refuses 4)
witness-4 = (replicate 57600001 (fin false 0 (pos 0)), too_many 57600001 (lit< tt))

witness-6 : says (envelope_call frame-of-half []).answer ≡ refuses 6
unfolding frame-of-half envelope_call tests first
witness-6 = refl
