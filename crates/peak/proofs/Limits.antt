-- The call, by what its tests found. Assumes nothing.
use Rattle.std.proofs.Common.{◌≡◌, List, ap}
use lib.Ieee.{Float}
use Rattle.base.specs.Refusals.{first, Rule}
use Rattle.peak.specs.Peak.{tests, by_rule, peak_call}

pub call_by : (samples : List Float) (start end : Float) {r : Rule} → first (tests samples start end) ≡ r → peak_call samples start end ≡ by_rule r samples start end
unfolding peak_call
call_by samples start end h = ap (λ (r : Rule). by_rule r samples start end) h
