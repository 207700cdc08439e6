-- Within the limits: what no refusal says of the samples and the places. Assumes nothing.
use Rattle.std.proofs.Common.{◌≡◌, ◌≤◌, List, length, ap, ltb-false, Ok}
use lib.Ieee.{Float}
use Rattle.base.specs.Refusals.{first, Rule}
use Rattle.base.proofs.First.{fine-none}
use Rattle.envelope.specs.Envelope.{frames, tests, by_rule, envelope_call}

pub fine-limits : (samples places : List Float) → first (tests samples places) ≡ Ok tt → (length samples ≤ 57600000) × (frames samples ≤ length places)
unfolding tests
fine-limits samples places h =
    let n = fine-none (tests samples places) h in
    (ltb-false 57600000 (length samples) n.0, ltb-false (length places) (frames samples) n.1.0)

-- the call, by what the tests found
pub call_by : (samples places : List Float) {r : Rule} → first (tests samples places) ≡ r → envelope_call samples places ≡ by_rule r samples places
unfolding envelope_call
call_by samples places h = ap (λ (r : Rule). by_rule r samples places) h
