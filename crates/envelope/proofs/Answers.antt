-- An accepted call: what the code answers and leaves is what the definition says. Assumes nothing.
use Rattle.std.proofs.Common.{◌≡◌, ap, ◌∙◌, List, ◌++◌, take, drop, Ok}
use lib.Ieee.{Float}
use Rattle.envelope.specs.Envelope.{frames, levels, floor, output, accepted}
use Rattle.envelope.proofs.Places.{front-levels}

pub heard-is : (samples places held : List Float) (f : Float) → held ≡ levels samples ++ drop (frames samples) places → f ≡ floor (take (frames samples) held)
    → (held ≡ levels samples ++ drop (frames samples) places) × (f ≡ floor (levels samples))
heard-is samples places held f e h = (e, h ∙ ap floor (front-levels samples places held e))

pub accepted-is : (samples places held : List Float) (f : Float) → (held ≡ levels samples ++ drop (frames samples) places) × (f ≡ floor (levels samples))
    → output (Ok f) held ≡ accepted samples places
unfolding accepted
accepted-is samples places held f (e, h) = rw (h, e)
