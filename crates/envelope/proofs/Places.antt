-- The places of the levels: filling them one by one leaves the levels, and what stood behind. Assumes nothing.
use Rattle.std.proofs.Common.{◌≡◌, ℕ, ◌+◌, ◌-◌, ◌*◌, ◌≤◌, List, ◌++◌, length, take, drop, sym, ap, ◌∙◌, arith, take_at}
use lib.Ieee.{Float}
use Rattle.base.specs.Loop.{each}
use Rattle.base.proofs.Loops.{each-table, length-table}
use Rattle.envelope.specs.Envelope.{hop, level, frame, frames, levels}
use Rattle.envelope.specs.Parts.{stored}

pub stores : (samples places : List Float) → frames samples ≤ length places → each (stored samples) (frames samples) 0 places ≡ levels samples ++ drop (frames samples) places
unfolding levels
stores samples places h = each-table (λ (k : ℕ). level (frame samples k)) (frames samples) places h

-- the part that is lent at k is frame k
pub part-frame : (samples : List Float) (k : ℕ) → take (k * hop + hop - k * hop) (drop (k * hop) samples) ≡ frame samples k
unfolding frame
part-frame samples k = let e : k * hop + hop - k * hop ≡ hop = omega arith in ap (λ (n : ℕ). take n (drop (k * hop) samples)) e

pub length-levels : (samples : List Float) → length (levels samples) ≡ frames samples
unfolding levels
length-levels samples = length-table (λ (k : ℕ). level (frame samples k)) (frames samples) 0

-- the levels are the front of what the places then hold
pub front-levels : (samples places held : List Float) → held ≡ levels samples ++ drop (frames samples) places → take (frames samples) held ≡ levels samples
front-levels samples places held e = ap (take (frames samples)) e ∙ take_at (levels samples) (drop (frames samples) places) (frames samples) (length-levels samples)

-- and as long
pub front_length : (samples places held : List Float) → held ≡ levels samples ++ drop (frames samples) places → frames samples ≡ length (take (frames samples) held)
front_length samples places held e = sym (ap length (front-levels samples places held e) ∙ length-levels samples)
