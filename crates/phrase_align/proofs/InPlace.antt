-- The spans' words placed one span after the other, in place. Assumes nothing.
use Prim.Native.Nat.{ℕ, ◌+◌, ◌-◌, min}
use mathlib.Core.Path.{◌≡◌, ap}
use mathlib.Core.List.{List}
use lib.ListN.{get_or, length, replicate}
use lib.Ieee.{Float, nan}
use Rattle.base.specs.Words.{Spans, Edges, edges, part, with_part, part_edges}
use Rattle.base.proofs.Parts.{part-made}
use Rattle.spread.specs.Spread.{place_group}
use Rattle.phrase_align.specs.Parts.{Held, held, held_span, held_turn}

-- ---- the lists by another name
pub held-alike : {s s' e e' : List Float} {f : List ℕ} {a : ℕ} → s ≡ s' → e ≡ e' → held s e f a ≡ held s' e' f a
held-alike p q = rw (p, q)

-- ---- one span's words
pub span-made : (letters : List ℕ) (from to : Float) (a e p : ℕ) (starts ends : List Float) (phrases : List ℕ) {s t : List Float} {f : List ℕ}
    → edges s t ≡ place_group (part a e letters) from to (edges (part a e starts) (part a e ends)) → f ≡ with_part a e phrases (replicate (e - a) p)
    → held (with_part a e starts s) (with_part a e ends t) f e ≡ held_span letters from to a e p (held starts ends phrases a)
unfolding held_span part_edges
span-made letters from to a e p starts ends phrases h k =
    rw k (ap (λ (es : Edges). record { edges = es; phrases = with_part a e phrases (replicate (e - a) p); at = e }) (part-made a e (place_group (part a e letters) from to) (edges starts ends) h))

-- ---- a span and its count
pub turn-made : (letters : List ℕ) (spans : Spans) (p : ℕ) (h : Held) {given : List ℕ} {e : ℕ} {g : Held} → letters ≡ given → e ≡ min (length letters) (h.at + get_or spans.counts p 0)
    → g ≡ held_span given (get_or spans.starts p nan) (get_or spans.ends p nan) h.at e p h → g ≡ held_turn letters spans p h
unfolding held_turn
turn-made letters spans p h q r s = rw (s, ← q, r)
