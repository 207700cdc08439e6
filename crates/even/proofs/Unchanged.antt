-- A list in which no word is crushed is left as it is: every turn goes on by one word or none, and changes nothing. Assumes nothing.
use Rattle.base.specs.Refusals.{Rule}
use Rattle.std.specs.Prelude.{Ok, Err}
use Prim.Native.Nat.{ℕ, ◌<◌}
use mathlib.Core.Path.{◌≡◌, refl, sym, ap, ◌∙◌}
use mathlib.Core.Bool.{Bool, true, false}
use mathlib.Core.List.{List}
use native.Mathlib.Omega.{arith}
use lib.Dec.{ltb}
use lib.ListN.{length}
use lib.Ieee.{Float}
use borrow.Author.Tests.{ltb-true, ltb-false}
use Rattle.base.specs.Words.{Words, Edges, edges, with_edges}
use Rattle.base.proofs.Loops.{each_holds}
use Rattle.word_calls.specs.Calls.{limit_rule, moved}
use Rattle.even.specs.Even.{even_call, crushed, even_out, Evening, even_turn}
use Rattle.even.proofs.Runs.{turn-long}
use Rattle.even.proofs.Turns.{turn-past}

module _ (letters : List ℕ) (limit : Float) (es : Edges) (none : (i : ℕ) → i < length es.starts → crushed es i ≡ false) where
  turn-same : (i : ℕ) → (even_turn letters limit (record { edges = es; i = i })).edges ≡ es
  turn-same i = go (ltb i (length es.starts)) refl where
    go : (t : Bool) → ltb i (length es.starts) ≡ t → (even_turn letters limit (record { edges = es; i = i })).edges ≡ es
    go true e = let h = ltb-true _ _ e in ap (λ (s : Evening). s.edges) (sym (turn-long letters es limit i h (none i h)))
    go false e = ap (λ (s : Evening). s.edges) (turn-past letters limit (record { edges = es; i = i }) (ltb-false _ _ e))

  pub unchanged : even_out letters limit es ≡ es
  unfolding even_out
  unchanged =
      each_holds (λ (_ : ℕ) (s : Evening). s.edges ≡ es) (λ (_ : ℕ). even_turn letters limit) (length es.starts)
      (λ (_ : ℕ) (s : Evening) _ e. ap (λ (x : Edges). (even_turn letters limit (record { edges = x; i = s.i })).edges) e ∙ turn-same s.i)
      (length es.starts) 0 (record { edges = es; i = 0 }) (omega arith) refl

-- ---- the call leaves it as it is, accepted or refused
pub call-unchanged : (ws : Words) (limit : Float) → ((i : ℕ) → i < length ws.starts → crushed (edges ws.starts ws.ends) i ≡ false) → (even_call ws limit).words ≡ ws
unfolding even_call
call-unchanged ws limit none = go (limit_rule ws limit) where
  go : (r : Rule) → (moved r (even_out ws.letters limit (edges ws.starts ws.ends)) ws).words ≡ ws
  go (Ok u) = ap (λ (es : Edges). with_edges es ws) (unchanged ws.letters limit (edges ws.starts ws.ends) none)
  go (Err r) = refl
