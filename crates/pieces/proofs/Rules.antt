-- The checks in their order, and the call by what they find. A cut is always beyond its piece's start, so that the test of refusal 8 never applies.
-- Assumes nothing.
use Rattle.std.specs.Prelude.{Ok, Err}
use Prim.Native.Nat.{ℕ, ◌/◌, ◌<◌}
use mathlib.Core.Bool.{Bool, true, false, ◌||◌, true≢false}
use mathlib.Core.List.{List}
use mathlib.Core.Logic.{◌↔◌, ◌⊎◌, inl, inr}
use mathlib.Core.Path.{◌≡◌, refl, sym}
use native.Mathlib.Omega.{arith}
use borrow.Author.Tests.{ltb-true, ltb-false, lt-ltb, le-ltb, eqb-true, eq-eqb, not-false}
use lib.Dec.{eqb, ltb}
use lib.ListN.{length}
use lib.Ieee.{Float}
use Rattle.base.specs.Refusals.{first, NoneApplies, Rule}
use Rattle.base.specs.declared.Refusal.{Refusal}
use Rattle.base.specs.declared.Refusal.TheVariants.{Counts, Levels, Places}
use Rattle.base.proofs.First.{fine-none, none-fine}
use Rattle.limits.specs.Limits.{many_samples, other_levels, few_places}
use Rattle.envelope.specs.Envelope.{quiet_row}
use Rattle.pieces.specs.Pieces.{pieces, piece_count, need, tests, Output, output, accepted, pieces_call, Ready}
use Rattle.pieces.specs.Parts.{starts_over, ends_over}
use Rattle.pieces.proofs.Walk.{never_stuck, piece_count-is}

or-first : (a b : Bool) → (a || b) ≡ false → a ≡ false
or-first true b e = e
or-first false b e = refl

or-second : (a b : Bool) → (a || b) ≡ false → b ≡ false
or-second true b e = absurd (let z : ◌≡◌ {A = ℕ} 0 1 = cc in omega arith)
or-second false b e = e

-- one of two lists is short of places
pub short-exactly : (starts ends n : ℕ) → ((starts < n) ⊎ (ends < n)) ↔ ((few_places starts n || few_places ends n) ≡ true)
short-exactly starts ends n = (there, back (ltb starts n) (ltb ends n) refl refl)
  where
    or-true : (b : Bool) → (b || true) ≡ true
    or-true true = refl
    or-true false = refl

    there : (starts < n) ⊎ (ends < n) → (ltb starts n || ltb ends n) ≡ true
    there (inl h) = rw (lt-ltb starts n h)
    there (inr h) = rw (lt-ltb ends n h) (or-true (ltb starts n))

    back : (a b : Bool) → ltb starts n ≡ a → ltb ends n ≡ b → (a || b) ≡ true → (starts < n) ⊎ (ends < n)
    back true b p q e = inl (ltb-true starts n p)
    back false true p q e = inr (ltb-true ends n q)
    back false false p q e = absurd (true≢false (sym e))

-- ---- What judge finds, by the results of its tests.
module _ (levels : List Float) (floor : Float) (count starts ends : ℕ) where
  module _ {many : Bool} (samples : many ≡ many_samples count) where
    pub samples-break : many ≡ true → Err Counts ≡ first (tests levels floor count starts ends)
    unfolding first tests
    samples-break e = rw (← samples, e)

    module _ {other : Bool} (few : many ≡ false) (frames : other ≡ other_levels (length levels) count) where
      pub levels-break : other ≡ true → Err Levels ≡ first (tests levels floor count starts ends)
      unfolding first tests
      levels-break e = rw (← samples, few, ← frames, e)

      module _ {short : Bool} (all : other ≡ false) (places : short ≡ (few_places starts (need (length levels)) || few_places ends (need (length levels)))) where
        pub places-break : short ≡ true → Err Places ≡ first (tests levels floor count starts ends)
        unfolding first tests
        places-break e = rw (← samples, few, ← frames, all, ← places, e)

        pub none-break : short ≡ false → (Ok tt) ≡ first (tests levels floor count starts ends)
        unfolding first tests
        none-break e = rw (← samples, few, ← frames, all, ← places, e, never_stuck (quiet_row floor levels) count)

  -- ---- No refusal applies exactly when all is ready.
  pub fine-ready : first (tests levels floor count starts ends) ≡ Ok tt → Ready (length levels) count starts ends
  unfolding tests
  fine-ready e = ready (fine-none (tests levels floor count starts ends) e) where
    ready : NoneApplies (tests levels floor count starts ends) → Ready (length levels) count starts ends
    ready n = record {
      few = ltb-false 57600000 count n.0;
      all = eqb-true (length levels) (count / 160) (not-false (eqb (length levels) (count / 160)) n.1.0);
      from = ltb-false starts (need (length levels)) (or-first (ltb starts (need (length levels))) (ltb ends (need (length levels))) n.1.1.0);
      to = ltb-false ends (need (length levels)) (or-second (ltb starts (need (length levels))) (ltb ends (need (length levels))) n.1.1.0);
    }

  pub ready-fine : Ready (length levels) count starts ends → first (tests levels floor count starts ends) ≡ Ok tt
  unfolding tests
  ready-fine r =
      none-fine (tests levels floor count starts ends) (
        le-ltb 57600000 count r.few,
        (
          rw (eq-eqb (length levels) (count / 160) r.all),
          (
            rw (le-ltb starts (need (length levels)) r.from, le-ltb ends (need (length levels)) r.to),
            (never_stuck (quiet_row floor levels) count, tt),
          ),
        ),
      )

-- ---- The call.
module _ (levels : List Float) (floor : Float) (count : ℕ) (s e : List ℕ) where
  pub accept-made : {n : ℕ} {s' e' : List ℕ} → n ≡ piece_count (quiet_row floor levels) → s' ≡ starts_over (pieces (quiet_row floor levels) count) s
      → e' ≡ ends_over (pieces (quiet_row floor levels) count) e → output (Ok n) s' e' ≡ accepted (pieces (quiet_row floor levels) count) s e
  unfolding starts_over ends_over
  accept-made p q r = rw (p, q, r, ← piece_count-is (quiet_row floor levels) count)

  pub refused-made : {rule : Rule} (why : Refusal) → rule ≡ first (tests levels floor count (length s) (length e)) → rule ≡ Err why
      → output (Err why) s e ≡ pieces_call levels floor count s e
  unfolding pieces_call
  refused-made why p q = rw (← p, q)

  pub call-made : {rule : Rule} {o : Output} → rule ≡ first (tests levels floor count (length s) (length e)) → rule ≡ Ok tt
      → o ≡ accepted (pieces (quiet_row floor levels) count) s e → o ≡ pieces_call levels floor count s e
  unfolding pieces_call
  call-made p q r = rw (← p, q) r
