-- The call in plain words: accepted exactly when all is within the limits, with the last run; refused exactly with the first refusal that applies; and no sound, or a sound, exactly
-- when. Assumes nothing.
use Rattle.base.specs.Words.{times}
use Rattle.base.specs.declared.Times.{Times}
use Rattle.std.specs.Prelude.{Ok, Err, Option, Some, None}
use Prim.Native.Nat.{ℕ, ◌/◌}
use mathlib.Core.Path.{◌≡◌, refl, sym, ap, ◌∙◌}
use mathlib.Core.Logic.{◌↔◌, inl, inr}
use mathlib.Core.List.{List, [], ◌∷◌}
use borrow.Author.Tests.{ltb-false, le-ltb, eqb-true, eq-eqb, not-false}
use lib.Dec.{eqb}
use lib.ListN.{length}
use lib.Ieee.{Float}
use Rattle.base.specs.Refusals.{first, NoneApplies, First, Says, accepts, refuses, Judged, says_of, Listed, Rule, says}
use Rattle.base.proofs.First.{apart, fine-none, judged}
use Rattle.limits.proofs.Joined.{neither, both-not}
use Rattle.word_calls.proofs.Within.{within-fine, fine-within}
use Rattle.envelope.specs.Envelope.{loud_row}
use Rattle.last_run.specs.LastRun.{last_run, tests, by_rule, last_run_call, Taken}
use Rattle.last_run.specs.Exact.{NoSound, SoundIs, first_frame, end_frame}
use Rattle.last_run.proofs.Exact.{nothing-exactly, sound-exactly}

module _ (levels : List Float) (floor : Float) (count : ℕ) (from to : Float) where
  -- no test applies exactly when all is within the limits
  within-exactly : Taken (length levels) count from to ↔ NoneApplies (tests (length levels) count from to)
  unfolding tests
  within-exactly = (
    λ h. (le-ltb 57600000 count h.0, (both-not (within-fine from h.1.0.0) (within-fine to h.1.0.1), (rw (eq-eqb (length levels) (count / 160) h.1.1), tt))),
    λ n. (let t = neither _ _ n.1.0 in (
      ltb-false 57600000 count n.0,
      ((fine-within from t.0, fine-within to t.1), eqb-true (length levels) (count / 160) (not-false (eqb (length levels) (count / 160)) n.1.1.0)),
    )),
  )

  listed : Listed (4 ∷ 1 ∷ 7 ∷ []) (tests (length levels) count from to)
  unfolding tests
  listed = (inr (inl refl), (inr (inr (inl refl)), (inr (inr (inr (inl refl))), tt)))

  -- what is said, by what the tests find
  rule-says : (run : Option Times) (r : Rule) → says (by_rule r run) ≡ says_of run r
  rule-says run (Ok u) = refl
  rule-says run (Err r) = refl

  -- ---- accepted, with the last run, exactly when the samples and both times are within the limits and every frame has a level; refused with n exactly when n is the first that
  -- applies, of 4, 1, 7
  pub answers : Judged (Taken (length levels) count from to) (4 ∷ 1 ∷ 7 ∷ []) (tests (length levels) count from to) (last_run (loud_row floor levels) from to) (says (last_run_call levels floor count from to))
  unfolding last_run_call
  answers = judged (last_run (loud_row floor levels) from to) within-exactly listed (rule-says (last_run (loud_row floor levels) from to) (first (tests (length levels) count from to)))

  pub accepted-exactly : Taken (length levels) count from to ↔ (says (last_run_call levels floor count from to) ≡ accepts (last_run (loud_row floor levels) from to))
  accepted-exactly = answers.accepted-exactly

  pub refused-exactly : (n : ℕ) → First n (tests (length levels) count from to) ↔ (says (last_run_call levels floor count from to) ≡ refuses n)
  refused-exactly = answers.refused-exactly

  -- ---- what is accepted at all is within the limits
  taken : (x : Option Times) → says (last_run_call levels floor count from to) ≡ accepts x → Taken (length levels) count from to
  unfolding last_run_call
  taken x h = within-exactly.1 (fine-none (tests (length levels) count from to) (go (first (tests (length levels) count from to)) h))
    where
      go : (r : Rule) → says (by_rule r (last_run (loud_row floor levels) from to)) ≡ accepts x → r ≡ Ok tt
      go (Ok u) h = refl
      go (Err q) h = apart (sym h)

  -- ---- x is given exactly when all is within the limits and x are the last run's times
  gives : (x : Option Times) → (Taken (length levels) count from to × (last_run (loud_row floor levels) from to ≡ x)) ↔ (says (last_run_call levels floor count from to) ≡ accepts x)
  gives x = (
    λ h. accepted-exactly.0 h.0 ∙ ap (λ (y : Option Times). accepts y) h.1,
    λ e. (
        let w = taken x e in
        let same : ◌≡◌ {A = Says (Option Times)} (accepts (last_run (loud_row floor levels) from to)) (accepts x) = sym (accepted-exactly.0 w) ∙ e in
        (w, cc)
        ),
  )

  -- ---- "no sound is given exactly when no loud frame is in the range or last minus first frame of the run is under 3"
  pub answers-no-sound-exactly :
      (Taken (length levels) count from to × NoSound (loud_row floor levels) (first_frame from) (end_frame (loud_row floor levels) to))
      ↔ (says (last_run_call levels floor count from to) ≡ accepts None)
  answers-no-sound-exactly = (
    λ h. (gives None).0 (h.0, (nothing-exactly (loud_row floor levels) from to).0 h.1),
    λ e. let w = (gives None).1 e in (w.0, (nothing-exactly (loud_row floor levels) from to).1 w.1),
  )

  -- ---- and a start and an end exactly when they are those of a run that is long enough
  pub answers-sound-exactly : (start end : Float)
      → (Taken (length levels) count from to × SoundIs (loud_row floor levels) (first_frame from) (end_frame (loud_row floor levels) to) start end)
      ↔ (says (last_run_call levels floor count from to) ≡ accepts (Some (times start end)))
  answers-sound-exactly start end = (
    λ h. (gives (Some (times start end))).0 (h.0, (sound-exactly (loud_row floor levels) from to start end).0 h.1),
    λ e. let w = (gives (Some (times start end))).1 e in (w.0, (sound-exactly (loud_row floor levels) from to start end).1 w.1),
  )
