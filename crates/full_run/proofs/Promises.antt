-- The full run in plain words: accepted exactly when words, spans and samples are within the limits and the places suffice, refused exactly with the first refusal
-- that applies; a refusal changes nothing, and refusals 7 and 8 cannot arise. Every cut that an accepted run leaves lies 1,203 frames or more beyond its piece's start. By reading
-- what the tests find. Assumes nothing.
use Rattle.std.specs.Prelude.{Ok, Err}
use Prim.Native.Nat.{ℕ, ◌≤◌, min}
use mathlib.Core.Bool.{false}
use mathlib.Core.List.{List, [], ◌∷◌}
use mathlib.Core.Logic.{◌↔◌, inl, inr}
use mathlib.Core.Path.{◌≡◌, refl, sym, ap, ◌∙◌}
use native.Mathlib.Omega.{arith}
use borrow.Author.Tests.{eq-eqb}
use lib.ListN.{length}
use lib.Ieee.{Float}
use Rattle.base.specs.Words.{count}
use Rattle.base.specs.Refusals.{NoneApplies, First, Says, accepts, refuses, Among, Judged, says_of, Listed, Rule, says}
use Rattle.base.proofs.First.{apart, fine-none, none-fine, judged}
use Rattle.limits.specs.Limits.{other_levels}
use Rattle.limits.specs.Order.{when, also, in_order, chain}
use Rattle.limits.proofs.Joined.{also-exactly}
use Rattle.word_calls.specs.Within.{WordsWithin, SpansWithin}
use Rattle.word_calls.specs.Calls.{of_words, of_samples, of_spans, of_places}
use Rattle.word_calls.proofs.Within.{words-exactly, samples-exactly, spans-exactly, places-exactly}
use Rattle.envelope.specs.Envelope.{frames, levels, floor, quiet_row}
use Rattle.envelope.proofs.Places.{length-levels}
use Rattle.pieces.specs.Pieces.{need, walked, CutsApart}
use Rattle.pieces.proofs.Walk.{never_stuck, pieces-over-apart}
use Rattle.run_stages.specs.Stages.{run_on}
use Rattle.full_run.specs.FullRun.{Input, run_of, run_applies, RunWithin, output, report_of, accepted, by_rule, full_run}
use Rattle.full_run.specs.declared.Report.{Report}

-- a number that is none of 3, 4, 1, 2, 6
unlisted : (n : ℕ) → (n ≡ 3 → ⊥) → (n ≡ 4 → ⊥) → (n ≡ 1 → ⊥) → (n ≡ 2 → ⊥) → (n ≡ 6 → ⊥) → Among n (3 ∷ 4 ∷ 1 ∷ 2 ∷ 6 ∷ []) → ⊥
unlisted n a b c d f (inl e) = a e
unlisted n a b c d f (inr (inl e)) = b e
unlisted n a b c d f (inr (inr (inl e))) = c e
unlisted n a b c d f (inr (inr (inr (inl e)))) = d e
unlisted n a b c d f (inr (inr (inr (inr (inl e))))) = f e
unlisted n a b c d f (inr (inr (inr (inr (inr e))))) = e

module _ (i : Input) where
  -- ---- no test applies exactly when all is within the limits
  tests-exactly : ((WordsWithin i.words × (SpansWithin i.spans × (length i.samples ≤ 57600000)))
      × ((frames i.samples ≤ length i.levels) × ((need (frames i.samples) ≤ min (length i.piece_starts) (length i.piece_ends))
      × ((count i.words ≤ length i.phrases) × (count i.words ≤ i.work))))) ↔ NoneApplies (in_order (run_applies i))
  unfolding run_applies
  tests-exactly =
      also-exactly _ _ (also-exactly _ _ (words-exactly i.words) (also-exactly _ _ (spans-exactly i.spans) (samples-exactly (length i.samples))))
      (also-exactly _ _ (places-exactly (length i.levels) (frames i.samples))
      (also-exactly _ _ (places-exactly (min (length i.piece_starts) (length i.piece_ends)) (need (frames i.samples)))
      (also-exactly _ _ (places-exactly (length i.phrases) (count i.words)) (places-exactly i.work (count i.words)))))

  pub within-exactly : RunWithin i ↔ NoneApplies (in_order (run_applies i))
  within-exactly = (to, from)
    where
      to : RunWithin i → NoneApplies (in_order (run_applies i))
      to r = tests-exactly.0 (
        (r.words-within, (r.spans-within, r.few-samples)),
        (r.level-places, (omega (arith, r.start-places, r.end-places), (r.phrase-places, r.work-places))),
      )

      from : NoneApplies (in_order (run_applies i)) → RunWithin i
      from n =
          let t = tests-exactly.1 n in
          record {
            words-within = t.0.0;
            spans-within = t.0.1.0;
            few-samples = t.0.1.1;
            level-places = t.1.0;
            start-places = omega (arith, t.1.1.0);
            end-places = omega (arith, t.1.1.0);
            phrase-places = t.1.1.1.0;
            work-places = t.1.1.1.1;
          }

  -- ---- the run by what the tests find, and what it says
  pub run_by : {rule : Rule} → chain (run_applies i) ≡ rule → full_run i ≡ by_rule rule i
  unfolding full_run
  run_by e = ap (λ (r : Rule). by_rule r i) e

  rule-says : (r : Rule) → says (by_rule r i).answer ≡ says_of (report_of (floor (levels i.samples)) (run_of i)) r
  rule-says (Ok u) = refl
  rule-says (Err why) = refl

  said-fine : (r : Report) → says (full_run i).answer ≡ accepts r → chain (run_applies i) ≡ Ok tt
  unfolding full_run
  said-fine r = go (chain (run_applies i)) where
    go : (t : Rule) → says (by_rule t i).answer ≡ accepts r → t ≡ Ok tt
    go (Ok u) h = refl
    go (Err why) h = apart (sym h)

  listed : Listed (3 ∷ 4 ∷ 1 ∷ 2 ∷ 6 ∷ []) (in_order (run_applies i))
  unfolding in_order run_applies of_places of_spans of_samples of_words also when
  listed = (inr (inl refl), (inr (inr (inl refl)), (inr (inr (inr (inl refl))), (inr (inr (inr (inr (inl refl)))), (inl refl, (inr (inr (inr (inr (inr (inl refl))))), (inl refl, tt)))))))

  pub fine : RunWithin i → chain (run_applies i) ≡ Ok tt
  unfolding chain
  fine w = none-fine (in_order (run_applies i)) (within-exactly.0 w)

  pub within : chain (run_applies i) ≡ Ok tt → RunWithin i
  unfolding chain
  within h = within-exactly.1 (fine-none (in_order (run_applies i)) h)

  -- ---- Accepted, with the report, exactly when all is within the limits and the places suffice; refused with n exactly when n is the first that applies, of 3, 4, 1, 2, 6.
  pub answers : Judged (RunWithin i) (3 ∷ 4 ∷ 1 ∷ 2 ∷ 6 ∷ []) (in_order (run_applies i)) (report_of (floor (levels i.samples)) (run_of i)) (says (full_run i).answer)
  unfolding full_run chain
  answers = judged (report_of (floor (levels i.samples)) (run_of i)) within-exactly listed (rule-says (chain (run_applies i)))

  pub accepted-exactly : RunWithin i ↔ (says (full_run i).answer ≡ accepts (report_of (floor (levels i.samples)) (run_of i)))
  accepted-exactly = answers.accepted-exactly

  pub refused-exactly : (n : ℕ) → First n (in_order (run_applies i)) ↔ (says (full_run i).answer ≡ refuses n)
  refused-exactly = answers.refused-exactly

  -- ---- Accepted, all is as the run on the recording gives it.
  pub accepted-leaves : RunWithin i → full_run i ≡ accepted i (run_of i)
  accepted-leaves w = run_by (fine w)

  -- ---- And it is then alone that a report is given.
  pub accepted-answer : ((r : Report) × (says (full_run i).answer ≡ accepts r)) ↔ RunWithin i
  accepted-answer = (λ h. within (said-fine h.0 h.1), λ w. (_, accepted-exactly.0 w))

  -- ---- A refusal changes nothing: words, phrase places, and the places of levels and pieces are as they were.
  pub refusal-changes-nothing : (n : ℕ) → says (full_run i).answer ≡ refuses n → full_run i ≡ output (full_run i).answer i.words i.phrases i.levels i.piece_starts i.piece_ends
  unfolding full_run
  refusal-changes-nothing n = go (chain (run_applies i)) where
    go : (t : Rule) → says (by_rule t i).answer ≡ refuses n → by_rule t i ≡ output (by_rule t i).answer i.words i.phrases i.levels i.piece_starts i.piece_ends
    go (Ok u) h = apart h
    go (Err why) h = refl

  -- ---- Every cut of a run that is accepted lies at least 1,203 frames beyond its piece's start, whatever the samples hold.
  pub pieces-apart : (r : Report) → says (full_run i).answer ≡ accepts r → CutsApart r.pieces (full_run i).piece_starts (full_run i).piece_ends
  unfolding run_of run_on
  pieces-apart r h =
      let w = within (said-fine r h) in
      let same : ◌≡◌ {A = Says Report} (accepts r) (accepts (report_of (floor (levels i.samples)) (run_of i))) = sym h ∙ accepted-exactly.0 w in
      let is : r ≡ report_of (floor (levels i.samples)) (run_of i) = cc in
      rw (is, accepted-leaves w) (pieces-over-apart (quiet_row (floor (levels i.samples)) (levels i.samples)) (length i.samples) i.piece_starts i.piece_ends)

  -- ---- 7 and 8 cannot arise: they are not among the numbers listed.
  pub never-7 : says (full_run i).answer ≡ refuses 7 → ⊥
  never-7 h = unlisted 7 (λ e. omega (arith, e)) (λ e. omega (arith, e)) (λ e. omega (arith, e)) (λ e. omega (arith, e)) (λ e. omega (arith, e)) (answers.refused-among 7 h)

  pub never-8 : says (full_run i).answer ≡ refuses 8 → ⊥
  never-8 h = unlisted 8 (λ e. omega (arith, e)) (λ e. omega (arith, e)) (λ e. omega (arith, e)) (λ e. omega (arith, e)) (λ e. omega (arith, e)) (answers.refused-among 8 h)

-- ---- And need not be tested: the run makes its own levels, as many as samples / 160, and no cut of its pieces is stuck.
pub own-levels : (xs : List Float) → other_levels (length (levels xs)) (length xs) ≡ false
own-levels xs = rw (eq-eqb (length (levels xs)) (frames xs) (length-levels xs))

pub own-cuts : (floor : Float) (ls : List Float) (samples : ℕ) → (walked (quiet_row floor ls) samples).stuck ≡ false
own-cuts floor ls samples = never_stuck (quiet_row floor ls) samples
