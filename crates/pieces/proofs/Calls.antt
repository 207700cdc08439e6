-- The public call in plain words: it accepts exactly when all is within the limits, refuses exactly with the first refusal that applies, of 4, 7, 6, never with 8, and a refusal
-- changes no place. What an accepted call leaves has every cut 1,203 frames or more beyond its piece's start. By reading what each check found. With one computed input for each
-- answer, and one of NaN levels. Assumes nothing.
use Rattle.std.specs.Prelude.{Ok, Err}
use Prim.Native.Nat.{ℕ, ◌/◌, ◌≤◌, ◌<◌}
use mathlib.Core.Bool.{not, ◌||◌}
use mathlib.Core.List.{List, [], ◌∷◌}
use mathlib.Core.Path.{◌≡◌, refl, sym, ap, ◌∙◌}
use mathlib.Core.Logic.{◌↔◌, ◌⊎◌, inl, inr}
use native.Mathlib.Omega.{arith}
use borrow.Author.Tests.{ltb-true, ltb-false, lt-ltb, le-ltb, eqb-true, eqb-false, eq-eqb, ne_eqb, not-true, not-false}
use lib.Dec.{eqb}
use lib.ListN.{length, replicate, length-replicate}
use lib.Ieee.{Float, nan}
use Rattle.base.specs.Loop.{run}
use Rattle.base.specs.Refusals.{Test, test, first, NoneApplies, First, Says, accepts, refuses, Among, Judged, says_of, Listed, Rule, says}
use Rattle.base.specs.declared.Refusal.TheVariants.{Counts, Places, Levels, Cut}
use Rattle.base.proofs.First.{apart, none-fine, fine-none, judged, first-exactly}
use Rattle.limits.specs.Limits.{many_samples, other_levels, few_places}
use Rattle.envelope.specs.Envelope.{zero_f, quiet_row}
use Rattle.pieces.specs.Pieces.{Piece, pieces, piece_count, need, piece_turn, walked, Ready, tests, Output, output, accepted, by_rule, pieces_call, CutsApart}
use Rattle.pieces.proofs.Cuts.{nan-levels-cut}
use Rattle.pieces.proofs.Walk.{pieces-left, left_far, left_near, never_stuck, pieces-over-apart, piece_count-is}
use Rattle.pieces.proofs.Passes.{quiet-length}
use Rattle.pieces.proofs.Rules.{short-exactly, fine-ready, ready-fine}

module _ (levels : List Float) (floor : Float) (count : ℕ) (s e : List ℕ) where
  abbrev call : Output
  call = pieces_call levels floor count s e

  abbrev found : List Piece
  found = pieces (quiet_row floor levels) count

  abbrev rule : Rule
  rule = first (tests levels floor count (length s) (length e))

  -- no test applies exactly when all is within the limits
  within-exactly : Ready (length levels) count (length s) (length e) ↔ NoneApplies (tests levels floor count (length s) (length e))
  within-exactly = (
    λ r. fine-none (tests levels floor count (length s) (length e)) (ready-fine levels floor count (length s) (length e) r),
    λ n. fine-ready levels floor count (length s) (length e) (none-fine (tests levels floor count (length s) (length e)) n),
  )

  listed : Listed (4 ∷ 7 ∷ 6 ∷ []) (tests levels floor count (length s) (length e))
  unfolding tests
  listed = (inr (inl refl), (inr (inr (inl refl)), (inr (inr (inr (inl refl))), (inl (never_stuck (quiet_row floor levels) count), tt))))

  -- what is said, by what the checks find
  rule-says : (r : Rule) → says (by_rule r found s e).answer ≡ says_of (length found) r
  rule-says (Ok u) = refl
  rule-says (Err q) = refl

  said-fine : (n : ℕ) → says call.answer ≡ accepts n → rule ≡ Ok tt
  unfolding pieces_call
  said-fine n = go rule where
    go : (r : Rule) → says (by_rule r found s e).answer ≡ accepts n → r ≡ Ok tt
    go (Ok u) h = refl
    go (Err q) h = apart (sym h)

  -- ---- Accepted, with the number of pieces, exactly when all is within the limits; refused with n exactly when n is the first that applies, of 4, 7, 6.
  pub answers : Judged (Ready (length levels) count (length s) (length e)) (4 ∷ 7 ∷ 6 ∷ []) (tests levels floor count (length s) (length e)) (length found) (says call.answer)
  unfolding pieces_call
  answers = judged (length found) within-exactly listed (rule-says rule)

  pub accepted-exactly : Ready (length levels) count (length s) (length e) ↔ (says call.answer ≡ accepts (length found))
  accepted-exactly = answers.accepted-exactly

  pub refused-exactly : (n : ℕ) → First n (tests levels floor count (length s) (length e)) ↔ (says call.answer ≡ refuses n)
  refused-exactly = answers.refused-exactly

  -- ---- The three refusals in plain words.
  abbrev samples-test : Test
  samples-test = test (many_samples count) Counts

  abbrev levels-test : Test
  levels-test = test (other_levels (length levels) count) Levels

  abbrev places-test : Test
  places-test = test (few_places (length s) (need (length levels)) || few_places (length e) (need (length levels))) Places

  -- 8, tested last: it never applies
  abbrev cut-test : Test
  cut-test = test (walked (quiet_row floor levels) count).stuck Cut

  -- 4: too many samples
  pub refused-4-exactly : (57600000 < count) ↔ (says call.answer ≡ refuses 4)
  unfolding tests
  refused-4-exactly =
      let f = first-exactly [] samples-test (levels-test ∷ places-test ∷ cut-test ∷ []) tt (λ h. omega (arith, h), (λ h. omega (arith, h), (λ h. omega (arith, h), tt))) in (
        λ h. (refused-exactly 4).0 (f.0 (tt, lt-ltb 57600000 count h)),
        λ a. ltb-true 57600000 count (f.1 ((refused-exactly 4).1 a)).1,
      )

  -- 7: not too many, and the number of levels isn't samples / 160, rounded down
  pub refused-7-exactly : ((count ≤ 57600000) × (length levels ≡ count / 160 → ⊥)) ↔ (says call.answer ≡ refuses 7)
  unfolding tests
  refused-7-exactly =
      let f = first-exactly (samples-test ∷ []) levels-test (places-test ∷ cut-test ∷ []) (λ h. omega (arith, h), tt) (λ h. omega (arith, h), (λ h. omega (arith, h), tt)) in (
        λ h. (refused-exactly 7).0 (f.0 ((le-ltb 57600000 count h.0, tt), ap not (ne_eqb (length levels) (count / 160) h.1))),
        λ a. (
            let n = f.1 ((refused-exactly 7).1 a) in
            (ltb-false 57600000 count n.0.0, eqb-false (length levels) (count / 160) (not-true (eqb (length levels) (count / 160)) n.1))
            ),
      )

  -- 6: neither of these, and too few places in either list
  pub refused-6-exactly : ((count ≤ 57600000) × ((length levels ≡ count / 160) × ((length s < need (length levels)) ⊎ (length e < need (length levels)))))
      ↔ (says call.answer ≡ refuses 6)
  unfolding tests
  refused-6-exactly =
      let f = first-exactly (samples-test ∷ levels-test ∷ []) places-test (cut-test ∷ []) (λ h. omega (arith, h), (λ h. omega (arith, h), tt)) (λ h. omega (arith, h), tt) in
      let short = short-exactly (length s) (length e) (need (length levels)) in (
        λ h. (refused-exactly 6).0 (f.0 ((le-ltb 57600000 count h.0, (ap not (eq-eqb (length levels) (count / 160) h.1.0), tt)), short.0 h.1.1)),
        λ a. (
            let n = f.1 ((refused-exactly 6).1 a) in
            (ltb-false 57600000 count n.0.0, (eqb-true (length levels) (count / 160) (not-false (eqb (length levels) (count / 160)) n.0.1.0), short.1 n.1))
            ),
      )

  -- ---- Accepted, the pieces stand over the places.
  pub accepted-leaves : Ready (length levels) count (length s) (length e) → call ≡ accepted found s e
  unfolding pieces_call
  accepted-leaves r = ap (λ (t : Rule). by_rule t found s e) (ready-fine levels floor count (length s) (length e) r)

  -- ---- And whatever number is given is that of the pieces, which does not depend on the sample count.
  pub accepted-count : (n : ℕ) → says call.answer ≡ accepts n → n ≡ piece_count (quiet_row floor levels)
  accepted-count n h =
      let r = fine-ready levels floor count (length s) (length e) (said-fine n h) in
      let a : ◌≡◌ {A = Says ℕ} (accepts n) (accepts (length found)) = sym h ∙ accepted-exactly.0 r in
      cc (piece_count-is (quiet_row floor levels) count)

  -- ---- "every cut lies at least 1,203 frames beyond its piece's start, also with NaN levels": of what an accepted call leaves in its places, whatever
  -- the levels and the floor hold.
  pub pieces-apart : (n : ℕ) → says call.answer ≡ accepts n → CutsApart n call.starts call.ends
  pieces-apart n h =
      let left = accepted-leaves (fine-ready levels floor count (length s) (length e) (said-fine n h)) in
      let many = accepted-count n h ∙ sym (piece_count-is (quiet_row floor levels) count) in
      rw (many, left) (pieces-over-apart (quiet_row floor levels) count s e)

  -- ---- A refusal changes no place.
  pub refusal-keeps : (n : ℕ) → says call.answer ≡ refuses n → (call.starts ≡ s) × (call.ends ≡ e)
  unfolding pieces_call
  refusal-keeps n = go rule where
    go : (r : Rule) → says (by_rule r found s e).answer ≡ refuses n → ((by_rule r found s e).starts ≡ s) × ((by_rule r found s e).ends ≡ e)
    go (Ok u) h = apart h
    go (Err q) h = (refl, refl)

  -- ---- 8 is tested last, and cannot arise.
  pub never-8 : says call.answer ≡ refuses 8 → ⊥
  never-8 h = go (answers.refused-among 8 h) where
    go : Among 8 (4 ∷ 7 ∷ 6 ∷ []) → ⊥
    go (inl e) = omega (arith, e)
    go (inr (inl e)) = omega (arith, e)
    go (inr (inr (inl e))) = omega (arith, e)
    go (inr (inr (inr e))) = e

-- ---- One input for each answer. A frame of silence and 5 samples more: one piece, and a place that stays.
accepts-one : pieces_call (zero_f ∷ []) zero_f 165 (7 ∷ 8 ∷ []) (7 ∷ 8 ∷ []) ≡ output (Ok 1) (0 ∷ 8 ∷ []) (165 ∷ 8 ∷ [])
unfolding pieces_call first tests need walked pieces piece_turn run quiet_row
accepts-one = refl

refuses-4 : pieces_call [] zero_f 57600001 (7 ∷ []) (7 ∷ []) ≡ output (Err Counts) (7 ∷ []) (7 ∷ [])
unfolding pieces_call first tests
refuses-4 = refl

refuses-7 : pieces_call [] zero_f 160 (7 ∷ []) (7 ∷ []) ≡ output (Err Levels) (7 ∷ []) (7 ∷ [])
unfolding pieces_call first tests
refuses-7 = refl

refuses-6 : pieces_call (zero_f ∷ []) zero_f 160 (7 ∷ []) [] ≡ output (Err Places) (7 ∷ []) []
unfolding pieces_call first tests need
refuses-6 = refl

-- ---- 2,001 NaN levels, under any floor: no frame is quiet, so the first piece has 2,000 frames, and the second is the rest.
nan-pieces : (floor : Float) → pieces (quiet_row floor (replicate 2001 nan)) 320160 ≡ record { start = 0; end = 320000 } ∷ record { start = 320000; end = 320160 } ∷ []
nan-pieces floor =
    let row = quiet_row floor (replicate 2001 nan) in
    let many : length row ≡ 2001 = quiet-length floor (replicate 2001 nan) ∙ length-replicate 2001 nan in
    pieces-left row 320160 ∙ left_far row 320160 0 (omega (arith, many))
    ∙ rw (nan-levels-cut floor) (ap (λ (ps : List Piece). record { start = 0; end = 320000 } ∷ ps) (left_near row 320160 2000 (omega (arith, many)) (omega (arith, many))))

nan-levels : (floor : Float) → pieces_call (replicate 2001 nan) floor 320160 (7 ∷ 8 ∷ 9 ∷ []) (7 ∷ 8 ∷ 9 ∷ []) ≡ output (Ok 2) (0 ∷ 320000 ∷ 9 ∷ []) (320000 ∷ 320160 ∷ 9 ∷ [])
unfolding need
nan-levels floor =
    accepted-leaves (replicate 2001 nan) floor 320160 (7 ∷ 8 ∷ 9 ∷ []) (7 ∷ 8 ∷ 9 ∷ [])
    (rw (length-replicate 2001 nan) (record { few = omega arith; all = refl; from = omega arith; to = omega arith }))
    ∙ ap (λ (ps : List Piece). accepted ps (7 ∷ 8 ∷ 9 ∷ []) (7 ∷ 8 ∷ 9 ∷ [])) (nan-pieces floor)
