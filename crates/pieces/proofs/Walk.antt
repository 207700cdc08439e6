-- The walk over the pieces. No cut is stuck, so refusal 8 never arises; there are no more turns than frames; the pieces need no more places than
-- `need` says; each but the last is 1,203 frames long or longer, and the next starts at its end; and their number does not depend on the sample
-- count. By one idea: the walk adds, to the pieces so far, those that are left from where it stands. Assumes nothing.
use Prim.Native.Nat.{ℕ, zero, suc, ◌+◌, ◌-◌, ◌*◌, ◌<◌, ◌≤◌}
use mathlib.Core.Bool.{Bool, true, false, cond, ◌||◌}
use mathlib.Core.List.{List, [], ◌∷◌, ◌++◌, map, append-nil, append_assoc}
use mathlib.Core.Path.{◌≡◌, refl, sym, ap, ◌∙◌}
use native.Mathlib.Omega.{arith}
use native.Mathlib.Nat.{sub-zero}
use borrow.Author.Tests.{ltb-true, ltb-false, leb-true, leb-false, lt-ltb, le-ltb, le-leb, lt-leb, ne_eqb}
use lib.Dec.{leb, ltb}
use lib.IntN.{ℤ, pos, suc_ℤ}
use lib.ListN.{length, get_or}
use Rattle.base.specs.Loop.{Turn, on, out, run}
use Rattle.base.proofs.Loops.{run_out}
use Rattle.envelope.specs.Envelope.{hop}
use Rattle.pieces.specs.Pieces.{max_frames, cut, Piece, State, push, last, piece_turn, walked, pieces, piece_count, need, over, least_cut, CutsApart}
use Rattle.pieces.proofs.Cuts.{cut-beyond}

or_no : (b : Bool) {c : Bool} → c ≡ false → (b || c) ≡ b
or_no true e = refl
or_no false e = e

-- a piece needs a place, and 1,203 frames more need one more
need-one : (frames : ℕ) → 0 < frames → 1 ≤ need frames
unfolding need
need-one frames h = rw (ne_eqb frames 0 (omega arith)) (omega arith)

need-more : (n less frames : ℕ) → n ≤ need less → less + 1203 ≤ frames → 0 < frames → suc n ≤ need frames
unfolding need
need-more n zero frames h l some = rw (ne_eqb frames 0 (omega arith)) (omega arith)
need-more n (suc less) frames h l some = let k = rw (ne_eqb (suc less) 0 (omega arith)) at h in rw (ne_eqb frames 0 (omega arith)) (omega arith)

-- one piece, or none, has no cut; pieces stay apart with one more before them that is long enough and ends where they start
apart_none : (n : ℕ) (s e : List ℕ) → n ≤ 1 → CutsApart n s e
apart_none n s e h = record { beyond = λ i l. absurd (omega (arith, h, l)); next = λ i l. absurd (omega (arith, h, l)) }

apart_more : (n start end : ℕ) (s e : List ℕ) → start + least_cut * hop ≤ end → (1 ≤ n → get_or s 0 0 ≡ end) → CutsApart n s e → CutsApart (suc n) (start ∷ s) (end ∷ e)
apart_more n start end s e long joined a = record { beyond = beyond; next = next } where
  beyond : (i : ℕ) → i + 1 < suc n → get_or (start ∷ s) i 0 + least_cut * hop ≤ get_or (end ∷ e) i 0
  beyond zero h = long
  beyond (suc i) h = a.beyond i (omega (arith, h))

  next : (i : ℕ) → i + 1 < suc n → get_or (start ∷ s) (i + 1) 0 ≡ get_or (end ∷ e) i 0
  next zero h = joined (omega (arith, h))
  next (suc i) h = let z : suc i + 1 ≡ suc (i + 1) = omega arith in rw z (a.next i (omega (arith, h)))

-- ---- Where a walk stands: past all frames, with 2,000 or fewer left, or with more.
data Place (frames from : ℕ) : Type 0 where
  past : frames ≤ from → Place frames from
  near : from < frames → frames - from ≤ max_frames → Place frames from
  far : from + max_frames < frames → Place frames from

place : (frames from : ℕ) → Place frames from
place frames from = go (ltb from frames) (leb (frames - from) max_frames) refl refl where
  go : (a b : Bool) → ltb from frames ≡ a → leb (frames - from) max_frames ≡ b → Place frames from
  go false b e f = past (ltb-false from frames e)
  go true true e f = near (ltb-true from frames e) (leb-true (frames - from) max_frames f)
  go true false e f = let l = leb-false (frames - from) max_frames f in far (omega arith)

module _ (row : List Bool) where
  -- the piece from a frame to its cut
  abbrev pub inner : ℕ → Piece
  inner from = record { start = from * hop; end = cut row from * hop }

  module _ (count : ℕ) where
    abbrev pub final : ℕ → Piece
    final from = record { start = from * hop; end = count }

    turn-past : (s : State) → length row ≤ s.from → piece_turn row count s ≡ out s
    unfolding piece_turn
    turn-past s h = rw (le-ltb s.from (length row) h)

    turn_near : (s : State) → s.from < length row → length row - s.from ≤ max_frames → piece_turn row count s ≡ out (last count s)
    unfolding piece_turn
    turn_near s h l = rw (lt-ltb s.from (length row) h, le-leb (length row - s.from) max_frames l)

    turn-far : (s : State) → s.from + max_frames < length row → piece_turn row count s ≡ on (push s (inner s.from) (cut row s.from))
    unfolding piece_turn
    turn-far s h = rw (lt-ltb s.from (length row) (omega arith), lt-leb (length row - s.from) max_frames (omega arith))

    -- ---- The pieces from a frame on, in at most n turns.
    unfoldable rest : ℕ → ℕ → List Piece
    rest zero from = []
    rest (suc n) from =
        cond (ltb from (length row)) (cond (leb (length row - from) max_frames) (final from ∷ []) (inner from ∷ rest n (cut row from))) []

    rest-past : (n from : ℕ) → length row ≤ from → rest n from ≡ []
    unfolding rest
    rest-past zero from h = refl
    rest-past (suc n) from h = rw (le-ltb from (length row) h)

    rest-near : (n from : ℕ) → from < length row → length row - from ≤ max_frames → rest (suc n) from ≡ final from ∷ []
    unfolding rest
    rest-near n from h l = rw (lt-ltb from (length row) h, le-leb (length row - from) max_frames l)

    rest-far : (n from : ℕ) → from + max_frames < length row → rest (suc n) from ≡ inner from ∷ rest n (cut row from)
    unfolding rest
    rest-far n from h = rw (lt-ltb from (length row) (omega arith), lt-leb (length row - from) max_frames (omega arith))

    abbrev walk : ℕ → ℤ → Turn State → State
    walk n k t = run (λ (k : ℤ). piece_turn row count) n k t

    walk-out : (n : ℕ) (k : ℤ) (s : State) → walk n k (out s) ≡ s
    walk-out n k s = run_out (λ (k : ℤ). piece_turn row count) n k s

    walk-rest : (n : ℕ) (k : ℤ) (s : State) → (walk n k (on s)).pieces ≡ s.pieces ++ rest n s.from
    unfolding run rest
    walk-rest zero k s = sym (append-nil s.pieces)
    walk-rest (suc n) k s = go (place (length row) s.from) (walk-rest n (suc_ℤ k)) where
      go : Place (length row) s.from → ((t : State) → (walk n (suc_ℤ k) (on t)).pieces ≡ t.pieces ++ rest n t.from)
          → (walk n (suc_ℤ k) (piece_turn row count s)).pieces ≡ s.pieces ++ rest (suc n) s.from
      go (past h) later =
          rw (turn-past s h, rest-past (suc n) s.from h) (ap (λ (t : State). t.pieces) (walk-out n (suc_ℤ k) s) ∙ sym (append-nil s.pieces))
      go (near h l) later = rw (turn_near s h l, rest-near n s.from h l) (ap (λ (t : State). t.pieces) (walk-out n (suc_ℤ k) (last count s)))
      go (far h) later =
          rw (turn-far s h, rest-far n s.from h)
          (later (push s (inner s.from) (cut row s.from)) ∙ append_assoc s.pieces (inner s.from ∷ []) (rest n (cut row s.from)))

    walk-free : (n : ℕ) (k : ℤ) (s : State) → (walk n k (on s)).stuck ≡ s.stuck
    unfolding run
    walk-free zero k s = refl
    walk-free (suc n) k s = go (place (length row) s.from) (walk-free n (suc_ℤ k)) where
      go : Place (length row) s.from → ((t : State) → (walk n (suc_ℤ k) (on t)).stuck ≡ t.stuck) → (walk n (suc_ℤ k) (piece_turn row count s)).stuck ≡ s.stuck
      go (past h) later = rw (turn-past s h) (ap (λ (t : State). t.stuck) (walk-out n (suc_ℤ k) s))
      go (near h l) later = rw (turn_near s h l) (ap (λ (t : State). t.stuck) (walk-out n (suc_ℤ k) (last count s)))
      go (far h) later =
          let b = cut-beyond row s.from in
          rw (turn-far s h) (later (push s (inner s.from) (cut row s.from)) ∙ or_no s.stuck (lt-leb (cut row s.from) s.from (omega arith)))

    walk-past : (n : ℕ) (k : ℤ) (s : State) → length row ≤ s.from → walk n k (on s) ≡ s
    unfolding run
    walk-past zero k s h = refl
    walk-past (suc n) k s h = rw (turn-past s h) (walk-out n (suc_ℤ k) s)

    -- the loop ends by its own test: with enough turns, more turns change nothing
    walk-fuel : (n m : ℕ) (k l : ℤ) (s : State) → length row ≤ s.from + n → length row ≤ s.from + m → walk n k (on s) ≡ walk m l (on s)
    unfolding run
    walk-fuel zero m k l s p q = sym (walk-past m l s (omega arith))
    walk-fuel (suc n) zero k l s p q = walk-past (suc n) k s (omega arith)
    walk-fuel (suc n) (suc m) k l s p q = go (place (length row) s.from) (walk-fuel n m (suc_ℤ k) (suc_ℤ l)) where
      go : Place (length row) s.from
          → ((t : State) → length row ≤ t.from + n → length row ≤ t.from + m → walk n (suc_ℤ k) (on t) ≡ walk m (suc_ℤ l) (on t))
          → walk n (suc_ℤ k) (piece_turn row count s) ≡ walk m (suc_ℤ l) (piece_turn row count s)
      go (past h) later = rw (turn-past s h) (walk-out n (suc_ℤ k) s ∙ sym (walk-out m (suc_ℤ l) s))
      go (near h i) later = rw (turn_near s h i) (walk-out n (suc_ℤ k) (last count s) ∙ sym (walk-out m (suc_ℤ l) (last count s)))
      go (far h) later =
          let b = cut-beyond row s.from in
          rw (turn-far s h) (later (push s (inner s.from) (cut row s.from)) (omega arith) (omega arith))

    abbrev at : ℕ → State
    at from = record { pieces = []; from = from; stuck = false }

    rest-fuel : (n m from : ℕ) → length row ≤ from + n → length row ≤ from + m → rest n from ≡ rest m from
    rest-fuel n m from p q =
        sym (walk-rest n (pos 0) (at from))
        ∙ ap (λ (t : State). t.pieces) (walk-fuel n m (pos 0) (pos 0) (at from) p q) ∙ walk-rest m (pos 0) (at from)

    rest-needs : (n from : ℕ) → length (rest n from) ≤ need (length row - from)
    unfolding rest
    rest-needs zero from = omega arith
    rest-needs (suc n) from = go (place (length row) from) (rest-needs n (cut row from)) where
      go : Place (length row) from → length (rest n (cut row from)) ≤ need (length row - cut row from) → length (rest (suc n) from) ≤ need (length row - from)
      go (past h) later = rw (rest-past (suc n) from h) (omega arith)
      go (near h l) later = rw (rest-near n from h l) (need-one (length row - from) (omega arith))
      go (far h) later =
          let b = cut-beyond row from in
          rw (rest-far n from h) (need-more (length (rest n (cut row from))) (length row - cut row from) (length row - from) later (omega arith) (omega arith))

    -- the first of them starts there
    rest-starts : (n from : ℕ) (s : List ℕ) → 1 ≤ length (rest n from) → get_or (map (λ (p : Piece). p.start) (rest n from) ++ s) 0 0 ≡ from * hop
    unfolding rest
    rest-starts zero from s some = absurd (omega (arith, some))
    rest-starts (suc n) from s some = go (place (length row) from) where
      go : Place (length row) from → get_or (map (λ (p : Piece). p.start) (rest (suc n) from) ++ s) 0 0 ≡ from * hop
      go (past h) = absurd (let k = rw (rest-past (suc n) from h) at some in omega (arith, k))
      go (near h l) = rw (rest-near n from h l)
      go (far h) = rw (rest-far n from h)

    rest-apart : (n from : ℕ) (s e : List ℕ) → CutsApart (length (rest n from)) (map (λ (p : Piece). p.start) (rest n from) ++ s) (map (λ (p : Piece). p.end) (rest n from) ++ e)
    unfolding rest
    rest-apart zero from s e = apart_none 0 s e (omega arith)
    rest-apart (suc n) from s e = go (place (length row) from) (rest-apart n (cut row from) s e)
      where
        go : Place (length row) from
            → CutsApart (length (rest n (cut row from))) (map (λ (p : Piece). p.start) (rest n (cut row from)) ++ s) (map (λ (p : Piece). p.end) (rest n (cut row from)) ++ e)
            → CutsApart (length (rest (suc n) from)) (map (λ (p : Piece). p.start) (rest (suc n) from) ++ s) (map (λ (p : Piece). p.end) (rest (suc n) from) ++ e)
        go (past h) later = rw (rest-past (suc n) from h) (apart_none 0 s e (omega arith))
        go (near h l) later = rw (rest-near n from h l) (apart_none 1 (from * hop ∷ s) (count ∷ e) (omega arith))
        go (far h) later =
            let b = cut-beyond row from in
            rw (rest-far n from h)
            (apart_more (length (rest n (cut row from))) (from * hop) (cut row from * hop) _ _ (omega (arith, b)) (rest-starts n (cut row from) s) later)

    -- ---- The pieces that are left from a frame on.
    pub left : ℕ → List Piece
    left from = rest (length row - from) from

    pub left-past : (from : ℕ) → length row ≤ from → left from ≡ []
    unfolding left
    left-past from h = rest-past (length row - from) from h

    pub left_near : (from : ℕ) → from < length row → length row - from ≤ max_frames → left from ≡ final from ∷ []
    unfolding left
    left_near from h l = let z : length row - from ≡ suc (length row - suc from) = omega arith in rw z (rest-near (length row - suc from) from h l)

    pub left_far : (from : ℕ) → from + max_frames < length row → left from ≡ inner from ∷ left (cut row from)
    unfolding left
    left_far from h =
        let z : length row - from ≡ suc (length row - suc from) = omega arith in
        let b = cut-beyond row from in
        rw z (rest-far (length row - suc from) from h
        ∙ ap (λ (ps : List Piece). inner from ∷ ps) (rest-fuel (length row - suc from) (length row - cut row from) (cut row from) (omega arith) (omega arith)))

    pub left-some : (from : ℕ) → from < length row → 1 ≤ length (left from)
    left-some from h = go (place (length row) from) where
      go : Place (length row) from → 1 ≤ length (left from)
      go (past p) = absurd (omega arith)
      go (near p l) = rw (left_near from p l) (omega arith)
      go (far p) = rw (left_far from p) (omega arith)

    pub pieces-left : pieces row count ≡ left 0
    unfolding pieces walked left
    pieces-left = rw sub-zero (walk-rest (length row) (pos 0) (at 0))

    -- ---- What is promised of the walk.
    pub never_stuck : (walked row count).stuck ≡ false
    unfolding walked
    never_stuck = walk-free (length row) (pos 0) (at 0)

    pub pieces-over-apart : (s e : List ℕ)
        → CutsApart (length (pieces row count)) (over (map (λ (p : Piece). p.start) (pieces row count)) s) (over (map (λ (p : Piece). p.end) (pieces row count)) e)
    unfolding left
    pieces-over-apart s e = rw pieces-left (rest-apart (length row - 0) 0 _ _)

    pub fuel-suffices : (n : ℕ) → length row ≤ n
        → run (λ (k : ℤ). piece_turn row count) n (pos 0) (on (record { pieces = []; from = 0; stuck = false })) ≡ walked row count
    unfolding walked
    fuel-suffices n h = walk-fuel n (length row) (pos 0) (pos 0) (at 0) (omega arith) (omega arith)

    pub count-needs : length (pieces row count) ≤ need (length row)
    unfolding left
    count-needs = rw (pieces-left, sub-zero) (rw sub-zero at (rest-needs (length row) 0))

  rest-length : (c d n from : ℕ) → length (rest c n from) ≡ length (rest d n from)
  unfolding rest
  rest-length c d zero from = refl
  rest-length c d (suc n) from = go (ltb from (length row)) (leb (length row - from) max_frames) (rest-length c d n (cut row from)) where
    go : (a b : Bool) → length (rest c n (cut row from)) ≡ length (rest d n (cut row from))
        → length (cond a (cond b (final c from ∷ []) (inner from ∷ rest c n (cut row from))) [])
        ≡ length (cond a (cond b (final d from ∷ []) (inner from ∷ rest d n (cut row from))) [])
    go false b e = refl
    go true true e = refl
    go true false e = ap suc e

  pub piece_count-is : (count : ℕ) → length (pieces row count) ≡ piece_count row
  unfolding piece_count left
  piece_count-is count = rw (pieces-left count, pieces-left 0) (rest-length count 0 (length row - 0) 0)
