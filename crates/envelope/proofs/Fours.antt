-- Four neighbouring frames at a time: the frames of a part of 640 samples are four frames of the recording, each of their sums takes one sample
-- more in a turn, and four stores are four turns. Assumes nothing.
use Rattle.std.proofs.Common.{◌≡◌, ℕ, zero, suc, ◌+◌, ◌-◌, ◌*◌, ◌<◌, ◌≤◌, Bool, true, not, T, List, [], ◌∷◌, length, get_or, take, drop, set, sym, refl, ap, ◌∙◌, arith, length-drop, length-take, get_or-drop, get_or-take, take-take, drop-drop}
use lib.Ieee.{Float, binary64, div, is_nan, nan}
use Rattle.base.specs.Loop.{each, fold}
use Rattle.base.proofs.Loops.{fold_next, fold_done}
use Rattle.roots.specs.Sqrt.{sqrt}
use Rattle.envelope.specs.Envelope.{hop, hop_f, zero_f, plus_square, squares, level, frame}
use Rattle.envelope.specs.Parts.{Summed, stored}
use Rattle.envelope.specs.declared.level.Four.{Four}

-- ---- The search for a NaN: where none was met, none of the first i samples is one
pub record Clean (samples : List Float) (i : ℕ) (ok : Bool) : Type 0 where
  pub none : ok ≡ true → (k : ℕ) → k < i → T (not (is_nan (get_or samples k nan)))

-- ---- What is left of frame j's sum, from sample i on, gives the whole.
pub record Left (part : List Float) (j i : ℕ) (e : Float) : Type 0 where
  pub whole : squares (frame part j) ≡ fold plus_square e (drop i (frame part j))

pub left-starts : (part : List Float) (j : ℕ) → Left part j 0 zero_f
unfolding squares
left-starts part j = record { whole = refl }

-- in a part of 640 samples
module _ (part : List Float) (long : length part ≡ 640) where
  frame-long : (j : ℕ) → j < 4 → length (frame part j) ≡ hop
  unfolding frame
  frame-long j h = simp (length-take, length-drop) (omega arith)

  frame_at : (j i : ℕ) → i < hop → get_or (frame part j) i nan ≡ get_or part (j * hop + i) nan
  unfolding frame
  frame_at j i h = get_or-take hop (drop (j * hop) part) i nan h ∙ get_or-drop (j * hop) part i nan

  pub left-next : (j i at : ℕ) {e : Float} → j < 4 → i < hop → at ≡ j * hop + i → Left part j i e → Left part j (i + 1) (plus_square e (get_or part at nan))
  left-next j i at {e} h l a p =
      record {
        whole = p.whole ∙ fold_next plus_square (frame part j) i nan (omega (arith, frame-long j h)) (ap (λ (x : Float). plus_square e x) (ap (λ (k : ℕ). get_or part k nan) a ∙ sym (frame_at j i l)));
      }

  pub left-done : (j i : ℕ) {e : Float} → j < 4 → hop ≤ i → Left part j i e → e ≡ squares (frame part j)
  left-done j i {e} h l p = sym (p.whole ∙ fold_done plus_square (frame part j) i e (omega (arith, frame-long j h)))

-- a part of what is taken is a part of the whole
take-drop-take : (m n p : ℕ) (xs : List Float) → n + m ≤ p → take m (drop n (take p xs)) ≡ take m (drop n xs)
take-drop-take m zero p xs h = take-take m p xs (omega arith)
take-drop-take m (suc n) zero xs h = absurd (omega arith)
take-drop-take m (suc n) (suc p) [] h = refl
take-drop-take m (suc n) (suc p) (x ∷ xs) h = take-drop-take m n p xs (omega arith)

-- ---- The frames of the part that is lent at frame k are four frames of the recording.
part-frames : (samples : List Float) (k j : ℕ) → j < 4 → frame (take (k * hop + 640 - k * hop) (drop (k * hop) samples)) j ≡ frame samples (k + j)
unfolding frame
part-frames samples k j h =
    let e : k * hop + 640 - k * hop ≡ 640 = omega arith in
    let t : (k + j) * hop ≡ k * hop + j * hop = omega arith in
    rw (e, t) (take-drop-take hop (j * hop) 640 (drop (k * hop) samples) (omega arith) ∙ ap (take hop) (drop-drop (j * hop) (k * hop) samples))

-- the root of the mean of such a frame's squares is its level
four-level : (samples : List Float) (k j n : ℕ) {v sum : Float} → j < 4 → n ≡ k + j → sum ≡ squares (frame (take (k * hop + 640 - k * hop) (drop (k * hop) samples)) j)
    → v ≡ sqrt binary64 (div binary64 sum hop_f) → v ≡ level (frame samples n)
unfolding level
four-level samples k j n h e s r =
    r ∙ ap (λ (x : Float). sqrt binary64 (div binary64 x hop_f)) (s ∙ ap squares (part-frames samples k j h ∙ ap (frame samples) (sym e)))

-- ---- Four stores are four turns.
pub four-stored : (samples places : List Float) (k : ℕ) {sums : Four} {a b c d : Float} → Summed (take (k * hop + 640 - k * hop) (drop (k * hop) samples)) sums
    → a ≡ sqrt binary64 (div binary64 sums.first hop_f) → b ≡ sqrt binary64 (div binary64 sums.second hop_f)
    → c ≡ sqrt binary64 (div binary64 sums.third hop_f) → d ≡ sqrt binary64 (div binary64 sums.fourth hop_f)
    → set (set (set (set places k a) (k + 1) b) (k + 2) c) (k + 3) d ≡ each (stored samples) 4 k places
unfolding each
four-stored samples places k {sums} {a} {b} {c} {d} s p q r t =
    let one : k + 1 ≡ suc k = omega arith in
    let two : k + 2 ≡ suc (suc k) = omega arith in
    let three : k + 3 ≡ suc (suc (suc k)) = omega arith in
    rw (
      one,
      two,
      three,
      four-level samples k 0 k (omega arith) (omega arith) s.first p,
      four-level samples k 1 (suc k) (omega arith) (omega arith) s.second q,
      four-level samples k 2 (suc (suc k)) (omega arith) (omega arith) s.third r,
      four-level samples k 3 (suc (suc (suc k))) (omega arith) (omega arith) s.fourth t,
    )
