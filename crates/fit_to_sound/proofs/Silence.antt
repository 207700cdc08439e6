-- Silence between two times, and where a sound ends: the code looks at the frames that exist, and its count of quiet frames is the loop's. Assumes nothing.
use Rattle.std.specs.Prelude.{Option}
use Prim.Native.Nat.{ℕ, ◌+◌, ◌-◌, ◌<◌, ◌≤◌, min}
use mathlib.Core.Bool.{Bool, true, false}
use mathlib.Core.List.{List}
use mathlib.Core.Path.{◌≡◌, refl, sym, ap, ◌∙◌}
use native.Mathlib.Omega.{arith}
use borrow.Author.Tests.{le-leb, lt-leb}
use lib.IntN.{pos}
use lib.ListN.{get_or, length}
use lib.Ieee.{Float}
use Rattle.base.specs.Whole.{to_nat, min_z}
use Rattle.base.specs.Words.{end_silence}
use Rattle.base.specs.Loop.{on, out, run}
use Rattle.base.proofs.Loops.{min-nat, range-pos, range-end, run-start, run-next, run-stop, run-done}
use Rattle.frames.specs.Frames.{frame_at, frame_from_zero}
use Rattle.frames.proofs.Indices.{from_zero-nat}
use Rattle.envelope.specs.Envelope.{loud_row}
use Rattle.envelope.proofs.Scan.{length-row}
use Rattle.ends.specs.Ends.{last_loud, sound_end}
use Rattle.ends.proofs.SoundEnds.{last_loud-is}
use Rattle.fit_to_sound.specs.FitToSound.{sound_end_in, Quiet, quiet_turn, quiet_between, quiet_run}
use Rattle.fit_to_sound.specs.Parts.{counted}
use Rattle.fit_to_sound.proofs.Rise.{from_zero-pos}

-- the loop's state while it goes on
unfoldable pub running : ℕ → Quiet
running n = record { run = n; met = false }

module _ (row : List Bool) where
  turn_on : (k n : ℕ) {n' : ℕ} → n' ≡ counted (get_or row k false) n → n' < 15 → quiet_turn row (pos k) (running n) ≡ on (running n')
  unfolding counted running
  turn_on k n {n'} e h = go (get_or row k false) refl where
    go : (t : Bool) → get_or row k false ≡ t → quiet_turn row (pos k) (running n) ≡ on (running n')
    go true t = let z : n' ≡ 0 = rw t at e in rw (t, z)
    go false t = let z : n' ≡ n + 1 = rw t at e in rw (t, lt-leb 15 (n + 1) (omega arith), z)

  turn-out : (k n : ℕ) {n' : ℕ} → n' ≡ counted (get_or row k false) n → 15 ≤ n' → quiet_turn row (pos k) (running n) ≡ out (record { run = n'; met = true })
  unfolding counted running
  turn-out k n {n'} e h = go (get_or row k false) refl where
    go : (t : Bool) → get_or row k false ≡ t → quiet_turn row (pos k) (running n) ≡ out (record { run = n'; met = true })
    go true t = let z : n' ≡ 0 = rw t at e in absurd (omega arith)
    go false t = let z : n' ≡ n + 1 = rw t at e in rw (t, le-leb 15 (n + 1) (omega arith), z)

  pub quiet-starts : (lo hi : ℕ) → quiet_between row (pos lo) (pos hi) ≡ (run (quiet_turn row) (hi - lo) (pos lo) (on (running 0))).met
  unfolding quiet_between running
  quiet-starts lo hi = ap (λ (s : Quiet). s.met) (range-pos (quiet_turn row) lo hi (record { run = 0; met = false }))

  -- the search stands at frame k
  module _ {x : Bool} (hi k n : ℕ) (is : x ≡ (run (quiet_turn row) (hi - k) (pos k) (on (running n))).met) where
    module _ {b : Bool} {n' : ℕ} (h : k < hi) (eb : b ≡ get_or row k false) (en : n' ≡ counted b n) where
      one_more : n' ≡ counted (get_or row k false) n
      one_more = en ∙ ap (λ (t : Bool). counted t n) eb

      pub quiet_next : n' < 15 → x ≡ (run (quiet_turn row) (hi - (k + 1)) (pos (k + 1)) (on (running n'))).met
      quiet_next l = is ∙ ap (λ (s : Quiet). s.met) (run-next (quiet_turn row) hi k h (turn_on k n one_more l))

      pub quiet-met : 15 ≤ n' → true ≡ x
      quiet-met l = sym (is ∙ ap (λ (s : Quiet). s.met) (run-stop (quiet_turn row) hi k h (turn-out k n one_more l)))

    pub quiet-done : hi ≤ k → false ≡ x
    unfolding running
    quiet-done h = sym (is ∙ ap (λ (s : Quiet). s.met) (run-done (quiet_turn row) hi k (running n) h))

-- ---- between two times, where there are frames
module _ (floor : Float) (levels : List Float) (from to : Float) {lo hi : ℕ} (islo : lo ≡ to_nat (frame_at from)) (ishi : hi ≡ min (length levels) (to_nat (frame_at to))) where
  lo-is : lo ≡ to_nat (frame_from_zero from)
  lo-is = rw (from_zero-nat from) islo

  hi-is : hi ≡ min (length levels) (to_nat (frame_from_zero to))
  hi-is = rw (from_zero-nat to) ishi

  pub quiet_run-is : {r : Bool} → r ≡ quiet_between (loud_row floor levels) (pos lo) (pos hi) → r ≡ quiet_run (loud_row floor levels) from to
  unfolding quiet_run quiet_between
  quiet_run-is e =
      let row = loud_row floor levels in
      let top : to_nat (min_z (pos (length levels)) (frame_from_zero to)) ≡ hi = min-nat (length levels) (frame_from_zero to) ∙ sym hi-is in
      e ∙ ap (λ (s : Quiet). s.met) (range-pos (quiet_turn row) lo hi (record { run = 0; met = false })
      ∙ run-start (quiet_turn row) hi lo (to_nat (frame_at from)) (record { run = 0; met = false }) (omega arith))
      ∙ sym (rw (length-row floor levels, from_zero-pos from) (ap (λ (s : Quiet). s.met) (range-end (quiet_turn row) (to_nat (frame_at from)) (min_z (pos (length levels)) (frame_from_zero to)) (record { run = 0; met = false }))
      ∙ ap (λ (n : ℕ). (run (quiet_turn row) (n - to_nat (frame_at from)) (pos (to_nat (frame_at from))) (on (record { run = 0; met = false }))).met) top))

  pub sound_end_in-is : {r : Option Float} → r ≡ sound_end (last_loud end_silence (loud_row floor levels) (pos lo) (pos hi))
      → r ≡ sound_end_in (loud_row floor levels) from to
  unfolding sound_end_in
  sound_end_in-is e =
      let l = last_loud-is end_silence floor levels (frame_from_zero from) (frame_from_zero to) lo hi lo-is hi-is in
      e ∙ ap sound_end (sym l)
