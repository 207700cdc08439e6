-- snap_onsets lets a time grow by a sixty-fourth at most: an onset lies between the recording's start and the frame of the word's start, and so in size no
-- more than a frame, 0.01 s, beyond that start. Each start moves once. Assumes nothing.
use Prim.Native.Nat.{ℕ, zero, suc, ◌+◌, ◌<◌, ◌≤◌, ◌^◌}
use mathlib.Core.Bool.{Bool, true, false, cond, ◌&&◌}
use mathlib.Core.List.{List}
use mathlib.Core.Path.{◌≡◌, sym, subst}
use native.Mathlib.Omega.{arith}
use lib.IntN.{ℤ, pos, negsuc, pred_ℤ, nat_abs, ◌-ℤ◌, ◌+ℤ◌, -ℤ_one}
use lib.Dec.{leb, ltb}
use lib.ListN.{length, get_or, length-set}
use lib.Ieee.{Float, nan, lt}
use Rattle.base.specs.Whole.{to_nat, max_z}
use Rattle.base.specs.Loop.{on, out}
use Rattle.base.specs.Floats.{◌⊖◌}
use Rattle.base.specs.Words.{Edges, times, times_at, edge_quiet}
use Rattle.base.specs.declared.Times.{Times}
use Rattle.base.proofs.Loops.{Holds, back-holds, each_keeps, each_holds}
use Rattle.js.specs.Js.{js_min}
use Rattle.frames.specs.Frames.{frame_at, frame_ceil, frame_seconds}
use Rattle.envelope.specs.Envelope.{loud}
use Rattle.onsets.proofs.Starts.{end_stays}
use Rattle.onsets.specs.Onsets.{max_back, pause, Onset, back_turn, onset_frame, onset_of, prev_end, onset_turn, snap_onsets}
use Rattle.bounds.specs.Bounds.{Under, EdgesUnder}
use Rattle.bounds.proofs.Rounding.{under_more, min-under}
use Rattle.bounds.proofs.Seconds.{seconds-under, frame-size}
use Rattle.bounds.proofs.Stored.{set-each, set-under}

-- ---- the search goes back, and finds no frame below zero
module _ (row : List Bool) (n : ℕ) where
  turn_in : (k : ℤ) (s : Onset) → to_nat k ≤ n → nat_abs s.onset ≤ n → Holds (λ (s : Onset). nat_abs s.onset ≤ n) (back_turn row k s)
  turn_in (negsuc j) s q p = go (leb edge_quiet (s.quiet + 1))
    where
      go : (t : Bool) → Holds (λ (s : Onset). nat_abs s.onset ≤ n) (cond t (out (record { onset = s.onset; quiet = s.quiet + 1 })) (on (record { onset = s.onset; quiet = s.quiet + 1 })))
      go true = p
      go false = p
  turn_in (pos j) s q p = go (loud row (pos j)) (leb edge_quiet (s.quiet + 1))
    where
      go : (l t : Bool)
          → Holds (λ (s : Onset). nat_abs s.onset ≤ n) (cond l (on (record { onset = pos j; quiet = 0 })) (cond t (out (record { onset = s.onset; quiet = s.quiet + 1 })) (on (record { onset = s.onset; quiet = s.quiet + 1 }))))
      go true t = q
      go false true = p
      go false false = p

back_low : (n : ℕ) (k : ℤ) → to_nat k ≤ n → to_nat (pred_ℤ k) ≤ n
back_low n (pos zero) h = omega arith
back_low n (pos (suc j)) h = omega arith
back_low n (negsuc j) h = h

size-nat : (z : ℤ) → to_nat z ≤ nat_abs z
size-nat (pos j) = omega arith
size-nat (negsuc j) = omega arith

onset-size : (row : List Bool) (f stop : ℤ) → nat_abs (onset_frame row f stop) ≤ nat_abs f
unfolding onset_frame
onset-size row f stop =
    back-holds (back_turn row) (λ (s : Onset). nat_abs s.onset ≤ nat_abs f) (λ (k : ℤ). to_nat k ≤ nat_abs f) (turn_in row (nat_abs f)) (back_low (nat_abs f))
    (to_nat (f -ℤ pos 1 +ℤ pos 1 -ℤ stop)) (f -ℤ pos 1) (on (record { onset = f; quiet = 0 }))
    (rw (-ℤ_one f) (back_low (nat_abs f) f (size-nat f))) (omega arith)

-- ---- one word
module _ (row : List Bool) (b : ℕ) (B : b < 2 ^ 39) where
  onset-under : (i : ℕ) (prev_end : Float) (w : Times) → Under b w.start → Under (b + 1) (onset_of row i prev_end w).start
  unfolding onset_of
  onset-under i prev_end w h = go (ltb 0 i && lt (w.start ⊖ prev_end) pause)
    where
      more : Under (b + 1) w.start
      more = under_more 64 b (b + 1) w.start (omega arith) h

      found : ℤ
      found = onset_frame row (frame_at w.start) (max_z (frame_ceil prev_end) (frame_at w.start -ℤ pos max_back))

      small : nat_abs found ≤ nat_abs (frame_at w.start)
      small = onset-size row (frame_at w.start) (max_z (frame_ceil prev_end) (frame_at w.start -ℤ pos max_back))

      go : (t : Bool) → Under (b + 1) (cond t w (times (js_min w.start (frame_seconds found)) w.end)).start
      go true = more
      go false = min-under 64 (b + 1) w.start (frame_seconds found) more (seconds-under (b + 1) found (omega arith) (omega (arith, small, frame-size b w.start (omega arith) h)))

  -- ---- before turn i the starts from i on are as they were
  record Before (i : ℕ) (es : Edges) : Type 0 where
    starts : (j : ℕ) → j < length es.starts → (i ≤ j → Under b (get_or es.starts j nan)) × Under (b + 1) (get_or es.starts j nan)
    ends : (j : ℕ) → j < length es.ends → Under (b + 1) (get_or es.ends j nan)

  turn-under : (i : ℕ) (es : Edges) → Before i es → Before (suc i) (onset_turn row i es)
  unfolding onset_turn
  turn-under i es h = record {
    starts =
        set-each (λ (j : ℕ) (x : Float). (suc i ≤ j → Under b x) × Under (b + 1) x) es.starts i (onset_of row i (prev_end es.ends i) (times_at es i)).start
        (λ j l n. let g = h.starts j l in ((λ p. g.0 (omega arith)), g.1))
        (λ l. ((λ p. absurd (omega arith)), onset-under i (prev_end es.ends i) (times_at es i) ((h.starts i l).0 (omega arith))));
    ends =
        set-under 64 (b + 1) es.ends i (onset_of row i (prev_end es.ends i) (times_at es i)).end h.ends
        (λ l. subst (Under (b + 1)) (sym (end_stays row i (prev_end es.ends i) (times_at es i))) (h.ends i l));
  }

  -- ---- all words
  pub onsets-under : (es : Edges) → EdgesUnder b es → EdgesUnder (b + 1) (snap_onsets row es)
  unfolding snap_onsets
  onsets-under es u =
      let h = each_holds Before (onset_turn row) (length es.starts) (λ i s l p. turn-under i s p) (length es.starts) 0 es (omega arith) (record {
        starts = λ j l. ((λ p. u.starts j l), under_more 64 b (b + 1) (get_or es.starts j nan) (omega arith) (u.starts j l));
        ends = λ j l. under_more 64 b (b + 1) (get_or es.ends j nan) (omega arith) (u.ends j l);
      }) in
      record { starts = λ j l. (h.starts j l).1; ends = h.ends }

-- ---- and no list changes its length
pub onsets-long : (row : List Bool) (es : Edges) → (length (snap_onsets row es).starts ≡ length es.starts) × (length (snap_onsets row es).ends ≡ length es.ends)
unfolding snap_onsets onset_turn
onsets-long row es = (
  each_keeps (λ (s : Edges). length s.starts) (onset_turn row) (λ i s. length-set s.starts i (onset_of row i (prev_end s.ends i) (times_at s i)).start) (length es.starts) 0 es,
  each_keeps (λ (s : Edges). length s.ends) (onset_turn row) (λ i s. length-set s.ends i (onset_of row i (prev_end s.ends i) (times_at s i)).end) (length es.starts) 0 es,
)
