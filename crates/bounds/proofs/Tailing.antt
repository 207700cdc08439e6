-- hand_back_tails moves no time beyond the hour of the recording: a tail ends, and a word then starts, at a frame of the row, since the first search stops
-- at a frame that is not loud, and past the row none is. Assumes nothing.
use Prim.Native.Nat.{ℕ, zero, suc, ◌+◌, ◌-◌, ◌<◌, ◌≤◌}
use mathlib.Core.Bool.{Bool, true, false, cond, not, ◌&&◌, ◌||◌, true≢false}
use mathlib.Core.List.{List}
use mathlib.Core.Path.{◌≡◌, refl, sym, ◌∙◌}
use native.Mathlib.Omega.{arith}
use lib.IntN.{ℤ, pos, negsuc, nat_abs, ◌-ℤ◌, ◌+ℤ◌}
use lib.Dec.{ltb}
use lib.Signed.{lt_z}
use lib.ListN.{length, get_or, set, length-set}
use lib.Ieee.{Float, le}
use Rattle.base.specs.Whole.{to_nat}
use Rattle.base.specs.Loop.{on, run}
use Rattle.base.specs.Floats.{◌⊖◌, ◌⊗◌, num}
use Rattle.base.specs.Words.{Edges, times, times_at, edge_quiet, loose}
use Rattle.base.proofs.Loops.{run_out, each_keeps, each_holds}
use Rattle.js.specs.Js.{js_max}
use Rattle.frames.specs.Frames.{frame_at, frame_seconds}
use Rattle.envelope.specs.Envelope.{loud}
use Rattle.tails.specs.Tails.{min_letter, loud_turn, past_loud, Quiet, past_quiet, loud_before, own_sound, neighbours, hand_back, tail_turn, hand_back_tails}
use Rattle.tails.specs.declared.one_word.Neighbours.{Neighbours}
use Rattle.bounds.specs.Bounds.{Under, EdgesUnder, hour}
use Rattle.bounds.proofs.Rounding.{max-under}
use Rattle.bounds.proofs.Seconds.{hour-under}
use Rattle.bounds.proofs.Stored.{set-under, loud-in}

-- ---- from a loud frame the search stops in the row, or just past it
module _ (row : List Bool) where
  run_in : (n j : ℕ) → j ≤ length row → nat_abs (run (loud_turn row) n (pos j) (on (pos j))) ≤ length row
  unfolding run
  run_in zero j h = h
  run_in (suc n) j h = go (loud row (pos j)) refl (λ (l : j < length row). run_in n (suc j) l)
    where
      go : (t : Bool) → loud row (pos j) ≡ t → (j < length row → nat_abs (run (loud_turn row) n (pos (suc j)) (on (pos (suc j)))) ≤ length row)
          → nat_abs (run (loud_turn row) n (pos (suc j)) (loud_turn row (pos j) (pos j))) ≤ length row
      go true t more = rw t (more (loud-in row (pos j) t))
      go false t more = rw (t, run_out (loud_turn row) n (pos (suc j)) (pos j)) h

  past-in : (f bound : ℤ) → loud row f ≡ true → nat_abs (past_loud row f bound) ≤ length row
  unfolding past_loud
  past-in (pos j) bound h = run_in (to_nat (bound -ℤ pos j)) j (let l = loud-in row (pos j) h in omega arith)
  past-in (negsuc j) bound h = absurd (true≢false (sym h))

-- ---- what the tests say
third : (a b c : Bool) → (a || (not b || not c)) ≡ false → c ≡ true
third true b c h = absurd (true≢false h)
third false true true h = refl
third false true false h = absurd (true≢false h)
third false false c h = absurd (true≢false h)

heard : (a b c d : Bool) → (a || not ((b && c) && d)) ≡ false → c ≡ true
heard true b c d h = absurd (true≢false h)
heard false true true d h = refl
heard false true false d h = absurd (true≢false h)
heard false false c d h = absurd (true≢false h)

-- ---- one word: each of the two words' times is within the bound, where A, B, C and D say that there is one
record TimesUnder (b : ℕ) (A B C D : Type 0) (p : Neighbours) : Type 0 where
  prev-start : A → Under b p.prev.start
  prev-end : B → Under b p.prev.end
  start : C → Under b p.w.start
  end : D → Under b p.w.end

or-stays : (P : Neighbours → Type 0) (t : Bool) (p x : Neighbours) → P p → (t ≡ false → P x) → P (cond t p x)
or-stays P true p x h k = h
or-stays P false p x h k = k refl

module _ (row : List Bool) (b : ℕ) (short : length row ≤ 360000) (large : hour ≤ b) where
  hand-under : (A B C D : Type 0) (p : Neighbours) (letters : ℕ) → TimesUnder b A B C D p → TimesUnder b A B C D (hand_back row p letters)
  unfolding hand_back
  hand-under A B C D p letters h =
      let f : ℤ = frame_at p.w.start in
      let bound : ℤ = frame_at p.w.end in
      let tail_end : ℤ = past_loud row f bound in
      let q : Quiet = past_quiet row tail_end bound in
      let moved : Neighbours = neighbours (times p.prev.start (js_max p.prev.end (frame_seconds tail_end))) (times (frame_seconds q.k) p.w.end) in
      let last : Bool = ltb q.quiet edge_quiet || not (own_sound row q.k bound) in
      let long : Bool = le (min_letter ⊗ num letters) (frame_seconds (tail_end -ℤ f)) in
      let apart : Bool = le loose (p.w.start ⊖ p.prev.end) in
      or-stays (TimesUnder b A B C D) (apart || (not (loud row (f -ℤ pos 1)) || not (loud row f))) p (cond long p (cond last p moved)) h (λ landed.
      or-stays (TimesUnder b A B C D) long p (cond last p moved) h (λ brief.
      or-stays (TimesUnder b A B C D) last p moved h (λ own.
      let l : nat_abs q.k < length row = loud-in row q.k (heard (ltb q.quiet edge_quiet) (lt_z q.k bound) (loud row q.k) (loud_before row bound (q.k +ℤ pos 1) && loud_before row bound (q.k +ℤ pos 2)) own) in
      let e : nat_abs tail_end ≤ length row = past-in row f bound (third apart (loud row (f -ℤ pos 1)) (loud row f) landed) in record {
        prev-start = h.prev-start;
        prev-end = λ k. max-under 64 b p.prev.end (frame_seconds tail_end) (h.prev-end k) (hour-under b tail_end large (omega arith));
        start = λ k. hour-under b q.k large (omega arith);
        end = h.end;
      })))

  turn-under : (letters : List ℕ) (i : ℕ) (es : Edges) → EdgesUnder b es → EdgesUnder b (tail_turn row letters i es)
  unfolding tail_turn
  turn-under letters i es u =
      let p : Neighbours = hand_back row (neighbours (times_at es (i - 1)) (times_at es i)) (get_or letters i 0) in
      let h = hand-under (i - 1 < length es.starts) (i - 1 < length es.ends) (i < length es.starts) (i < length es.ends) (neighbours (times_at es (i - 1)) (times_at es i)) (get_or letters i 0) (record {
        prev-start = u.starts (i - 1);
        prev-end = u.ends (i - 1);
        start = u.starts i;
        end = u.ends i;
      }) in
      record {
        starts =
            set-under 64 b (set es.starts (i - 1) p.prev.start) i p.w.start (set-under 64 b es.starts (i - 1) p.prev.start u.starts h.prev-start)
            (λ l. h.start (omega (arith, length-set es.starts (i - 1) p.prev.start)));
        ends =
            set-under 64 b (set es.ends (i - 1) p.prev.end) i p.w.end (set-under 64 b es.ends (i - 1) p.prev.end u.ends h.prev-end)
            (λ l. h.end (omega (arith, length-set es.ends (i - 1) p.prev.end)));
      }

  -- ---- all words: no bound of an hour or more grows
  pub tails-under : (letters : List ℕ) (es : Edges) → EdgesUnder b es → EdgesUnder b (hand_back_tails row letters es)
  unfolding hand_back_tails
  tails-under letters es u =
      each_holds (λ (i : ℕ) (s : Edges). EdgesUnder b s) (tail_turn row letters) (1 + (length es.starts - 1)) (λ i s l h. turn-under letters i s h) (length es.starts - 1) 1 es refl u

-- ---- and no list changes its length
set_long : (xs : List Float) (i j : ℕ) (a b : Float) → length (set (set xs i a) j b) ≡ length xs
set_long xs i j a b = length-set (set xs i a) j b ∙ length-set xs i a

pub tails-long : (row : List Bool) (letters : List ℕ) (es : Edges)
    → (length (hand_back_tails row letters es).starts ≡ length es.starts) × (length (hand_back_tails row letters es).ends ≡ length es.ends)
unfolding hand_back_tails tail_turn
tails-long row letters es = (
  each_keeps (λ (s : Edges). length s.starts) (tail_turn row letters) (λ i s. set_long s.starts (i - 1) i (after i s).prev.start (after i s).w.start) (length es.starts - 1) 1 es,
  each_keeps (λ (s : Edges). length s.ends) (tail_turn row letters) (λ i s. set_long s.ends (i - 1) i (after i s).prev.end (after i s).w.end) (length es.starts - 1) 1 es,
)
  where
    after : ℕ → Edges → Neighbours
    after i s = hand_back row (neighbours (times_at s (i - 1)) (times_at s i)) (get_or letters i 0)
