-- snap_onsets: the code's walk back gives what the loop gives. Below frame 0 nothing is loud; the code keeps no counter, and looks for the first of
-- the 8 frames before that is loud. And one word. Assumes nothing.
use Prim.Native.Nat.{ℕ, zero, suc, ◌+◌, ◌-◌, ◌<◌, ◌≤◌, max}
use mathlib.Core.Bool.{Bool, true, false, cond}
use mathlib.Core.List.{List}
use mathlib.Core.Path.{◌≡◌, refl, sym, ap, ◌∙◌}
use native.Mathlib.Omega.{arith}
use borrow.Author.Tests.{lt-ltb, le-ltb, leb-true, leb-false, le-leb, lt-leb, ltb-true}
use lib.Dec.{leb}
use lib.IntN.{ℤ, pos, negsuc, pred_ℤ, ◌+ℤ◌, ◌-ℤ◌}
use lib.Signed.{lt_z}
use lib.ListN.{get_or, set}
use lib.Seq.{set-get_or}
use lib.Ieee.{Float, nan, lt}
use Rattle.base.specs.Whole.{to_nat, max_z}
use Rattle.base.specs.Loop.{on, out, run_back}
use Rattle.base.specs.Floats.{◌⊖◌}
use Rattle.base.specs.Words.{edges, times, edge_quiet}
use Rattle.base.specs.declared.Times.{Times}
use Rattle.base.proofs.Loops.{back-out, back-next, back-stop, back_done, back-nat, max-nat, sub-nat}
use Rattle.js.specs.Js.{js_min}
use Rattle.frames.specs.Frames.{frame_at, frame_ceil, frame_seconds}
use Rattle.envelope.specs.Envelope.{loud}
use Rattle.envelope.specs.Parts.{Throughout, IsFirst}
use Rattle.onsets.specs.Onsets.{pause, Onset, back_turn, onset_frame, onset_of, prev_end, onset_turn}
use Rattle.onsets.specs.Parts.{goes_on, onset_seconds}

-- the loop's state above frame k
unfoldable pub met : ℕ → ℕ → Onset
met k onset = record { onset = pos onset; quiet = onset - k }

module _ (row : List Bool) where
  -- below zero nothing is loud
  low : (n j : ℕ) (s : Onset) → (run_back (back_turn row) n (negsuc j) (on s)).onset ≡ s.onset
  unfolding run_back
  low zero j s = refl
  low (suc n) j s = go (leb edge_quiet (s.quiet + 1)) (low n (suc j) (record { onset = s.onset; quiet = s.quiet + 1 })) where
    go : (t : Bool) → (run_back (back_turn row) n (negsuc (suc j)) (on (record { onset = s.onset; quiet = s.quiet + 1 }))).onset ≡ s.onset
        → (run_back (back_turn row) n (negsuc (suc j)) (cond t (out (record { onset = s.onset; quiet = s.quiet + 1 })) (on (record { onset = s.onset; quiet = s.quiet + 1 })))).onset ≡ s.onset
    go true h = ap (λ (x : Onset). x.onset) (back-out (back_turn row) n (negsuc (suc j)) (record { onset = s.onset; quiet = s.quiet + 1 }))
    go false h = h

  frame-nat : (f : ℕ) (stop : ℤ) → onset_frame row (pos f) stop ≡ (run_back (back_turn row) (f - to_nat stop) (pred_ℤ (pos f)) (on (record { onset = pos f; quiet = 0 }))).onset
  unfolding onset_frame
  frame-nat f stop = back-nat (back_turn row) (λ s. s.onset) low f stop (record { onset = pos f; quiet = 0 })

  frame_below : (j : ℕ) (stop : ℤ) → onset_frame row (negsuc j) stop ≡ negsuc j
  unfolding onset_frame
  frame_below j stop = low (to_nat (negsuc j -ℤ pos 1 +ℤ pos 1 -ℤ stop)) (suc (j + 0)) (record { onset = negsuc j; quiet = 0 })

  onset-starts : (f lo : ℕ) → onset_frame row (pos f) (pos lo) ≡ (run_back (back_turn row) (f - lo) (pred_ℤ (pos f)) (on (met f f))).onset
  unfolding met
  onset-starts f lo = let z : f - f ≡ 0 = omega arith in rw z (frame-nat f (pos lo))

  module _ (k onset : ℕ) {onset' : ℕ} (some : 0 < k) (less : k ≤ onset) (next : onset' ≡ cond (loud row (pos (k - 1))) (k - 1) onset) where
    turn_is : (b : Bool) → leb (k - 1 + 8) onset' ≡ b → back_turn row (pos (k - 1)) (met k onset) ≡ cond b (out (met (k - 1) onset')) (on (met (k - 1) onset'))
    unfolding met
    turn_is b o = go (loud row (pos (k - 1))) refl where
      shift : (t : Bool) → leb (k - 1 + 8) onset ≡ t → leb edge_quiet (onset - (k - 1)) ≡ t
      shift true t = let l = leb-true (k - 1 + 8) onset t in le-leb 8 (onset - (k - 1)) (omega arith)
      shift false t = let l = leb-false (k - 1 + 8) onset t in lt-leb 8 (onset - (k - 1)) (omega arith)

      go : (l : Bool) → loud row (pos (k - 1)) ≡ l → back_turn row (pos (k - 1)) (met k onset) ≡ cond b (out (met (k - 1) onset')) (on (met (k - 1) onset'))
      go true e =
          let p : onset' ≡ k - 1 = next ∙ rw e in
          let z : k - 1 - (k - 1) ≡ 0 = omega arith in
          let n : false ≡ b = sym (lt-leb (k - 1 + 8) (k - 1) (omega arith)) ∙ (rw p at o) in rw (← n, e, p, z)
      go false e =
          let p : onset' ≡ onset = next ∙ rw e in
          let z : onset - k + 1 ≡ onset - (k - 1) = omega arith in rw (e, p, z, shift b (rw p at o))

    onset-next : {x : ℤ} (lo : ℕ) → lo < k → onset' < k - 1 + 8 → x ≡ (run_back (back_turn row) (k - lo) (pred_ℤ (pos k)) (on (met k onset))).onset
        → x ≡ (run_back (back_turn row) (k - 1 - lo) (pred_ℤ (pos (k - 1))) (on (met (k - 1) onset'))).onset
    onset-next lo h o e = e ∙ ap (λ (s : Onset). s.onset) (back-next (back_turn row) lo k h (turn_is false (lt-leb (k - 1 + 8) onset' o)))

    onset-stop : {x : ℤ} (lo : ℕ) → lo < k → k - 1 + 8 ≤ onset' → x ≡ (run_back (back_turn row) (k - lo) (pred_ℤ (pos k)) (on (met k onset))).onset → pos onset' ≡ x
    unfolding met
    onset-stop lo h o e = sym (e ∙ ap (λ (s : Onset). s.onset) (back-stop (back_turn row) lo k h (turn_is true (le-leb (k - 1 + 8) onset' o))))

  onset-done : {x : ℤ} (lo k onset : ℕ) → k ≤ lo → x ≡ (run_back (back_turn row) (k - lo) (pred_ℤ (pos k)) (on (met k onset))).onset → pos onset ≡ x
  unfolding met
  onset-done lo k onset h e = sym (e ∙ ap (λ (s : Onset). s.onset) (back_done (back_turn row) lo k (met k onset) h))

  -- ---- the sound rises at the first loud frame of the 8 before, and further back from there
  unfoldable pub rises_at : ℕ → ℕ → ℤ
  rises_at lo onset = (run_back (back_turn row) (onset - lo) (pred_ℤ (pos onset)) (on (met onset onset))).onset

  pub rises-first : (f lo : ℕ) → onset_frame row (pos f) (pos lo) ≡ rises_at lo f
  unfolding rises_at
  rises-first f lo = onset-starts f lo

  module _ {x : ℤ} {from : ℕ} (lo onset : ℕ) (below : lo < onset) (is : from ≡ max lo (onset - 8)) (e : x ≡ rises_at lo onset) where
    -- above frame j, where the first loud one so far is p
    Stands : ℕ → ℕ → Type 0
    Stands j p = (j ≤ p) × ((p ≤ onset) × (x ≡ (run_back (back_turn row) (j - lo) (pred_ℤ (pos j)) (on (met j p))).onset))

    unfoldable stepped : ℕ → ℕ → ℕ
    stepped j p = cond (loud row (pos (j - 1))) (j - 1) p

    stepped-between : (j p : ℕ) → j ≤ p → p ≤ onset → (j - 1 ≤ stepped j p) × (stepped j p ≤ onset)
    unfolding stepped
    stepped-between j p a b = go (loud row (pos (j - 1))) where
      go : (t : Bool) → (j - 1 ≤ cond t (j - 1) p) × (cond t (j - 1) p ≤ onset)
      go true = (omega arith, omega arith)
      go false = (omega arith, omega arith)

    stands-next : (j p : ℕ) → lo < j → onset < j - 1 + 8 → Stands j p → Stands (j - 1) (stepped j p)
    unfolding Stands stepped
    stands-next j p h l (a, (b, r)) = let w = stepped-between j p a b in (w.0, (w.1, onset-next j p (omega arith) a refl lo h (omega arith) r))

    -- the turns on the way down to frame j
    stands : (d j : ℕ) → j + d ≡ onset → lo ≤ j → onset < j + 8 → (p : ℕ) × Stands j p
    unfolding Stands rises_at
    stands zero j s h l = let z : j ≡ onset = omega arith in (onset, rw z (omega arith, (omega arith, e)))
    stands (suc d) j s h l =
        let t = stands d (j + 1) (omega arith) (omega arith) (omega arith) in
        let z : j + 1 - 1 ≡ j = omega arith in
        (stepped (j + 1) t.0, rw z at (stands-next (j + 1) t.0 (omega arith) (omega arith) t.1))

    -- no loud frame on the way: the first one stays where it was
    quiet-on : (d j : ℕ) → j + d ≡ onset → lo ≤ j → onset < j + 8 → ((i : ℕ) → j ≤ i → i < onset → loud row (pos i) ≡ false)
        → x ≡ (run_back (back_turn row) (j - lo) (pred_ℤ (pos j)) (on (met j onset))).onset
    unfolding rises_at
    quiet-on zero j s h l a = let z : j ≡ onset = omega arith in rw z e
    quiet-on (suc d) j s h l a =
        let z : j + 1 - 1 ≡ j = omega arith in
        let n : onset ≡ cond (loud row (pos (j + 1 - 1))) (j + 1 - 1) onset = rw (z, a j (omega arith) (omega arith)) in
        rw z at (onset-next (j + 1) onset (omega arith) (omega arith) n lo (omega arith) (omega arith)
        (quiet-on d (j + 1) (omega arith) (omega arith) (omega arith) (λ (i : ℕ) (p : j + 1 ≤ i) (q : i < onset). a i (omega arith) q)))

    -- and the turn at the first loud frame
    arrives : (k j p : ℕ) → loud row (pos k) ≡ true → j ≡ k + 1 → k < onset → lo < j → Stands j p → x ≡ (run_back (back_turn row) (k - lo) (pred_ℤ (pos k)) (on (met k k))).onset
    unfolding Stands
    arrives k j p found y l h (a, (b, r)) =
        let z : j - 1 ≡ k = omega arith in
        let f : loud row (pos (j - 1)) ≡ true = rw z found in
        let n : j - 1 ≡ cond (loud row (pos (j - 1))) (j - 1) p = rw f in
        rw z at (onset-next j p (omega arith) a n lo h (omega arith) r)

    pub rises-on : (k : ℕ) → IsFirst row true from onset k → x ≡ rises_at lo k
    unfolding rises_at
    rises-on k m =
        let t = m.from in
        let h = m.to in
        let s = stands (onset - (k + 1)) (k + 1) (omega arith) (omega arith) (omega arith) in arrives k (k + 1) s.0 m.found refl h (omega arith) s.1

    pub rises-here : Throughout row false from onset → pos onset ≡ x
    rises-here quiet = go (leb (lo + 8) onset) refl where
      all : (i : ℕ) → max lo (onset - 8) ≤ i → i < onset → loud row (pos i) ≡ false
      all i p q = quiet i (rw is p) q

      go : (t : Bool) → leb (lo + 8) onset ≡ t → pos onset ≡ x
      go true t =
          let l = leb-true (lo + 8) onset t in
          let z : onset - 7 - 1 ≡ onset - 8 = omega arith in
          let n : onset ≡ cond (loud row (pos (onset - 7 - 1))) (onset - 7 - 1) onset = rw (z, all (onset - 8) (omega arith) (omega arith)) in
          onset-stop (onset - 7) onset (omega arith) (omega arith) n lo (omega arith) (omega arith)
          (quiet-on 7 (onset - 7) (omega arith) (omega arith) (omega arith) (λ (i : ℕ) (p : onset - 7 ≤ i) (q : i < onset). all i (omega arith) q))
      go false t =
          let l = leb-false (lo + 8) onset t in
          onset-done lo lo onset (omega arith)
          (quiet-on (onset - lo) lo (omega arith) (omega arith) (omega arith) (λ (i : ℕ) (p : lo ≤ i) (q : i < onset). all i (omega arith) q))

  pub rises-last : {x : ℤ} (lo onset : ℕ) → onset ≤ lo → x ≡ rises_at lo onset → pos onset ≡ x
  unfolding rises_at
  rises-last lo onset h e = onset-done lo onset onset h e

  -- ---- z is the frame of the start
  module _ (before start : Float) {z : ℤ} (isz : z ≡ frame_at start) where
    pub seconds-below : {r : Float} → lt_z z (pos 0) ≡ true → r ≡ frame_seconds z → r ≡ onset_seconds row before start
    unfolding onset_seconds
    seconds-below h e = e ∙ ap frame_seconds (go z h (max_z (frame_ceil before) (z -ℤ pos 60))) ∙ rw isz where
      go : (y : ℤ) → lt_z y (pos 0) ≡ true → (stop : ℤ) → y ≡ onset_frame row y stop
      go (pos n) h stop = absurd (omega (arith, ltb-true n 0 h))
      go (negsuc j) h stop = sym (frame_below j stop)

    pub seconds-from : {r : Float} {f n lo onset : ℕ} → lt_z z (pos 0) ≡ false → f ≡ to_nat z → n ≡ to_nat (frame_ceil before) → lo ≡ max n (f - 60)
        → pos onset ≡ onset_frame row (pos f) (pos lo) → r ≡ frame_seconds (pos onset) → r ≡ onset_seconds row before start
    unfolding onset_seconds
    seconds-from {f = f} {n = n} {lo = lo} {onset = onset} h ef en el eo e = e ∙ ap frame_seconds (go z h ef) ∙ rw isz where
      c : ℤ
      c = frame_ceil before

      go : (y : ℤ) → lt_z y (pos 0) ≡ false → f ≡ to_nat y → pos onset ≡ onset_frame row y (max_z c (y -ℤ pos 60))
      go (negsuc j) h g = absurd (let w : ◌≡◌ {A = ℕ} 0 1 = cc in omega arith)
      go (pos m) h g =
          let s : to_nat (max_z c (pos m -ℤ pos 60)) ≡ max (to_nat c) (m - 60) = max-nat c (pos m -ℤ pos 60) ∙ ap (max (to_nat c)) (sub-nat m 60) in
          let l : lo ≡ to_nat (max_z c (pos m -ℤ pos 60)) = el ∙ (rw (en, g)) ∙ sym s in
          eo ∙ rw g (frame-nat m (pos lo) ∙ (rw l) ∙ sym (frame-nat m (max_z c (pos m -ℤ pos 60))))

-- ---- one word
module _ (i : ℕ) (before start : Float) where
  -- after another word: it goes on where the pause is short
  pub goes_after : {r : Bool} → 0 < i → r ≡ lt (start ⊖ before) pause → r ≡ goes_on i before start
  unfolding goes_on
  goes_after h e = rw (lt-ltb 0 i h, e)

  -- the first word goes on after none
  pub goes_first : i ≤ 0 → false ≡ goes_on i before start
  unfolding goes_on
  goes_first h = rw (le-ltb 0 i h)

-- the end of a word stays
pub end_stays : (row : List Bool) (i : ℕ) (before : Float) (w : Times) → (onset_of row i before w).end ≡ w.end
unfolding onset_of goes_on
end_stays row i before w = go (goes_on i before w.start) (times (js_min w.start (frame_seconds (onset_frame row (frame_at w.start) (max_z (frame_ceil before) (frame_at w.start -ℤ pos 60))))) w.end) refl where
  go : (b : Bool) (t : Times) → t.end ≡ w.end → (cond b w t).end ≡ w.end
  go true t h = refl
  go false t h = h

pub onset-turn : (row : List Bool) (i : ℕ) (starts ends : List Float) {p : Float} {t : Times} → p ≡ prev_end ends i
    → t ≡ onset_of row i p (times (get_or starts i nan) (get_or ends i nan)) → edges (set starts i t.start) ends ≡ onset_turn row i (edges starts ends)
unfolding onset_turn
onset-turn row i starts ends {p} {t} ep et =
    let e : t.end ≡ get_or ends i nan = ap (λ (x : Times). x.end) et ∙ end_stays row i p (times (get_or starts i nan) (get_or ends i nan)) in
    ap (λ (l : List Float). edges (set starts i t.start) l) (sym (ap (set ends i) e ∙ set-get_or ends i nan)) ∙ rw (et, ep)
