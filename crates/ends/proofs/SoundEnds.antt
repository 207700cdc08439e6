-- The last loud frame before a silence: the code keeps the frame past it, from which the loop's two numbers follow, and so it needs no count of
-- quiet frames; from there it looks back from the last frame that may go on with the sound; frames below zero change nothing. Assumes nothing.
use Rattle.std.specs.Prelude.{Some, None}
use Prim.Native.Nat.{ℕ, zero, suc, ◌+◌, ◌-◌, ◌<◌, ◌≤◌, min, max}
use mathlib.Core.Bool.{Bool, true, false, cond, ◌&&◌}
use mathlib.Core.List.{List}
use mathlib.Core.Path.{◌≡◌, refl, sym, ap, ◌∙◌}
use native.Mathlib.Omega.{arith}
use native.Mathlib.Numerals.{add-one}
use borrow.Author.Tests.{leb-true, leb-false, le-leb, lt-leb, ne_eqb, le-ltb}
use lib.Dec.{leb, eqb}
use lib.IntN.{ℤ, pos, negsuc, suc_ℤ, pred_ℤ, suc-pred, pred-suc}
use lib.ListN.{length}
use lib.Ieee.{Float}
use Rattle.base.specs.Whole.{to_nat, min_z}
use Rattle.base.specs.Loop.{on, out, run}
use Rattle.base.proofs.Loops.{min-nat, advance, range-nat, run-start, run-stop, run-next, run-done}
use Rattle.frames.specs.Frames.{frame_seconds}
use Rattle.envelope.specs.Envelope.{loud, loud_row}
use Rattle.envelope.specs.Parts.{Throughout, IsFirst, IsLast}
use Rattle.envelope.proofs.Scan.{length-row}
use Rattle.ends.specs.Ends.{Last, last_turn, last_loud, sound_end}
use Rattle.ends.specs.Parts.{seen, sound_on}

pub and-false : (a : Bool) → (a && false) ≡ false
and-false true = refl
and-false false = refl

pub and-true : (a : Bool) → (a && true) ≡ a
and-true true = refl
and-true false = refl

leb-sub : (a b m n : ℕ) → b ≤ m → n ≡ a + b → leb a (m - b) ≡ leb n m
leb-sub a b m n h e = go (leb a (m - b)) refl where
  go : (t : Bool) → leb a (m - b) ≡ t → t ≡ leb n m
  go true t = let l = leb-true a (m - b) t in sym (le-leb n m (omega arith))
  go false t = let l = leb-false a (m - b) t in sym (lt-leb n m (omega arith))

-- at frame k the loop stops: a sound was met that ended before frame `past` (0: none), and `edge` quiet frames after it
unfoldable is_past : ℕ → ℕ → ℕ → Bool
is_past edge k past = cond (eqb past 0) false (leb (past + edge) (k + 1))

is_past-near : (edge k past : ℕ) → k + 1 < past + edge → is_past edge k past ≡ false
unfolding is_past
is_past-near edge k zero h = refl
is_past-near edge k (suc p) h = rw (ne_eqb (suc p) 0 (omega arith), lt-leb (suc p + edge) (k + 1) h)

is_past-far : (edge k past : ℕ) → 0 < past → past + edge ≤ k + 1 → is_past edge k past ≡ true
unfolding is_past
is_past-far edge k past n h = rw (ne_eqb past 0 (omega arith), le-leb (past + edge) (k + 1) h)

module _ (edge : ℕ) (row : List Bool) where
  -- before the first loud frame the count of quiet ones stops nothing
  count-free : (n : ℕ) (k : ℤ) (q r : ℕ)
      → (run (last_turn edge row) n k (on (record { last = negsuc 0; quiet = q }))).last ≡ (run (last_turn edge row) n k (on (record { last = negsuc 0; quiet = r }))).last
  unfolding run
  count-free zero k q r = refl
  count-free (suc n) k q r = go (loud row k) refl (count-free n (suc_ℤ k) (q + 1) (r + 1)) where
    go : (b : Bool) → loud row k ≡ b
        → (run (last_turn edge row) n (suc_ℤ k) (on (record { last = negsuc 0; quiet = q + 1 }))).last
        ≡ (run (last_turn edge row) n (suc_ℤ k) (on (record { last = negsuc 0; quiet = r + 1 }))).last
        → (run (last_turn edge row) n (suc_ℤ k) (last_turn edge row k (record { last = negsuc 0; quiet = q }))).last
        ≡ (run (last_turn edge row) n (suc_ℤ k) (last_turn edge row k (record { last = negsuc 0; quiet = r }))).last
    go true e h = rw e
    go false e h = rw (e, and-false (leb edge (q + 1)), and-false (leb edge (r + 1))) h

  pub last_loud-nat : (a b : ℤ) → last_loud edge row a b ≡ (run (last_turn edge row) (to_nat b - to_nat a) (pos (to_nat a)) (on (record { last = negsuc 0; quiet = 0 }))).last
  unfolding last_loud
  last_loud-nat a b =
      range-nat (last_turn edge row) (λ s. record { last = s.last; quiet = s.quiet + 1 }) (λ s. s.last ≡ negsuc 0) (λ s. s.last)
      (λ (j : ℕ) (s : Last) (p : s.last ≡ negsuc 0). rw (p, and-false (leb edge (s.quiet + 1))))
      (λ (s : Last) (p : s.last ≡ negsuc 0). p)
      (λ (n : ℕ) (k : ℤ) (s t : Last) (p : s.last ≡ negsuc 0) (q : t.last ≡ negsuc 0).
      ap (λ (l : ℤ). (run (last_turn edge row) n k (on (record { last = l; quiet = s.quiet }))).last) p
      ∙ count-free n k s.quiet t.quiet
      ∙ ap (λ (l : ℤ). (run (last_turn edge row) n k (on (record { last = l; quiet = t.quiet }))).last) (sym q))
      a b (record { last = negsuc 0; quiet = 0 }) refl

  search-starts : (lo hi : ℕ) → last_loud edge row (pos lo) (pos hi) ≡ (run (last_turn edge row) (hi - lo) (pos lo) (on (seen lo 0))).last
  unfolding seen
  search-starts lo hi = last_loud-nat (pos lo) (pos hi) ∙ count-free (hi - lo) (pos lo) 0 (lo - 0)

  loud-turn : (k past : ℕ) (b : Bool) → loud row (pos k) ≡ true → false ≡ b
      → last_turn edge row (pos k) (seen k past) ≡ cond b (out (seen (k + 1) (k + 1))) (on (seen (k + 1) (k + 1)))
  unfolding seen
  loud-turn k past b e h = let z : suc k - suc k ≡ 0 = omega arith in rw (← h, e, add-one, z)

  quiet-turn : (k past : ℕ) → past ≤ k → loud row (pos k) ≡ false → (b : Bool) → is_past edge k past ≡ b
      → last_turn edge row (pos k) (seen k past) ≡ cond b (out (seen (k + 1) past)) (on (seen (k + 1) past))
  unfolding seen is_past
  quiet-turn k zero h e b o =
      let z : k - 0 + 1 ≡ k + 1 - 0 = omega arith in rw (← o, e, and-false (leb edge (k - 0 + 1)), z)
  quiet-turn k (suc p) h e b o =
      let z : k - suc p + 1 ≡ k + 1 - suc p = omega arith in
      let o' : leb (suc p + edge) (k + 1) ≡ b = rw (ne_eqb (suc p) 0 (omega arith)) at o in
      rw (e, z, leb-sub edge (suc p) (k + 1) (suc p + edge) (omega arith) (omega arith) ∙ o', and-true b)

  is_past-at : (k : ℕ) → 0 < edge → is_past edge k (k + 1) ≡ false
  unfolding is_past
  is_past-at k s = rw (ne_eqb (k + 1) 0 (omega arith), lt-leb (k + 1 + edge) (k + 1) (omega arith))

  -- one turn, as the code tests it
  module _ (k past : ℕ) {past' : ℕ} (less : past ≤ k) (some : 0 < edge) (next : past' ≡ cond (loud row (pos k)) (k + 1) past) where
    turn_is : (b : Bool) → is_past edge k past' ≡ b → last_turn edge row (pos k) (seen k past) ≡ cond b (out (seen (k + 1) past')) (on (seen (k + 1) past'))
    turn_is b o = go (loud row (pos k)) refl where
      go : (l : Bool) → loud row (pos k) ≡ l → last_turn edge row (pos k) (seen k past) ≡ cond b (out (seen (k + 1) past')) (on (seen (k + 1) past'))
      go true e = let p : past' ≡ k + 1 = next ∙ rw e in rw p (loud-turn k past b e (sym (is_past-at k some) ∙ (rw p at o)))
      go false e = let p : past' ≡ past = next ∙ rw e in rw p (quiet-turn k past less e b (rw p at o))

    search-next : {x : ℤ} (hi : ℕ) → k < hi → is_past edge k past' ≡ false → x ≡ (run (last_turn edge row) (hi - k) (pos k) (on (seen k past))).last
        → x ≡ (run (last_turn edge row) (hi - (k + 1)) (pos (k + 1)) (on (seen (k + 1) past'))).last
    search-next hi h o e = e ∙ ap (λ (s : Last). s.last) (run-next (last_turn edge row) hi k h (turn_is false o))

    search-stop : {x : ℤ} (hi : ℕ) → k < hi → is_past edge k past' ≡ true → x ≡ (run (last_turn edge row) (hi - k) (pos k) (on (seen k past))).last → pos past' ≡ suc_ℤ x
    unfolding seen
    search-stop hi h o e = sym (ap suc_ℤ (e ∙ ap (λ (s : Last). s.last) (run-stop (last_turn edge row) hi k h (turn_is true o))) ∙ suc-pred (pos past'))

  search-done : {x : ℤ} (hi k past : ℕ) → hi ≤ k → x ≡ (run (last_turn edge row) (hi - k) (pos k) (on (seen k past))).last → pos past ≡ suc_ℤ x
  unfolding seen
  search-done hi k past h e = sym (ap suc_ℤ (e ∙ ap (λ (s : Last). s.last) (run-done (last_turn edge row) hi k (seen k past) h)) ∙ suc-pred (pos past))

  -- ---- the first loud frame, and what follows it
  module _ (lo hi : ℕ) where
    quiet-to : (e : ℕ) → lo ≤ e → e ≤ max lo hi → Throughout row false lo e
        → last_loud edge row (pos lo) (pos hi) ≡ (run (last_turn edge row) (hi - e) (pos e) (on (seen e 0))).last
    unfolding is_past
    quiet-to e l h a =
        search-starts lo hi
        ∙ ap (λ (s : Last). s.last) (advance (last_turn edge row) (λ (j : ℕ). seen j 0) hi lo e l h (λ (j : ℕ) (p : lo ≤ j) (q : j < e). quiet-turn j 0 (omega arith) (a j p q) false refl))

    pub first-met : {r first : ℕ} → IsFirst row true lo hi first → 0 < edge → pos r ≡ suc_ℤ (sound_on edge row (first + 1) hi) → pos r ≡ suc_ℤ (last_loud edge row (pos lo) (pos hi))
    unfolding sound_on
    first-met {first = first} m s e =
        let h = m.to in
        let n : first + 1 ≡ cond (loud row (pos first)) (first + 1) 0 = rw m.found in
        e ∙ ap suc_ℤ (sym (search-next first 0 (omega arith) s n hi h (is_past-at first s) (quiet-to first m.from (omega arith) m.before)))

    pub first-none : Throughout row false lo hi → pos 0 ≡ suc_ℤ (last_loud edge row (pos lo) (pos hi))
    first-none quiet =
        search-done hi (max lo hi) 0 (omega arith)
        (quiet-to (max lo hi) (omega arith) (omega arith) (λ (j : ℕ) (p : lo ≤ j) (q : j < max lo hi). quiet j p (omega arith)))

  -- ---- a sound goes on at the last loud frame among the `edge` next ones, and ends where there is none
  module _ {x : ℤ} {far : ℕ} (past hi : ℕ) (some : 0 < edge) (is : far ≡ min hi (past + edge)) (e : x ≡ sound_on edge row past hi) where
    -- frame j, where the last loud one lies before frame p
    Stands : ℕ → ℕ → Type 0
    Stands j p = (past ≤ p) × ((p ≤ j) × (x ≡ (run (last_turn edge row) (hi - j) (pos j) (on (seen j p))).last))

    unfoldable stepped : ℕ → ℕ → ℕ
    stepped j p = cond (loud row (pos j)) (j + 1) p

    stepped-between : (j p : ℕ) → past ≤ p → p ≤ j → (past ≤ stepped j p) × (stepped j p ≤ j + 1)
    unfolding stepped
    stepped-between j p a b = go (loud row (pos j)) where
      go : (t : Bool) → (past ≤ cond t (j + 1) p) × (cond t (j + 1) p ≤ j + 1)
      go true = (omega arith, omega arith)
      go false = (omega arith, omega arith)

    stands-next : (j p : ℕ) → j < hi → j + 1 < past + edge → Stands j p → Stands (j + 1) (stepped j p)
    unfolding Stands stepped
    stands-next j p h l (a, (b, r)) =
        let w = stepped-between j p a b in (w.0, (w.1, search-next j p b some refl hi h (is_past-near edge j (stepped j p) (omega arith)) r))

    -- the turns on the way
    stands : (d : ℕ) → past + d ≤ hi → past + d < past + edge → (p : ℕ) × Stands (past + d) p
    unfolding Stands sound_on
    stands zero h l = let z : past + 0 ≡ past = omega arith in (past, rw z (omega arith, (omega arith, e)))
    stands (suc d) h l =
        let s = stands d (omega arith) (omega arith) in
        let z : past + suc d ≡ past + d + 1 = omega arith in
        (stepped (past + d) s.0, rw z (stands-next (past + d) s.0 (omega arith) (omega arith) s.1))

    -- no loud frame on the way: the last one stays where it was
    quiet-on : (d : ℕ) → past + d ≤ hi → past + d < past + edge → ((j : ℕ) → past ≤ j → j < past + d → loud row (pos j) ≡ false)
        → x ≡ (run (last_turn edge row) (hi - (past + d)) (pos (past + d)) (on (seen (past + d) past))).last
    unfolding sound_on
    quiet-on zero h l a = let z : past + 0 ≡ past = omega arith in rw z e
    quiet-on (suc d) h l a =
        let z : past + suc d ≡ past + d + 1 = omega arith in
        let n : past ≡ cond (loud row (pos (past + d))) (past + d + 1) past = rw (a (past + d) (omega arith) (omega arith)) in
        rw z (search-next (past + d) past (omega arith) some n hi (omega arith) (is_past-near edge (past + d) past (omega arith))
        (quiet-on d (omega arith) (omega arith) (λ (j : ℕ) (p : past ≤ j) (q : j < past + d). a j p (omega arith))))

    -- and the turn at the last loud frame
    arrives : (last k p : ℕ) → k ≡ last → loud row (pos last) ≡ true → last < hi → Stands k p
        → x ≡ (run (last_turn edge row) (hi - (last + 1)) (pos (last + 1)) (on (seen (last + 1) (last + 1)))).last
    unfolding Stands
    arrives last k p y found h (a, (b, r)) =
        let f : loud row (pos k) ≡ true = rw y found in
        let n : k + 1 ≡ cond (loud row (pos k)) (k + 1) p = rw f in
        rw y at (search-next k p b some n hi (omega arith) (is_past-at k some) r)

    pub goes_on : (last : ℕ) → IsLast row past far last → x ≡ sound_on edge row (last + 1) hi
    unfolding sound_on
    goes_on last m =
        let l = m.from in
        let t = m.to in
        let s = stands (last - past) (omega arith) (omega arith) in arrives last (past + (last - past)) s.0 (omega arith) m.found (omega arith) s.1

    pub stops-here : 0 < past → past ≤ hi → Throughout row false past far → pos past ≡ suc_ℤ x
    stops-here h l quiet = go (leb (past + edge) hi) refl where
      all : (j : ℕ) → past ≤ j → j < min hi (past + edge) → loud row (pos j) ≡ false
      all j p q = quiet j p (rw is q)

      go : (t : Bool) → leb (past + edge) hi ≡ t → pos past ≡ suc_ℤ x
      go true t =
          let k = leb-true (past + edge) hi t in
          let z : past + (edge - 1) ≡ past + edge - 1 = omega arith in
          let o : past ≡ cond (loud row (pos (past + edge - 1))) (past + edge - 1 + 1) past = rw (all (past + edge - 1) (omega arith) (omega arith)) in
          search-stop (past + edge - 1) past (omega arith) some o hi (omega arith) (is_past-far edge (past + edge - 1) past h (omega arith))
          (rw z at (quiet-on (edge - 1) (omega arith) (omega arith) (λ (j : ℕ) (p : past ≤ j) (q : j < past + (edge - 1)). all j p (omega arith))))
      go false t =
          let k = leb-false (past + edge) hi t in
          let z : past + (hi - past) ≡ hi = omega arith in
          search-done hi hi past (omega arith)
          (rw z at (quiet-on (hi - past) (omega arith) (omega arith) (λ (j : ℕ) (p : past ≤ j) (q : j < past + (hi - past)). all j p (omega arith))))

  -- at the end of the search the sound ends
  pub sound-over : {x : ℤ} (past hi : ℕ) → hi ≤ past → x ≡ sound_on edge row past hi → pos past ≡ suc_ℤ x
  unfolding sound_on
  sound-over past hi h e = search-done hi past past h e

-- ---- where the sound ends, by the frame past it
pub sound_none : (past : ℕ) → past ≡ 0 → None ≡ sound_end (pred_ℤ (pos past))
unfolding sound_end
sound_none past z = rw z

pub sound-some : {s : Float} (past : ℕ) → (past ≡ 0 → ⊥) → s ≡ frame_seconds (pos past) → Some s ≡ sound_end (pred_ℤ (pos past))
unfolding sound_end
sound-some zero n e = absurd (n refl)
sound-some (suc p) n e = rw (le-ltb p 0 (omega arith), add-one p, e)

-- ---- the same by the search itself: no frame is met, or the last one is the one before `past`
pub end-none : (last : ℤ) → pos 0 ≡ suc_ℤ last → None ≡ sound_end last
end-none last h = sound_none 0 refl ∙ ap (λ (z : ℤ). sound_end (pred_ℤ z)) h ∙ ap sound_end (pred-suc last)

pub end-some : {s : Float} (past : ℕ) (last : ℤ) → (past ≡ 0 → ⊥) → pos past ≡ suc_ℤ last → s ≡ frame_seconds (pos past) → Some s ≡ sound_end last
end-some past last n h e = sound-some past n e ∙ ap (λ (z : ℤ). sound_end (pred_ℤ z)) h ∙ ap sound_end (pred-suc last)

-- ---- a search from frame a to b, where there are frames, is one between indices
module _ (edge : ℕ) (floor : Float) (levels : List Float) (a b : ℤ) (lo hi : ℕ) (islo : lo ≡ to_nat a) (ishi : hi ≡ min (length levels) (to_nat b)) where
  pub last_loud-is : last_loud edge (loud_row floor levels) a (min_z (pos (length (loud_row floor levels))) b)
      ≡ last_loud edge (loud_row floor levels) (pos lo) (pos hi)
  last_loud-is =
      let e : to_nat (min_z (pos (length levels)) b) ≡ hi = min-nat (length levels) b ∙ sym ishi in
      rw (length-row floor levels)
      (last_loud-nat edge (loud_row floor levels) a (min_z (pos (length levels)) b)
      ∙ rw e (ap (λ (s : Last). s.last) (run-start (last_turn edge (loud_row floor levels)) hi (to_nat a) lo (record { last = negsuc 0; quiet = 0 }) (omega arith)))
      ∙ sym (last_loud-nat edge (loud_row floor levels) (pos lo) (pos hi)))
