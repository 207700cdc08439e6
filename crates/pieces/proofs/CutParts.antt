-- The code's search, which goes in jumps over a part of the levels, is the definition's, which looks at each frame. By two ideas: no more frames
-- than the longest run has leave the best as it is; and quiet frames that follow a place with no run are one run. Assumes nothing.
use Prim.Native.Nat.{ℕ, zero, suc, ◌+◌, ◌-◌, ◌/◌, ◌<◌, ◌≤◌}
use mathlib.Core.Bool.{Bool, true, false, cond, ◌&&◌}
use mathlib.Core.List.{List, [], ◌∷◌}
use mathlib.Core.Path.{◌≡◌, refl, sym, ap, ◌∙◌}
use native.Mathlib.Omega.{arith}
use borrow.Author.Tests.{leb-true, leb-false, le-leb, ltb-true, ltb-false, lt-ltb, le-ltb}
use lib.Dec.{leb, ltb}
use lib.ListN.{length, get_or, take, drop}
use lib.Seq.{get_or-take, get_or-drop}
use lib.Ieee.{Float, le, nan}
use Rattle.base.specs.Loop.{each}
use Rattle.base.proofs.Loops.{each_start, each-done, each_last, each_after, each_holds, down-next, down-stop, down-seen, down-found, up_next, up-stop, up_done, up-seen, up-found}
use Rattle.envelope.specs.Envelope.{quiet_row}
use Rattle.pieces.specs.declared.cut.Quiet.{Quiet}
use Rattle.pieces.specs.Pieces.{Best, none, some, Search, longer, counted, search_turn, search_frames, min_quiet, at_best, cut}
use Rattle.pieces.specs.Parts.{part_search, middle, quiet_start, quiet_end, shown, Stands}
use Rattle.pieces.proofs.Cuts.{counted-le, middle-near, cut-middle, cut-bounds}

-- ---- One turn.
-- at a frame that is not quiet the best stays, and there is no run
turn-loud : (part : List Bool) (k : ℕ) (s : Search) → get_or part k false ≡ false → search_turn part k s ≡ record { best = s.best; run = 0 }
unfolding search_turn
turn-loud part k s e = rw e

-- the search with no run, and the code's best
abbrev fresh : Quiet → Search
fresh q = record { best = shown q; run = 0 }

module _ (part : List Bool) (q : Quiet) (least : 7 ≤ q.longest) where
  -- the definition takes a run that is longer than the code's longest
  beats : (run : ℕ) → (leb min_quiet run && longer run (shown q)) ≡ ltb q.longest run
  unfolding shown
  beats run = go (ltb q.longest min_quiet) (leb min_quiet run) refl refl where
    go : (a b : Bool) → ltb q.longest min_quiet ≡ a → leb min_quiet run ≡ b → (b && longer run (cond a none (some q.longest q.middle))) ≡ ltb q.longest run
    go true true e f = let h = ltb-true q.longest min_quiet e in let l = leb-true min_quiet run f in sym (lt-ltb q.longest run (omega arith))
    go true false e f = let l = leb-false min_quiet run f in sym (le-ltb q.longest run (omega arith))
    go false true e f = refl
    go false false e f = let l = leb-false min_quiet run f in sym (le-ltb q.longest run (omega arith))

  -- ---- Before place k is no run that is longer than the longest: the best stays.
  record Short (k : ℕ) (s : Search) : Type 0 where
    best : s.best ≡ shown q
    run : q.start + s.run ≤ k

  turn-short : (k : ℕ) (s : Search) → k < q.start + q.longest → Short k s → Short (suc k) (search_turn part k s)
  unfolding search_turn
  turn-short k s h p = record { best = bests; run = let l = less in let r = p.run in omega arith } where
    now : ℕ
    now = counted (get_or part k false) s.run

    less : now ≤ suc s.run
    less = counted-le (get_or part k false) s.run s.run (omega arith)

    bests : (search_turn part k s).best ≡ shown q
    bests = let l = less in let r = p.run in rw (p.best, beats now, le-ltb q.longest now (omega arith))

  short-run : (n : ℕ) → n ≤ q.longest → Short (q.start + n) (each (search_turn part) n q.start (fresh q))
  short-run n h =
      each_holds Short (search_turn part) (q.start + n) (λ (k : ℕ) (s : Search) (l : k < q.start + n). turn-short k s (omega arith)) n q.start (fresh q) refl
      (record { best = refl; run = omega arith })

  -- so a frame that is not quiet, behind no more frames than the longest run has, leaves the search as it was
  broken : (n : ℕ) → n ≤ q.longest → get_or part (q.start + n) false ≡ false → each (search_turn part) (suc n) q.start (fresh q) ≡ fresh q
  broken n h e =
      each_last (search_turn part) n q.start (fresh q) ∙ turn-loud part (q.start + n) (each (search_turn part) n q.start (fresh q)) e
      ∙ ap (λ (b : Best). record { best = b; run = 0 }) (short-run n h).best

  -- ---- Every frame from q's start to place k is quiet: they are one run.
  record Grown (k : ℕ) (s : Search) : Type 0 where
    run : q.start + s.run ≡ k
    best : s.best ≡ cond (ltb q.longest s.run) (some s.run (k - 1 - s.run / 2)) (shown q)

  turn-grown : (k : ℕ) (s : Search) → get_or part k false ≡ true → Grown k s → Grown (suc k) (search_turn part k s)
  unfolding search_turn
  turn-grown k s e p = record { run = runs; best = bests } where
    runs : q.start + counted (get_or part k false) s.run ≡ suc k
    runs = let h = p.run in rw e (omega arith)

    go : (t : Bool) → ltb q.longest s.run ≡ t
        → cond (leb min_quiet (s.run + 1) && longer (s.run + 1) (cond t (some s.run (k - 1 - s.run / 2)) (shown q))) (some (s.run + 1) (k - (s.run + 1) / 2))
        (cond t (some s.run (k - 1 - s.run / 2)) (shown q))
        ≡ cond (ltb q.longest (s.run + 1)) (some (s.run + 1) (k - (s.run + 1) / 2)) (shown q)
    go true t =
        let l = ltb-true q.longest s.run t in
        rw (le-leb min_quiet (s.run + 1) (omega arith), lt-ltb s.run (s.run + 1) (omega arith), lt-ltb q.longest (s.run + 1) (omega arith))
    go false t = rw (beats (s.run + 1))

    bests : (search_turn part k s).best ≡ cond (ltb q.longest (counted (get_or part k false) s.run)) (some (counted (get_or part k false) s.run) (suc k - 1 - counted (get_or part k false) s.run / 2)) (shown q)
    bests = let z : suc k - 1 ≡ k = omega arith in rw (e, p.best, z) (go (ltb q.longest s.run) refl)

  quiet-run : (n : ℕ) → ((k : ℕ) → q.start ≤ k → k < q.start + n → get_or part k false ≡ true) → Grown (q.start + n) (each (search_turn part) n q.start (fresh q))
  quiet-run n quiet =
      each_holds Grown (search_turn part) (q.start + n)
      (λ (k : ℕ) (s : Search) (l : k < q.start + n) (p : Grown k s). turn-grown k s (quiet k (let h = p.run in omega arith) l) p) n q.start (fresh q) refl
      (record { run = omega arith; best = rw (le-ltb q.longest 0 (omega arith)) })

-- ---- The whole search.
pub search-starts : (part : List Bool) → Stands part (record { start = 0; longest = 7; middle = 800 })
unfolding part_search shown
search-starts part =
    record {
      start = omega arith;
      least = omega arith;
      most = omega arith;
      nowhere = λ h. refl;
      rest = ap (λ (s : Search). s.best) (each_start (search_turn part) search_frames (record { best = none; run = 0 }));
    }

module _ (part : List Bool) (q : Quiet) (p : Stands part q) where
  -- the search stands n frames further
  further : (to n : ℕ) {s : Search} → to ≡ q.start + n → to ≤ 800 → each (search_turn part) n q.start (fresh q) ≡ s
      → each (search_turn part) (search_frames - q.start) q.start (fresh q) ≡ each (search_turn part) (search_frames - to) to s
  further to n e h t = rw e (each_after (search_turn part) search_frames q.start n (fresh q) (omega arith) (sym t))

  -- behind a frame that is not quiet, where no more frames than the longest run has stand before it
  jump : (from n : ℕ) → from ≡ q.start + suc n → from ≤ 800 → n ≤ q.longest → get_or part (q.start + n) false ≡ false
      → Stands part (record { start = from; longest = q.longest; middle = q.middle })
  unfolding shown
  jump from n e h l loud =
      record {
        start = omega arith;
        least = p.least;
        most = p.most;
        nowhere = p.nowhere;
        rest = p.rest ∙ ap (λ (s : Search). s.best) (further from (suc n) e h (broken part q p.least n l loud));
      }

  -- at the end of a run that is longer than the longest
  module _ (end n : ℕ) (e : end ≡ q.start + n) (h : end ≤ 800) (l : q.longest < n) (quiet : (k : ℕ) → q.start ≤ k → k < q.start + n → get_or part k false ≡ true) where
    after : Quiet
    after = record { start = end + 1; longest = n; middle = end - 1 - n / 2 }

    grown-best : (each (search_turn part) n q.start (fresh q)).best ≡ shown after
    unfolding shown after
    grown-best =
        let g = quiet-run part q p.least n quiet in
        let r : (each (search_turn part) n q.start (fresh q)).run ≡ n = omega (arith, g.run) in
        let s = p.least in
        g.best ∙ rw (r, lt-ltb q.longest n l, le-ltb n min_quiet (omega arith), e)

    rest_end : end ≡ 800 → (each (search_turn part) (search_frames - q.start) q.start (fresh q)).best ≡ (each (search_turn part) (search_frames - (end + 1)) (end + 1) (fresh after)).best
    rest_end z =
        let t : search_frames - q.start ≡ n = omega arith in
        rw t grown-best ∙ ap (λ (s : Search). s.best) (sym (each-done (search_turn part) search_frames (end + 1) (fresh after) (omega arith)))

    rest-before : end < 800 → get_or part end false ≡ false
        → (each (search_turn part) (search_frames - q.start) q.start (fresh q)).best ≡ (each (search_turn part) (search_frames - (end + 1)) (end + 1) (fresh after)).best
    rest-before b loud =
        ap (λ (s : Search). s.best)
        (further (end + 1) (suc n) (omega arith) (omega arith)
        (each_last (search_turn part) n q.start (fresh q) ∙ turn-loud part (q.start + n) (each (search_turn part) n q.start (fresh q)) (rw e at loud)
        ∙ ap (λ (b : Best). record { best = b; run = 0 }) grown-best))

    grow : (end < 800 → get_or part end false ≡ false) → Stands part after
    unfolding after
    grow loud = record { start = omega arith; least = let s = p.least in omega arith; most = omega arith; nowhere = λ (s : n < 8). absurd (let t = p.least in omega arith); rest = p.rest ∙ go (ltb end 800) refl } where
      go : (t : Bool) → ltb end 800 ≡ t → (each (search_turn part) (search_frames - q.start) q.start (fresh q)).best ≡ (each (search_turn part) (search_frames - (end + 1)) (end + 1) (fresh after)).best
      go true t = let b = ltb-true end 800 t in rest-before b (loud b)
      go false t = let b = ltb-false end 800 t in rest_end (omega arith)

  pub search-done : 800 ≤ q.start + q.longest → q.middle ≡ middle part
  unfolding middle shown
  search-done h =
      sym (ap (at_best search_frames) (p.rest ∙ (short-run part q p.least (search_frames - q.start) (omega arith)).best) ∙ at-shown (ltb q.longest min_quiet) refl) where
        at-shown : (t : Bool) → ltb q.longest min_quiet ≡ t → at_best search_frames (shown q) ≡ q.middle
        at-shown true t = rw t (sym (p.nowhere (ltb-true q.longest min_quiet t)))
        at-shown false t = rw t

  -- ---- What the code finds.
  pub run-breaks : {from : ℕ} → q.start + q.longest < 800 → from ≡ quiet_start part q.start (q.start + q.longest + 1) → q.start < from → from ≤ q.start + q.longest + 1
      → Stands part (record { start = from; longest = q.longest; middle = q.middle })
  unfolding quiet_start
  run-breaks {from} w e h l = jump from (from - 1 - q.start) (omega arith) (omega arith) (omega arith) loud where
    test : ℕ → Bool
    test k = ltb q.start k && get_or part (k - 1) false

    found : test from ≡ false
    found = rw (← e) at (down-found test (q.start + q.longest + 1) (rw (← e) (omega arith)))

    loud : get_or part (q.start + (from - 1 - q.start)) false ≡ false
    loud = let z : q.start + (from - 1 - q.start) ≡ from - 1 = omega arith in rw z (rw (lt-ltb q.start from h) at found)

  pub run-grows : {from end : ℕ} → q.start + q.longest < 800 → from ≡ quiet_start part q.start (q.start + q.longest + 1) → from ≤ q.start
      → end ≡ quiet_end part (q.start + q.longest + 1) → q.start + q.longest + 1 ≤ end → end ≤ 800
      → Stands part (record { start = end + 1; longest = end - q.start; middle = end - 1 - (end - q.start) / 2 })
  unfolding quiet_start quiet_end
  run-grows {from} {end} w e h f l m = unfold after in grow end (end - q.start) (omega arith) m (omega arith) quiet loud where
    quiet : (k : ℕ) → q.start ≤ k → k < q.start + (end - q.start) → get_or part k false ≡ true
    quiet k a b = go (ltb k (q.start + q.longest + 1)) refl where
      go : (t : Bool) → ltb k (q.start + q.longest + 1) ≡ t → get_or part k false ≡ true
      go true t =
          let z : k + 1 - 1 ≡ k = omega arith in
          let i = ltb-true k (q.start + q.longest + 1) t in
          rw (lt-ltb q.start (k + 1) (omega arith), z) at (down-seen (λ (j : ℕ). ltb q.start j && get_or part (j - 1) false) (q.start + q.longest + 1) (k + 1) (omega arith) (rw (← e) (omega arith)))
      go false t =
          let i = ltb-false k (q.start + q.longest + 1) t in
          up-seen (λ (j : ℕ). get_or part j false) (search_frames - (q.start + q.longest + 1)) (q.start + q.longest + 1) k i (rw (← f) (omega arith))

    loud : end < 800 → get_or part end false ≡ false
    loud b = rw (← f) at (up-found (λ (j : ℕ). get_or part j false) (search_frames - (q.start + q.longest + 1)) (q.start + q.longest + 1) (rw (← f) (omega arith)))

pub middle-within : (part : List Bool) {r : ℕ} → r ≡ middle part → (r ≡ middle part) × (r ≤ 800)
middle-within part e = let n = middle-near part in (e, omega arith)

-- ---- Quiet frames.
quiet_at : (floor : Float) (levels : List Float) (k : ℕ) → k < length levels → le (get_or levels k nan) floor ≡ get_or (quiet_row floor levels) k false
unfolding quiet_row
quiet_at floor [] k h = absurd (omega arith)
quiet_at floor (v ∷ levels) zero h = refl
quiet_at floor (v ∷ levels) (suc k) h = quiet_at floor levels k (omega arith)

module _ (floor : Float) (levels : List Float) where
  module _ (from k : ℕ) {r : Bool} (i : k - 1 < length levels) (h : from < k) (is : r ≡ le (get_or levels (k - 1) nan) floor) where
    pub start-next : r ≡ true → quiet_start (quiet_row floor levels) from k ≡ quiet_start (quiet_row floor levels) from (k - 1)
    unfolding quiet_start
    start-next t = down-next _ k (omega arith) (rw (lt-ltb from k h, ← quiet_at floor levels (k - 1) i, ← is) t)

    pub start-stop : r ≡ false → quiet_start (quiet_row floor levels) from k ≡ k
    unfolding quiet_start
    start-stop t = down-stop _ k (rw (lt-ltb from k h, ← quiet_at floor levels (k - 1) i, ← is) t)

  pub start-done : (from k : ℕ) → k ≤ from → quiet_start (quiet_row floor levels) from k ≡ k
  unfolding quiet_start
  start-done from k h = down-stop _ k (rw (le-ltb from k h))

  module _ (k : ℕ) {r : Bool} (i : k < length levels) (h : k < 800) (is : r ≡ le (get_or levels k nan) floor) where
    pub end-next : r ≡ true → quiet_end (quiet_row floor levels) k ≡ quiet_end (quiet_row floor levels) (k + 1)
    unfolding quiet_end
    end-next t = up_next _ search_frames k h (rw (← quiet_at floor levels k i, ← is) t)

    pub end-stop : r ≡ false → quiet_end (quiet_row floor levels) k ≡ k
    unfolding quiet_end
    end-stop t = up-stop _ search_frames k (rw (← quiet_at floor levels k i, ← is) t)

  pub end-done : (k : ℕ) → 800 ≤ k → quiet_end (quiet_row floor levels) k ≡ k
  unfolding quiet_end
  end-done k h = up_done _ search_frames k h

quiet-take : (floor : Float) (n : ℕ) (levels : List Float) → quiet_row floor (take n levels) ≡ take n (quiet_row floor levels)
unfolding quiet_row
quiet-take floor zero levels = refl
quiet-take floor (suc n) [] = refl
quiet-take floor (suc n) (v ∷ levels) = ap (λ (r : List Bool). le v floor ∷ r) (quiet-take floor n levels)

quiet-drop : (floor : Float) (n : ℕ) (levels : List Float) → quiet_row floor (drop n levels) ≡ drop n (quiet_row floor levels)
unfolding quiet_row
quiet-drop floor zero levels = refl
quiet-drop floor (suc n) [] = refl
quiet-drop floor (suc n) (v ∷ levels) = quiet-drop floor n levels

-- the cut that is found in the part from a to e
pub cut-found : (floor : Float) (levels : List Float) (from a e : ℕ) {r : ℕ} → a ≡ from + 1200 → e - a ≡ 800
    → r ≡ middle (quiet_row floor (take (e - a) (drop a levels)))
    → (a + r ≡ cut (quiet_row floor levels) from) × ((from + 1203 ≤ a + r) × (a + r ≤ from + 2000))
cut-found floor levels from a e {r} p q h = let b = cut-bounds row from in let s = same in (s, (omega arith, omega arith)) where
  row : List Bool
  row = quiet_row floor levels

  part : r ≡ middle (take 800 (drop (from + 1200) row))
  part = h ∙ rw (q, p, quiet-take floor 800 (drop (from + 1200) levels), quiet-drop floor (from + 1200) levels)

  same : a + r ≡ cut row from
  same =
      let c = cut-middle row (take 800 (drop (from + 1200) row)) from
      (λ (k : ℕ) (l : k < 800). sym (get_or-take 800 (drop (from + 1200) row) k false l ∙ get_or-drop (from + 1200) row k false)) in
      let d = part in
      omega arith
