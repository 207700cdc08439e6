-- A cut lies 1,203 to 2,000 frames beyond its piece's start, for every row of quiet frames, and 2,000 where none is quiet. By two ideas: the search in frames from + 1,200 on
-- is the search in that part of the row alone; and a run that ends at place k of the part has at most k + 1 frames. Assumes nothing.
use Prim.Native.Nat.{ℕ, zero, suc, ◌+◌, ◌-◌, ◌/◌, ◌<◌, ◌≤◌}
use mathlib.Core.Bool.{Bool, true, false, cond, ◌&&◌}
use mathlib.Core.List.{List}
use mathlib.Core.Path.{◌≡◌, refl, sym, ap, ◌∙◌}
use native.Mathlib.Omega.{arith}
use borrow.Author.Tests.{leb-true}
use lib.Dec.{leb}
use lib.ListN.{get_or, drop, replicate}
use lib.Seq.{get_or-drop}
use lib.Ieee.{Float, nan, lt, eq, le}
use Rattle.base.specs.Loop.{each}
use Rattle.envelope.specs.Envelope.{quiet_row}
use Rattle.pieces.specs.Pieces.{Best, none, some, Search, longer, counted, search_turn, searched, search_frames, max_frames, min_quiet, at_best, cut}
use Rattle.pieces.specs.Parts.{part_search, middle}
use Rattle.base.proofs.Loops.{each_holds, each-alike}

pub counted-le : (b : Bool) (run k : ℕ) → run ≤ k → counted b run ≤ suc k
counted-le true run k h = omega arith
counted-le false run k h = omega arith

-- ---- Places from the first frame of the search on.

-- the run is no longer than the part so far, and a best place lies inside it
abbrev Near : ℕ → Best → Type 0
Near k none = Unit {0}
Near k (some run at) = (3 ≤ at) × (at < k)

record Sound (k : ℕ) (s : Search) : Type 0 where
  short : s.run ≤ k
  near : Near k s.best

near-more : (k : ℕ) (b : Best) → Near k b → Near (suc k) b
near-more k none n = tt
near-more k (some run at) n = (n.0, omega arith)

turn-sound : (part : List Bool) (k : ℕ) (s : Search) → Sound k s → Sound (suc k) (search_turn part k s)
unfolding search_turn
turn-sound part k s p = record { short = less; near = go (leb min_quiet run) (longer run s.best) refl } where
  run : ℕ
  run = counted (get_or part k false) s.run

  less : run ≤ suc k
  less = counted-le (get_or part k false) s.run k p.short

  go : (a b : Bool) → leb min_quiet run ≡ a → Near (suc k) (cond (a && b) (some run (k - run / 2)) s.best)
  go false b e = near-more k s.best p.near
  go true false e = near-more k s.best p.near
  go true true e = let h = leb-true min_quiet run e in let l = less in (omega arith, omega arith)

at-near : (b : Best) → Near search_frames b → (3 ≤ at_best search_frames b) × (at_best search_frames b ≤ search_frames)
at-near none n = (omega arith, omega arith)
at-near (some run at) n = (n.0, omega arith)

pub middle-near : (part : List Bool) → (3 ≤ middle part) × (middle part ≤ search_frames)
unfolding middle part_search
middle-near part =
    at-near (part_search part).best
    (each_holds Sound (search_turn part) search_frames (λ (k : ℕ) (s : Search) (h : k < search_frames). turn-sound part k s) search_frames 0
    (record { best = none; run = 0 }) (omega arith) (record { short = omega arith; near = tt })).near

-- ---- The whole row, from frame a on.
module _ (row part : List Bool) (a : ℕ) (part_at : (k : ℕ) → k < search_frames → get_or row (a + k) false ≡ get_or part k false) where
  abbrev moved : Best → Best
  moved none = none
  moved (some run at) = some run (a + at)

  longer-moved : (run : ℕ) (b : Best) → longer run (moved b) ≡ longer run b
  longer-moved run none = refl
  longer-moved run (some longest at) = refl

  cond-moved : (t : Bool) (run at : ℕ) (b : Best) → cond t (some run (a + at)) (moved b) ≡ moved (cond t (some run at) b)
  cond-moved true run at b = refl
  cond-moved false run at b = refl

  at_moved : (b : Best) → at_best (a + search_frames) (moved b) ≡ a + at_best search_frames b
  at_moved none = refl
  at_moved (some run at) = refl

  -- at frame a + k of the row the search stands as at place k of the part, its best place moved on by a
  record Alike (k : ℕ) (s t : Search) : Type 0 where
    best : s.best ≡ moved t.best
    run : s.run ≡ t.run
    short : t.run ≤ k

  turn-alike : (k : ℕ) (s t : Search) → k < search_frames → Alike k s t → Alike (suc k) (search_turn row (a + k) s) (search_turn part k t)
  unfolding search_turn
  turn-alike k s t h p = record { best = bests; run = runs; short = less } where
    now : ℕ
    now = counted (get_or part k false) t.run

    less : now ≤ suc k
    less = counted-le (get_or part k false) t.run k p.short

    runs : counted (get_or row (a + k) false) s.run ≡ now
    runs = rw (part_at k h, p.run)

    place : a + k - now / 2 ≡ a + (k - now / 2)
    place = let l = less in omega arith

    bests : (search_turn row (a + k) s).best ≡ moved (search_turn part k t).best
    bests = rw (runs, p.best, longer-moved now t.best, place) (cond-moved (leb min_quiet now && longer now t.best) now (k - now / 2) t.best)

  search-alike : at_best (a + search_frames) (each (search_turn row) search_frames (a + 0) (record { best = none; run = 0 })).best ≡ a + middle part
  unfolding middle part_search
  search-alike =
      ap (at_best (a + search_frames))
      (each-alike Alike (search_turn row) (search_turn part) a search_frames turn-alike search_frames 0 (record { best = none; run = 0 })
      (record { best = none; run = 0 }) (omega arith) (record { best = refl; run = refl; short = omega arith })).best
      ∙ at_moved (part_search part).best

-- the cut, by the search in frames from + 1,200 to from + 1,999 alone
pub cut-middle : (row part : List Bool) (from : ℕ) → ((k : ℕ) → k < search_frames → get_or row (from + 1200 + k) false ≡ get_or part k false)
    → cut row from ≡ from + 1200 + middle part
unfolding cut searched
cut-middle row part from same =
    let e : from + 1200 + search_frames ≡ from + max_frames = omega arith in
    let z : from + 1200 + 0 ≡ from + 1200 = omega arith in
    rw (e, z) at (search-alike row part (from + 1200) same)

pub cut-bounds : (row : List Bool) (from : ℕ) → (from + 1203 ≤ cut row from) × (cut row from ≤ from + 2000)
cut-bounds row from =
    let e = cut-middle row (drop (from + 1200) row) from (λ (k : ℕ) (h : k < search_frames). sym (get_or-drop (from + 1200) row k false)) in
    let n = middle-near (drop (from + 1200) row) in
    (omega arith, omega arith)

-- a cut is always beyond its piece's start
pub cut-beyond : (row : List Bool) (from : ℕ) → from + 1203 ≤ cut row from
cut-beyond row from = (cut-bounds row from).0

pub cut-within : (row : List Bool) (from : ℕ) → cut row from ≤ from + 2000
cut-within row from = (cut-bounds row from).1

-- ---- "every cut lies at least 1,203 frames beyond its piece's start, also with NaN levels": whatever the levels and the floor hold
pub cut-of-any-levels : (levels : List Float) (floor : Float) (from : ℕ) → from + 1203 ≤ cut (quiet_row floor levels) from
cut-of-any-levels levels floor from = cut-beyond (quiet_row floor levels) from

-- ---- where no frame is quiet, the cut lies 2,000 frames beyond its piece's start
nowhere : (row : List Bool) → ((k : ℕ) → get_or row k false ≡ false) → (n k : ℕ) → each (search_turn row) n k (record { best = none; run = 0 }) ≡ record { best = none; run = 0 }
unfolding each search_turn
nowhere row h zero k = refl
nowhere row h (suc n) k = rw (h k) (nowhere row h n (suc k))

pub none-quiet : (row : List Bool) → ((k : ℕ) → get_or row k false ≡ false) → (from : ℕ) → cut row from ≡ from + max_frames
unfolding cut searched
none-quiet row h from = ap (λ (s : Search). at_best (from + max_frames) s.best) (nowhere row h search_frames (from + (max_frames - search_frames)))

nan-row : (floor : Float) (n k : ℕ) → get_or (quiet_row floor (replicate n nan)) k false ≡ false
unfolding quiet_row le lt eq
nan-row floor zero k = refl
nan-row floor (suc n) zero = refl
nan-row floor (suc n) (suc k) = nan-row floor n k

-- 2,001 NaN levels are cut at 2,000
pub nan-levels-cut : (floor : Float) → cut (quiet_row floor (replicate 2001 nan)) 0 ≡ 2000
nan-levels-cut floor = none-quiet (quiet_row floor (replicate 2001 nan)) (nan-row floor 2001) 0
