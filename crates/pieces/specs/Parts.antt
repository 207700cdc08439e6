-- What only the contracts of the unchecked core cite; a reader of the public call may skip it. Assumes nothing.
use Rattle.std.specs.Prelude.{ℕ, ◌-◌, ◌≤◌, ◌<◌, ◌≡◌, Bool, false, cond, ◌&&◌, List, map, ltb, get_or}
use Rattle.base.specs.Loop.{each, up, down}
use Rattle.pieces.specs.declared.cut.Quiet.{Quiet}
use Rattle.pieces.specs.Pieces.{Best, Search, none, some, search_turn, search_frames, min_quiet, at_best, Piece, over}

-- ======== `cut`

-- ---- The search, with places counted from the first frame that it looks at: the row is that part alone.
unfoldable pub part_search : List Bool → Search
part_search part = each (search_turn part) search_frames 0 (record { best = none; run = 0 })

-- ---- Where the cut is, in the part; past it where no run is long enough.
unfoldable pub middle : List Bool → ℕ
middle part = at_best search_frames (part_search part).best

-- ---- Where the quiet frames before frame `to` start, at `from` at the earliest.
unfoldable pub quiet_start : List Bool → ℕ → ℕ → ℕ
quiet_start part from to = down (λ (k : ℕ). ltb from k && get_or part (k - 1) false) to

-- ---- Where the quiet frames from frame `from` on end.
unfoldable pub quiet_end : List Bool → ℕ → ℕ
quiet_end part from = up (λ (k : ℕ). get_or part k false) (search_frames - from) from

-- ---- The search's best, from the code's, where a longest run too short to hold a cut is none.
unfoldable pub shown : Quiet → Best
shown q = cond (ltb q.longest min_quiet) none (some q.longest q.middle)

-- ---- The search has no run at `start`: what is left of it, from there and from the code's best, finds what the whole finds.
pub record Stands (part : List Bool) (q : Quiet) : Type 0 where
  pub start : q.start ≤ 801
  pub least : 7 ≤ q.longest
  pub most : q.longest ≤ 800
  pub nowhere : q.longest < 8 → q.middle ≡ 800
  pub rest : (part_search part).best ≡ (each (search_turn part) (search_frames - q.start) q.start (record { best = shown q; run = 0 })).best

-- ======== The call

-- ---- The first samples of the pieces, and their ends, over what the places held.
unfoldable pub starts_over : List Piece → List ℕ → List ℕ
starts_over ps places = over (map (λ p. p.start) ps) places

unfoldable pub ends_over : List Piece → List ℕ → List ℕ
ends_over ps places = over (map (λ p. p.end) ps) places
