-- What only the contracts of unchecked parts cite; a reader of the public call may skip it. Assumes nothing.
use Rattle.std.specs.Prelude.{ℕ, cond, eqb, pos, negsuc, Option, Some, None}
use Rattle.std.proofs.Math.IntN.{pred_ℤ}
use Rattle.base.specs.Loop.{Turn, on, out}
use Rattle.last_run.specs.LastRun.{Ends}
use Rattle.last_run.specs.declared.Search.{Search}
use Rattle.last_run.specs.declared.FrameRun.{FrameRun}

-- ---- The definition's state, from the code's, which keeps the frame past the last, 0 for none.
unfoldable pub ends_of : Search → Ends
ends_of s = record { end = pred_ℤ (pos s.past); start = cond (eqb s.past 0) (negsuc 0) (pos s.first) }

-- ---- How a turn ended: it left the loop where the search is over.
unfoldable pub turn_of : Search → Turn Ends
turn_of s = cond s.over (out (ends_of s)) (on (ends_of s))

-- ---- The last frame of a run; 0 where there is none.
abbrev pub last_frame : Option FrameRun → ℕ
last_frame (Some run) = run.last
last_frame None = 0
