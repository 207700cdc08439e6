-- `frames::frame_seconds` meets its contract, by the sign of k. Assumes nothing.
use Rattle.std.proofs.Common.{◌≡◌, ℕ, pos, nat_abs, sym, ap, ◌∙◌}
use lib.Ieee.{neg}
use Rattle.frames.specs.Frames.{frame_seconds}
use Rattle.frames.proofs.Signed.{read_back, test_back}
use Rattle.frames.proofs.Times.{seconds-sign}
use Rattle.frames.proofs.frame_seconds.Goals as goal
use Rattle.frames.proofs.frame_seconds.Goals.{After-index_seconds-s}

-- the seconds of k without its sign
unsigned : (c : After-index_seconds-s) → c.index_seconds-s.result ≡ frame_seconds (pos (nat_abs c.args.k))
unsigned c = c.index_seconds-s.ensures ∙ ap (λ (n : ℕ). frame_seconds (pos n)) (c.unsigned_abs.ensures.value ∙ ap nat_abs (read_back c.args.k c.ranges.k.sfits))

pub returns-then-k-lt0 : goal.returns-then-k-lt0
returns-then-k-lt0 c =
    ap neg (unsigned (goal.at.returns-then-k-lt0 c).After-index_seconds-s) ∙ sym (seconds-sign c.args.k ∙ rw (test_back c.args.k c.ranges.k.sfits c.if-k-lt0.true))
