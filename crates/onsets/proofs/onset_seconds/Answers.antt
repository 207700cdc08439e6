-- `onsets::onset_seconds` meets its contract, by the sign of the frame. Assumes nothing.
use mathlib.Core.Path.{sym, ap, ◌∙◌}
use Rattle.base.specs.Whole.{to_nat}
use Rattle.frames.specs.Frames.{frame_seconds}
use Rattle.frames.proofs.Signed.{read_back, test_back}
use Rattle.onsets.proofs.Starts.{seconds-below, seconds-from}
use Rattle.onsets.proofs.onset_seconds.Goals as goal

pub returns-then-before_zero : goal.returns-then-before_zero
returns-then-before_zero c =
    let z = c.frame_at-z in
    seconds-below _ _ _ z.ensures (test_back z.result z.type_inv (sym c.before_zero.ensures ∙ c.if-before_zero.true))
    (c.frame_seconds.ensures ∙ ap frame_seconds (read_back z.result z.type_inv))

pub returns : goal.returns
returns c =
    let z = c.frame_at-z in
    seconds-from _ _ _ z.ensures (test_back z.result z.type_inv (sym c.before_zero.ensures ∙ c.if-before_zero.false))
    (c.to_index-f.ensures ∙ ap to_nat (read_back z.result z.type_inv)) c.index_ceil.ensures
    c.frames_back-lo.ensures c.onset_back.ensures c.index_seconds.ensures
