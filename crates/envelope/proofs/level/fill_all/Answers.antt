-- `envelope::level::fill_all` meets its contract: the frames in fours and then the rest are all the frames. Assumes nothing.
use Rattle.std.proofs.Common.{List, sym, ap, ◌-◌, ◌∙◌}
use lib.Ieee.{Float}
use Rattle.base.specs.Loop.{each}
use Rattle.envelope.specs.Envelope.{frames}
use Rattle.envelope.specs.Parts.{stored}
use Rattle.envelope.proofs.Places.{stores}
use Rattle.envelope.proofs.level.fill_all.Goals as goal

pub returns-clause-filled : goal.returns-clause-filled
returns-clause-filled c =
    let from = c.fill_fours-k in
    c.fill_rest.ensures.stored
    ∙ ap (λ (x : List Float). each (stored x) (frames x - from.result) from.result from.new.s.levels.now) (sym from.ensures.same.1)
    ∙ sym from.ensures.stored.1 ∙ stores _ _ c.args.s.now.room
