-- `c_api::qiluvrait_pieces` meets its contract: what `pieces::pieces` answers and leaves. Assumes nothing.
use mathlib.Core.Path.{ap, ◌∙◌}
use Rattle.pieces.specs.Pieces.{Output}
use Rattle.c_api.specs.Answers.{cut_of}
use Rattle.c_api.proofs.qiluvrait_pieces.Goals as goal

pub returns : goal.returns
returns c =
    let e = c.pieces.ensures in
    (c.from.ensures ∙ ap (λ (o : Output). cut_of o.answer) e, (ap (λ (o : Output). o.starts) e, ap (λ (o : Output). o.ends) e))
