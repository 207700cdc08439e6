-- `c_api::qiluvrait_envelope` meets its contract: what `envelope::envelope` answers and leaves. Assumes nothing.
use mathlib.Core.Path.{ap, ◌∙◌}
use Rattle.envelope.specs.Envelope.{Output}
use Rattle.c_api.specs.Answers.{heard_of}
use Rattle.c_api.proofs.qiluvrait_envelope.Goals as goal

pub returns : goal.returns
returns c =
    let e = c.envelope.ensures in
    (c.from.ensures ∙ ap (λ (o : Output). heard_of o.answer) e, ap (λ (o : Output). o.places) e)
