-- `envelope::view::Envelope::loud` meets its contract: by whether there is such a frame. Assumes nothing.
use Rattle.std.proofs.Common.{sym, ◌∙◌, le-ltb}
use Rattle.envelope.proofs.Loudness.{loud-level, loud-outside}
use Rattle.envelope.proofs.view.Envelope.loud.Goals as goal

pub returns-then-k-self : goal.returns-then-k-self
returns-then-k-self c = sym (loud-level _ _ _)

pub returns-else-k-self : goal.returns-else-k-self
returns-else-k-self c = le-ltb _ _ c.if-k-self.false ∙ sym (loud-outside _ _ _ c.if-k-self.false)
