-- `envelope::view::Envelope::first_frame` answers what its definition finds: the frame that its loop met, or none. Assumes nothing.
use Rattle.std.proofs.Common.{sym, ◌∙◌, arith}
use Rattle.envelope.proofs.Scan.{first-some, first-none, beq-is}
use Rattle.envelope.proofs.view.Envelope.first_frame.Goals as goal

pub returns-then-loud-want-clause-answer : goal.returns-then-loud-want-clause-answer
returns-then-loud-want-clause-answer c =
    first-some _ _ _ _ _ (omega (arith, c.loop-k.auto.k)) (omega (arith, c.loop-k.auto.k, c.loop-k-test.true)) (sym c.loud.ensures ∙ beq-is _ _ c.if-loud-want.true) c.loop-k.invariant

pub returns-clause-answer : goal.returns-clause-answer
returns-clause-answer c = first-none _ _ _ _ (λ i p q. c.loop-k.invariant i p (omega (arith, q, c.loop-k-test.false, c.loop-k.auto.k)))
