-- `envelope::view::Envelope::last_frame` answers what its definition finds: the frame that its loop met, or none. Assumes nothing.
use Rattle.std.proofs.Common.{sym, ◌∙◌, arith}
use Rattle.envelope.proofs.Scan.{last-some, last-none}
use Rattle.envelope.proofs.view.Envelope.last_frame.Goals as goal

pub returns-then-loud-clause-answer : goal.returns-then-loud-clause-answer
returns-then-loud-clause-answer c =
    last-some _ _ _ _ (omega (arith, c.loop-k.auto.k, c.loop-k-test.true)) (omega (arith, c.loop-k.auto.k, c.loop-k-test.true)) (sym c.loud.ensures ∙ c.if-loud.true)
    (λ i p q. c.loop-k.invariant i (omega (arith, p, c.loop-k-test.true)) (omega (arith, q, c.loop-k.auto.k)))

pub returns-clause-answer : goal.returns-clause-answer
returns-clause-answer c = last-none _ _ _ (λ i p q. c.loop-k.invariant i (omega (arith, p, c.loop-k-test.false)) (omega (arith, q)))
