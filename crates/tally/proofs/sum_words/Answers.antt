-- `tally::sum_words` meets its contract: after i words the places hold each span's sum over them. Assumes nothing.
use borrow.Author.Rules.{rules}
use native.Mathlib.Omega.{arith}
use Rattle.envelope.proofs.Scan.{length-row}
use Rattle.tally.proofs.Sums.{pass-begins, pass-room, pass-next, pass-ends, zeros_are}
use Rattle.tally.proofs.sum_words.Goals as goal

pub loop-i-init : goal.loop-i-init
loop-i-init c = (c.fill.ensures.len, pass-begins _ _ _ _ _ c.fill.ensures.len (zeros_are _ (c.fill.ensures.after (λ y h. h))))

pub add_word-requires : goal.add_word-requires
add_word-requires c = (omega arith, (λ h. pass-room _ _ _ _ _ _ c.loop-i.invariant.1 _ (omega arith) (rw (length-row _ _) (omega arith)) (omega (arith, h))))

pub loop-i-preserved : goal.loop-i-preserved
loop-i-preserved c =
    (search rules, pass-next _ _ _ _ _ _ c.loop-i.invariant.1 (rw c.loop-i.invariant.0 at c.add_word.ensures))

pub returns : goal.returns
returns c = pass-ends _ _ _ _ _ _ c.loop-i.invariant.1 c.fill.ensures.len (omega arith)
