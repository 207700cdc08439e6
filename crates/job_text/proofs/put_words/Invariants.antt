use Rattle.job_text.specs.Parts.{Wrote}
use Rattle.job_text.specs.Text.{word_lines}
use Prim.Native.Nat.{◌+◌, ◌*◌, ◌≤◌}
use Rattle.job_text.proofs.put_words.Given as goal

abbrev pub invariant-loop-i : goal.invariant-loop-i
invariant-loop-i l = Wrote (word_lines l.spans l.starts l.ends l.phrases l.i) l.initial.out l.out × (l.out.at ≤ l.initial.out.at + 64 * l.i)
