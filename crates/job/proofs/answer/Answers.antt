-- `job::answer` meets its contract: the lists as they were read, the run on them, and its text. Assumes nothing.
use Rattle.base.specs.Words.{words, spans}
use lib.ListN.{length}
use Rattle.job.proofs.Answers.{can-print, text-is}
use mathlib.Core.Path.{sym, ◌∙◌}
use native.Mathlib.Omega.{arith}
use Rattle.job.proofs.answer.Goals as goal

pub print-requires : goal.print-requires
print-requires c =
    let args = c.args in
    let pre = c.requires in
    can-print args.levels.now args.count
    (words c.read_words.new.starts c.read_words.new.ends c.read_words.new.letters
    c.read_words.new.units c.read_words.new.keys)
    (spans c.read_spans.new.starts c.read_spans.new.ends c.read_spans.new.counts)
    c.fill.new.self args.piece_starts.now args.piece_ends.now (length args.work_starts.now)
    c.run_heard-answer.result
    (words c.run_heard-answer.new.starts c.run_heard-answer.new.ends
    c.run_heard-answer.new.letters c.run_heard-answer.new.units
    c.run_heard-answer.new.keys)
    c.run_heard-answer.new.phrases
    c.run_heard-answer.new.piece_starts
    c.run_heard-answer.new.piece_ends (length args.out.now)
    c.run_heard-answer.ensures pre.own (pre.piece-ends-five ∙ sym pre.piece-starts-five)
    (omega (arith, c.read_words.auto.keys, pre.keys-as-long, pre.few)) pre.lines_fit
    (omega (arith, c.run_heard-answer.auto.starts, c.read_words.auto.starts, c.read_words.auto.keys, pre.keys-as-long))
    (omega (
      arith,
      c.run_heard-answer.auto.ends,
      c.read_words.auto.ends,
      c.read_words.auto.keys,
      pre.ends-as-long,
      pre.keys-as-long,
    ))
    (omega (arith, c.run_heard-answer.auto.keys))
    (omega (
      arith,
      c.run_heard-answer.auto.phrases,
      c.fill.auto.self,
      pre.phrases-as-long,
      c.read_words.auto.keys,
      pre.keys-as-long,
    ))
    (omega (arith, c.run_heard-answer.auto.piece_starts, pre.piece-starts-five))
    (omega (arith, c.run_heard-answer.auto.piece_ends, pre.piece-ends-five))

pub returns : goal.returns
returns c =
    let args = c.args in
    let pre = c.requires in (
      λ file h. text-is file _ _ _ _ _ h
          (words c.read_words.new.starts c.read_words.new.ends c.read_words.new.letters c.read_words.new.units c.read_words.new.keys)
          (spans c.read_spans.new.starts c.read_spans.new.ends c.read_spans.new.counts) c.fill.new.self
          args.piece_starts.now args.piece_ends.now (length args.work_starts.now) (length args.phrases.now) _ _ c.run_heard-answer.result
          (words c.run_heard-answer.new.starts c.run_heard-answer.new.ends c.run_heard-answer.new.letters c.run_heard-answer.new.units c.run_heard-answer.new.keys)
          c.run_heard-answer.new.phrases c.run_heard-answer.new.piece_starts
          c.run_heard-answer.new.piece_ends c.read_words.ensures c.read_spans.ensures c.read_words.auto.starts
          (c.fill.ensures.after (λ y h. h)) (omega (arith, pre.phrases-as-long, c.read_words.auto.keys, pre.keys-as-long))
          (omega (arith, pre.work-starts-as-long, c.read_words.auto.keys, pre.keys-as-long)) c.read_spans.auto.starts
          pre.piece-starts-five c.run_heard-answer.ensures c.print.ensures.0,
      c.print.ensures.1,
    )
