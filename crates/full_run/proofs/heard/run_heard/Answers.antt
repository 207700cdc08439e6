-- `full_run::heard::run_heard` meets its contract: by what the tests found. Assumes nothing.
use Rattle.base.proofs.First.{refused}
use mathlib.Core.Path.{refl}
use Rattle.full_run.proofs.Runs.{spans-tested, stages-ready, heard-refused, heard-accepted}
use Rattle.base.specs.Words.{words}
use Rattle.base.specs.Spans.{spans_of}
use lib.ListN.{length}
use mathlib.Core.Path.{sym}
use Rattle.full_run.proofs.heard.run_heard.Goals as goal

pub invariant_of-tested : goal.invariant_of-tested
invariant_of-tested c =
    let args = c.args in
    let s =
    spans-tested args.levels.now args.count
    (words args.starts.now args.ends.now args.letters.now args.units.now args.keys.now)
    (spans_of args.spans) args.phrases.now
    args.piece_starts.now args.piece_ends.now (length args.work_starts.now) c.requires.1.0
    (sym c.in_ok-judge.ensures) in
    record { alike = s.0; few = s.1 }

pub after_levels-out-requires : goal.after_levels-out-requires
after_levels-out-requires c =
    let args = c.args in
    stages-ready args.levels.now args.count
    (words args.starts.now args.ends.now args.letters.now args.units.now args.keys.now)
    (spans_of args.spans) args.phrases.now
    args.piece_starts.now args.piece_ends.now (length args.work_starts.now) c.requires
    (sym c.in_ok-judge.ensures)

pub returns-in_err-judge : goal.returns-in_err-judge
returns-in_err-judge c =
    let args = c.args in
    rw (refused _ c.from_residual.ensures.1) (heard-refused args.levels.now args.count
    (words args.starts.now args.ends.now args.letters.now args.units.now args.keys.now)
    (spans_of args.spans) args.phrases.now
    args.piece_starts.now args.piece_ends.now (length args.work_starts.now) _ _ _ _ _
    c.in_err-judge.ensures refl)

pub returns : goal.returns
returns c =
    let args = c.args in
    heard-accepted args.levels.now args.count
    (words args.starts.now args.ends.now args.letters.now args.units.now args.keys.now)
    (spans_of args.spans) args.phrases.now
    args.piece_starts.now args.piece_ends.now (length args.work_starts.now) c.in_ok-judge.ensures refl c.floor_of-floor.ensures c.after_levels-out.ensures
