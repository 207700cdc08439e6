-- `full_run::full_run` meets its contract, by what the tests found. Assumes nothing.
use Rattle.base.proofs.First.{refused}
use native.Mathlib.Omega.{arith}
use mathlib.Core.Path.{refl}
use lib.ListN.{length}
use Rattle.base.specs.Words.{words}
use Rattle.base.specs.Spans.{spans_of}
use Rattle.base.specs.Refusals.{Unchanged}
use Rattle.full_run.proofs.Made.{hear-ready, spans-tested, after-ready, accept-is, refused-made, all-fine, accepted-made}
use Rattle.full_run.proofs.full_run.Goals as goal

pub hear-floor-requires : goal.hear-floor-requires
hear-floor-requires c =
    let args = c.args in
    let spans1 = spans_of args.spans in
    let words1 = words args.starts.now args.ends.now args.letters.now args.units.now args.keys.now in
    hear-ready args.samples.now words1 spans1 args.phrases.now args.levels.now
    args.piece_starts.now args.piece_ends.now (length args.work_starts.now)
    (length args.work_ends.now) (length args.work_letters.now)
    (all-fine args.samples.now words1 spans1 args.phrases.now args.levels.now
    args.piece_starts.now args.piece_ends.now (length args.work_starts.now)
    (length args.work_ends.now) (length args.work_letters.now) c.min.ensures
    c.min-2.ensures c.min-3.ensures c.in_ok-judge.ensures refl)

pub slice_bounds-after_levels-end : goal.slice_bounds-after_levels-end
slice_bounds-after_levels-end c =
    let args = c.args in
    let spans1 = spans_of args.spans in
    let words1 = words args.starts.now args.ends.now args.letters.now args.units.now args.keys.now in
    omega (
      arith,
      c.hear-floor.auto.levels,
      (hear-ready args.samples.now words1 spans1 args.phrases.now args.levels.now
          args.piece_starts.now args.piece_ends.now (length args.work_starts.now)
          (length args.work_ends.now) (length args.work_letters.now)
          (all-fine args.samples.now words1 spans1 args.phrases.now args.levels.now
          args.piece_starts.now args.piece_ends.now (length args.work_starts.now)
          (length args.work_ends.now) (length args.work_letters.now) c.min.ensures
          c.min-2.ensures c.min-3.ensures c.in_ok-judge.ensures refl)),
    )

pub invariant_of-tested : goal.invariant_of-tested
invariant_of-tested c =
    let args = c.args in
    let spans1 = spans_of args.spans in
    let words1 = words args.starts.now args.ends.now args.letters.now args.units.now args.keys.now in
    let s =
    spans-tested args.samples.now words1 spans1 args.phrases.now args.levels.now
    args.piece_starts.now args.piece_ends.now (length args.work_starts.now)
    (length args.work_ends.now) (length args.work_letters.now)
    (all-fine args.samples.now words1 spans1 args.phrases.now args.levels.now
    args.piece_starts.now args.piece_ends.now (length args.work_starts.now)
    (length args.work_ends.now) (length args.work_letters.now) c.min.ensures
    c.min-2.ensures c.min-3.ensures c.in_ok-judge.ensures refl) in
    record { alike = s.0; few = s.1 }

pub after_levels-out-requires : goal.after_levels-out-requires
after_levels-out-requires c =
    let args = c.args in
    let spans1 = spans_of args.spans in
    let words1 = words args.starts.now args.ends.now args.letters.now args.units.now args.keys.now in
    after-ready args.samples.now words1 spans1 args.phrases.now args.levels.now
    args.piece_starts.now args.piece_ends.now (length args.work_starts.now)
    (length args.work_ends.now) (length args.work_letters.now)
    (all-fine args.samples.now words1 spans1 args.phrases.now args.levels.now
    args.piece_starts.now args.piece_ends.now (length args.work_starts.now)
    (length args.work_ends.now) (length args.work_letters.now) c.min.ensures
    c.min-2.ensures c.min-3.ensures c.in_ok-judge.ensures refl)
    c.hear-floor.ensures.0

pub returns-in_err-judge : goal.returns-in_err-judge
unfolding Unchanged
returns-in_err-judge c = rw (refused _ c.from_residual.ensures.1) (
  refused-made _ _ _ _ _ _ _ _ _ _ c.min.ensures c.min-2.ensures c.min-3.ensures c.in_err-judge.ensures refl,
  (refl, (refl, refl)),
)

pub returns : goal.returns
unfolding Unchanged
returns c = (
  accepted-made _ _ _ _ _ _ _ _ _ _ c.min.ensures c.min-2.ensures c.min-3.ensures
      c.in_ok-judge.ensures refl
      (accept-is _ _ _ _ _ _ _ _ _ _ c.hear-floor.ensures c.after_levels-out.ensures),
  (tt, (tt, tt)),
)
