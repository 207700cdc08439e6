-- `fit_to_sound::word_starts::is_loud_run` meets its contract: a frame is loud by its level. Assumes nothing.
use mathlib.Core.Path.{refl, sym, ◌∙◌}
use mathlib.Core.Bool.{true≢false}
use Prim.Native.Nat.{◌+◌}
use Rattle.envelope.proofs.Loudness.{loud-level}
use Rattle.fit_to_sound.specs.FitToSound.{is_loud_run}
use Rattle.fit_to_sound.proofs.word_starts.is_loud_run.Goals as goal
use Rattle.fit_to_sound.proofs.word_starts.is_loud_run.Goals.{then-e-k, else-e-k}

pub returns-then-e-k-2 : goal.returns-then-e-k-2
unfolding is_loud_run
returns-then-e-k-2 c =
    let f = c.args.e.floor in
    let ls = c.args.e.levels.now in
    let k = c.args.k in
    elim c.if-e-k.branch [
      | then-e-k w ↦ rw (loud-level f ls k, loud-level f ls (k + 1), loud-level f ls (k + 2), w.if-e-k.true, sym w.value-is ∙ c.if-e-k-2.true) refl
      | else-e-k w ↦ absurd (true≢false (sym c.if-e-k-2.true ∙ w.value-is ∙ w.if-e-k.false))
    ]

pub returns-else-e-k-2 : goal.returns-else-e-k-2
unfolding is_loud_run
returns-else-e-k-2 c =
    let f = c.args.e.floor in
    let ls = c.args.e.levels.now in
    let k = c.args.k in
    elim c.if-e-k.branch [
      | then-e-k w ↦ rw (loud-level f ls k, loud-level f ls (k + 1), w.if-e-k.true, c.if-e-k-2.false, sym w.value-is ∙ c.if-e-k-2.false) refl
      | else-e-k w ↦ rw (loud-level f ls k, w.if-e-k.false) (w.value-is ∙ w.if-e-k.false)
    ]
