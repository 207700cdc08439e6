-- `onsets::snap_onsets` meets its contract, by what the tests found. Assumes nothing.
use mathlib.Core.Path.{sym}
use Rattle.word_calls.proofs.Moved.{sound-fine}
use Rattle.onsets.proofs.Calls.{refused-made, accepted-made}
use Rattle.onsets.proofs.snap_onsets.Goals as goal

pub move_onsets-requires : goal.move_onsets-requires
move_onsets-requires c = (sound-fine _ _ _ (sym c.in_ok-sound_rule.ensures)).0.ends-as-long

pub returns-in_err-sound_rule : goal.returns-in_err-sound_rule
returns-in_err-sound_rule c = refused-made _ _ _ _ c.from_residual.ensures.1 c.in_err-sound_rule.ensures

pub returns : goal.returns
returns c =
    accepted-made _ _ _ _ _ _ c.in_ok-sound_rule.ensures c.move_onsets.ensures
