-- `fit_to_sound::word_starts::rise_from` meets its contract. Assumes nothing.
use native.Mathlib.Omega.{arith}
use Prim.Native.Nat.{min}
use mathlib.Core.Path.{refl, ap, ◌∙◌}
use Rattle.fit_to_sound.proofs.Rise.{rise-met, rise-none}
use Rattle.fit_to_sound.proofs.word_starts.rise_from.Goals as goal

pub returns-then-k-stop : goal.returns-then-k-stop
returns-then-k-stop c =
    rise-met _ _ _ (omega arith) _ _ refl
    (c.min-ahead.ensures ∙ ap (min _) c.index_at.ensures) c.stop_before.ensures
    c.min-stop.ensures c.rise_frame-k.ensures c.if-k-stop.true
    c.index_seconds.ensures c.moved_to.ensures

pub returns : goal.returns
returns c = rise-none _ _ _ (omega arith) _ _ refl (c.min-ahead.ensures ∙ ap (min _) c.index_at.ensures) c.stop_before.ensures c.min-stop.ensures c.rise_frame-k.ensures c.if-k-stop.false
