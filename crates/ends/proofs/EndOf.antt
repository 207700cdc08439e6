-- A word that is no pair: its times, by what the code's parts give. Assumes nothing.
use Rattle.std.specs.Prelude.{Option}
use Prim.Native.Nat.{ℕ, min}
use mathlib.Core.List.{List}
use mathlib.Core.Path.{◌≡◌, sym, ap, ◌∙◌}
use lib.IntN.{pos}
use lib.ListN.{length}
use lib.Ieee.{Float}
use Rattle.base.specs.Words.{edge_quiet}
use Rattle.base.specs.Whole.{to_nat}
use Rattle.base.specs.declared.Times.{Times}
use Rattle.frames.specs.Frames.{frame_at}
use Rattle.envelope.specs.Envelope.{loud_row}
use Rattle.ends.specs.Ends.{last_loud, sound_end, reach, or_duration, trimmed, end_of}
use Rattle.ends.proofs.SoundEnds.{last_loud-is}

module _ (floor : Float) (levels : List Float) (duration : Float) (next : Option Float) (w : Times) where
  pub end_of_is : {lo hi : ℕ} {s : Option Float} {limit : Float} {r : Times} → lo ≡ to_nat (frame_at w.start)
      → hi ≡ min (length levels) (to_nat (frame_at (reach next duration w.start)))
      → s ≡ sound_end (last_loud edge_quiet (loud_row floor levels) (pos lo) (pos hi))
      → limit ≡ or_duration next duration → r ≡ trimmed s limit w → r ≡ end_of (loud_row floor levels) duration next w
  unfolding end_of
  end_of_is {lo} {hi} islo ishi es el er =
      let l = last_loud-is edge_quiet floor levels (frame_at w.start) (frame_at (reach next duration w.start)) lo hi islo ishi in
      er ∙ rw (el, es ∙ ap sound_end (sym l))
