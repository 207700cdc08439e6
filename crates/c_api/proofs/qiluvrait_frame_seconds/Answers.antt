-- `c_api::qiluvrait_frame_seconds` meets its contract: k is handed on as its bits, and read back as k. Assumes nothing.
use mathlib.Core.Path.{ap, ◌∙◌}
use mir.Syntax.{w64}
use mir.Facts.{to_z-of_z}
use Rattle.frames.specs.Frames.{frame_seconds}
use Rattle.c_api.proofs.qiluvrait_frame_seconds.Goals as goal

pub returns : goal.returns
returns c = c.frame_seconds.ensures ∙ ap frame_seconds (to_z-of_z {w = w64} c.ranges.k)
