-- `job_layout::f32_at` meets its contract: the single of four bytes. Assumes nothing.
use Rattle.std.proofs.Common.{ap, ◌∙◌}
use Rattle.std.specs.Float.{binary32}
use Rattle.std.specs.Float.Ieee.{of_bits}
use Rattle.job_layout.specs.Layout.{f32_at, u32_at}
use Rattle.job_layout.proofs.f32_at.Goals as goal

pub returns : goal.returns
unfolding f32_at u32_at
returns c = c.f32_from_bits_with_nan.ensures ∙ ap (of_bits binary32) c.u32_at.ensures
