-- What only the contracts of the readers cite; a reader of the layout may skip it. Assumes nothing.
use Rattle.std.specs.Prelude.{cond, Result, Ok, Err}
use Rattle.base.specs.declared.Refusal.{Refusal}
use Rattle.base.specs.declared.Refusal.TheVariants.{Counts, Layout}
use Rattle.job_layout.specs.declared.Numbers.{Numbers}
use Rattle.job_layout.specs.Layout.{Contents, too_many, gapless}

-- ---- "numbers (4), offsets .. (5)": what a table says.
unfoldable pub plan_of : Contents → Result Numbers Refusal
plan_of c =
    cond (too_many c) (Err Counts)
    (cond (gapless c) (Ok (record { words = c.words; spans = c.spans; samples = c.samples }))
    (Err Layout))
