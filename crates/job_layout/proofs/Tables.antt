-- A table that holds has its numbers within the limits, and its bodies follow each other without gaps. Assumes nothing.
use mathlib.Core.Bool.{Bool, true, false, cond}
use mathlib.Core.Path.{◌≡◌, refl, sym, ap}
use Rattle.std.specs.Prelude.{Ok, Err}
use Rattle.base.specs.declared.Refusal.TheVariants.{Counts, Layout}
use Rattle.job_layout.specs.declared.Numbers.{Numbers}
use Rattle.job_layout.specs.Layout.{Contents, too_many, gapless}
use Rattle.job_layout.specs.Parts.{plan_of}

-- ---- What holds is within the limits, and its bodies follow each other without gaps.
pub holds-within : (c : Contents) (numbers : Numbers) → plan_of c ≡ Ok numbers
    → (too_many c ≡ false) × ((gapless c ≡ true) × ((numbers.words ≡ c.words) × ((numbers.spans ≡ c.spans) × (numbers.samples ≡ c.samples))))
unfolding plan_of
holds-within c numbers h = go (too_many c) (gapless c) h
  where
    go : (t g : Bool) → cond t (Err Counts) (cond g (Ok (record { words = c.words; spans = c.spans; samples = c.samples })) (Err Layout)) ≡ Ok numbers
        → (t ≡ false) × ((g ≡ true) × ((numbers.words ≡ c.words) × ((numbers.spans ≡ c.spans) × (numbers.samples ≡ c.samples))))
    go true g e = absurd cc
    go false false e = absurd cc
    go false true e =
        let n : record { words = c.words; spans = c.spans; samples = c.samples } ≡ numbers = cc in
        (refl, (refl, (sym (ap (λ (m : Numbers). m.words) n), (sym (ap (λ (m : Numbers). m.spans) n), sym (ap (λ (m : Numbers). m.samples) n)))))
