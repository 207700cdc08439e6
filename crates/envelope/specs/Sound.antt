-- The sound of a recording, and the places of its levels. Assumes nothing.
use Rattle.std.specs.Prelude.{◌≡◌}
use Rattle.envelope.specs.declared.sound.Sound.{Sound}

-- ---- Both hold the same lists: what is written to the one is written to the places that were lent, and the samples stay.
abbrev pub SameLists : Sound → Sound → Type 0
SameLists a b = (a.levels.ghost_name ≡ b.levels.ghost_name) × (a.samples.now ≡ b.samples.now)
