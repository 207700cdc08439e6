-- The places that a job is read into. Assumes nothing.
use Rattle.std.specs.Prelude.{◌≡◌, length}
use Rattle.job_io.specs.declared.buffers.Buffers.{Buffers}

-- ---- Both hold the same places: what is written to the one is written to the places that were lent.
abbrev pub SamePlaces : Buffers → Buffers → Type 0
SamePlaces a b =
    (a.table.ghost_name ≡ b.table.ghost_name)
    × ((a.bodies.ghost_name ≡ b.bodies.ghost_name)
    × ((a.bytes.ghost_name ≡ b.bytes.ghost_name)
    × ((a.samples.ghost_name ≡ b.samples.ghost_name)
    × ((a.levels.ghost_name ≡ b.levels.ghost_name)
    × ((length a.bodies.now ≡ length b.bodies.now)
    × ((length a.bytes.now ≡ length b.bytes.now)
    × ((length a.samples.now ≡ length b.samples.now) × (length a.levels.now ≡ length b.levels.now))))))))
