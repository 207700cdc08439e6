-- Two recordings that meet the theorems' conditions, computed: 160 samples of 0.5 and then 160 of 0, and the same times 4, reversed: 160 of -2 and
-- 160 of -0. Both reach 1e-9, and of both the first frame is loud and the second quiet. And two with infinite samples: of both no frame is loud. Assumes nothing.
use mathlib.Core.Path.{◌≡◌, refl, sym, ◌∙◌}
use mathlib.Core.Logic.{inl, inr}
use mathlib.Core.Bool.{Bool, true, false}
use mathlib.Core.List.{List, [], ◌∷◌, ◌++◌}
use Prim.Native.Nat.{ℕ, zero, suc}
use lib.IntN.{ℤ, pos, negsuc}
use lib.Dec.{lit<}
use lib.ListN.{length, replicate}
use lib.Ieee.{Float, inf, fin, of_bits, add, mul, div, lt, eq, le, fits, is_nan}
use Rattle.base.specs.Loop.{fold, table}
use Rattle.js.specs.Js.{under, js_max}
use Rattle.roots.specs.Sqrt.{sqrt}
use Rattle.envelope.specs.Envelope.{squares, level, frame, levels, peak, floor, loud_row, quiet_row}
use Rattle.invariance.specs.Scaled.{Scaled, Sampled, none, next, Recorded, Loudest}
use Rattle.invariance.proofs.Rows.{rows_alike}

abbrev pub half : Float
half = fin false 1 (negsuc 0)

abbrev minus_two : Float
minus_two = fin true 1 (pos 1)

abbrev pub plus_zero : Float
plus_zero = fin false 0 (pos 0)

abbrev minus_zero : Float
minus_zero = fin true 0 (pos 0)

unfoldable pub recording : List Float
recording = replicate 160 half ++ replicate 160 plus_zero

unfoldable pub multiplied : List Float
multiplied = replicate 160 minus_two ++ replicate 160 minus_zero

-- n samples of x and of y, before others
repeated : {k : ℤ} {reversed : Bool} {x y : Float} {xs ys : List Float} (n : ℕ) → Sampled k reversed x y → Recorded k reversed xs ys → Recorded k reversed (replicate n x ++ xs) (replicate n y ++ ys)
repeated zero h e = e
repeated (suc n) h e = next h (repeated n h e)

pub recording-long : length recording ≡ 320
unfolding recording
recording-long = refl

pub multiplied-long : length multiplied ≡ 320
unfolding multiplied
multiplied-long = refl

pub recorded : Recorded (pos 2) true recording multiplied
unfolding recording multiplied fits
recorded =
    repeated 160 (record { first = tt; second = tt; scaled = (refl, inr refl) })
    (repeated 160 (record { first = tt; second = tt; scaled = (refl, inl refl) }) none)

pub reached : Loudest recording multiplied
unfolding recording multiplied levels level squares frame fold table sqrt of_bits add mul div le
reached = inr ((0, lit< tt, tt), (0, lit< tt, tt))

-- the levels are 0.5 and 0, and beside them 2 and 0
pub recording-levels : levels recording ≡ half ∷ (plus_zero ∷ [])
unfolding recording levels level squares frame fold table sqrt of_bits add mul div
recording-levels = refl

pub multiplied-levels : levels multiplied ≡ fin false 1 (pos 1) ∷ (plus_zero ∷ [])
unfolding multiplied levels level squares frame fold table sqrt of_bits add mul div
multiplied-levels = refl

-- of both the first frame is loud, and the second quiet
recording-loud : loud_row (floor (levels recording)) (levels recording) ≡ true ∷ (false ∷ [])
unfolding loud_row floor peak fold js_max under of_bits mul is_nan lt eq
recording-loud = rw recording-levels

recording-quiet : quiet_row (floor (levels recording)) (levels recording) ≡ false ∷ (true ∷ [])
unfolding quiet_row floor peak fold js_max under of_bits mul is_nan lt eq le
recording-quiet = rw recording-levels

multiplied-loud : loud_row (floor (levels multiplied)) (levels multiplied) ≡ true ∷ (false ∷ [])
multiplied-loud = sym (rows_alike (pos 2) true recording multiplied recorded reached).0 ∙ recording-loud

multiplied-quiet : quiet_row (floor (levels multiplied)) (levels multiplied) ≡ false ∷ (true ∷ [])
multiplied-quiet = sym (rows_alike (pos 2) true recording multiplied recorded reached).1 ∙ recording-quiet

-- ---- infinite samples: 160 of +infinity and then 160 of 0.5, and the same times 4, reversed
infinity-scaled : Scaled (pos 1) true (inf false) (inf true)
infinity-scaled = refl

unfoldable overloaded : List Float
overloaded = replicate 160 (inf false) ++ replicate 160 half

unfoldable turned : List Float
turned = replicate 160 (inf true) ++ replicate 160 minus_two

overloaded-recorded : Recorded (pos 2) true overloaded turned
unfolding overloaded turned fits
overloaded-recorded =
    repeated 160 (record { first = tt; second = tt; scaled = refl })
    (repeated 160 (record { first = tt; second = tt; scaled = (refl, inr refl) }) none)

overloaded-reached : Loudest overloaded turned
unfolding overloaded turned levels level squares frame fold table sqrt of_bits add mul div le lt eq
overloaded-reached = inr ((0, lit< tt, tt), (0, lit< tt, tt))

-- the levels are +infinity and 0.5; no frame is loud, and both are quiet
overloaded-levels : levels overloaded ≡ inf false ∷ (half ∷ [])
unfolding overloaded levels level squares frame fold table sqrt of_bits add mul div
overloaded-levels = refl

overloaded-loud : loud_row (floor (levels overloaded)) (levels overloaded) ≡ false ∷ (false ∷ [])
unfolding loud_row floor peak fold js_max under of_bits mul is_nan lt eq
overloaded-loud = rw overloaded-levels

overloaded-quiet : quiet_row (floor (levels overloaded)) (levels overloaded) ≡ true ∷ (true ∷ [])
unfolding quiet_row floor peak fold js_max under of_bits mul is_nan lt eq le
overloaded-quiet = rw overloaded-levels

turned-loud : loud_row (floor (levels turned)) (levels turned) ≡ false ∷ (false ∷ [])
turned-loud = sym (rows_alike (pos 2) true overloaded turned overloaded-recorded overloaded-reached).0 ∙ overloaded-loud

turned-quiet : quiet_row (floor (levels turned)) (levels turned) ≡ true ∷ (true ∷ [])
turned-quiet = sym (rows_alike (pos 2) true overloaded turned overloaded-recorded overloaded-reached).1 ∙ overloaded-quiet
