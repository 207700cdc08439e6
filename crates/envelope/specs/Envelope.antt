-- envelope.rs, and document 01's "Levels": levels, peak and floor, loud and quiet frames, the calls. Assumes nothing.
use Rattle.base.specs.declared.Refusal.{Refusal}
use Rattle.std.specs.Prelude.{ℕ, ◌*◌, ◌/◌, Bool, false, cond, not, ◌&&◌, List, [], ◌∷◌, ◌++◌, map, length, take, drop, ℤ, pos, negsuc, ◌==◌, from_bits, is_nan, slice_index_or, to_bits, Float, Ok, Err, Result}
use Rattle.std.specs.Float.{binary64}
use Rattle.std.specs.Float.Ieee.{add, mul, div, lt, le}
use Rattle.base.specs.Loop.{fold, table}
use Rattle.roots.specs.Sqrt.{sqrt}
use Rattle.js.specs.Js.{js_max}
use Rattle.base.specs.Refusals.{Test, test, first, Rule}
use Rattle.base.specs.declared.Refusal.TheVariants.{Counts, Places}
use Rattle.limits.specs.Limits.{many_samples, few_places}

-- ======== The levels of a recording.

-- ---- HOP: samples in a frame.
abbrev pub hop : ℕ
hop = 160

-- ---- The doubles 0 and 160.
abbrev pub zero_f : Float
zero_f = from_bits binary64 0

abbrev pub hop_f : Float
hop_f = from_bits binary64 0x4064_0000_0000_0000

-- ---- "widen to f64, add the squares in order from 0". (An f32 and the f64 that it widens to are one value.)
abbrev pub plus_square : Float → Float → Float
plus_square e s = add binary64 e (mul binary64 s s)

unfoldable pub squares : List Float → Float
squares frame = fold plus_square zero_f frame

-- ---- "divide by 160, take the root"
unfoldable pub level : List Float → Float
level frame = sqrt binary64 (div binary64 (squares frame) hop_f)

-- ---- "A tail under 160 is no frame."
abbrev pub frames : List Float → ℕ
frames samples = length samples / hop

-- ---- The samples of frame k.
unfoldable pub frame : List Float → ℕ → List Float
frame samples k = take hop (drop (k * hop) samples)

-- ---- The level of each whole frame.
unfoldable pub levels : List Float → List Float
levels samples = table (λ (k : ℕ). level (frame samples k)) (frames samples) 0

-- ======== The floor under levels, and whether a floor is theirs.

-- ---- The doubles 1e-9 (MIN_PEAK) and that nearest to 0.01.
abbrev pub min_peak : Float
min_peak = from_bits binary64 0x3e11_2e0b_e826_d695

abbrev pub hundredth : Float
hundredth = from_bits binary64 0x3f84_7ae1_47ae_147b

-- ---- "Peak is the maximum of 1e-9 and all levels; floor is peak × 0.01."
unfoldable pub peak : List Float → Float
peak ls = fold js_max min_peak ls

unfoldable pub floor : List Float → Float
floor ls = mul binary64 (peak ls) hundredth

-- ---- Two numbers have the same bits; any NaN is like any other.
abbrev pub alike : Float → Float → Bool
alike x y = cond (is_nan x) (is_nan y) (not (is_nan y) && to_bits binary64 x == to_bits binary64 y)

-- ---- Whether a floor is the one that these levels give.
unfoldable pub own_floor : List Float → Float → Bool
own_floor ls f = alike (floor ls) f

-- ======== The rows of loud and of quiet frames.

-- ---- "Loud: level > floor, frame existing." Row by row; a frame outside the row is not loud.
unfoldable pub loud_row : Float → List Float → List Bool
loud_row f ls = map (λ v. lt f v) ls

-- ---- Envelope::loud, of a frame that may be negative: a frame outside the row is not loud.
abbrev pub loud : List Bool → ℤ → Bool
loud row (pos k) = slice_index_or row k false
loud row (negsuc k) = false

-- ---- "Quiet, for pieces only: level <= floor."
unfoldable pub quiet_row : Float → List Float → List Bool
quiet_row f ls = map (λ v. le v f) ls

-- ======== What the public calls of `envelope` answer and leave.

-- ---- What the call gives back, the floor ("floor is peak × 0.01") or why it refuses; and what the lent places hold afterwards.
pub record Output : Type 0 where
  pub answer : Result Float Refusal
  pub places : List Float

abbrev pub output : Result Float Refusal → List Float → Output
output a p = record { answer = a; places = p }

-- ---- Refusals 4 and 6: "Needs one place per frame".
unfoldable pub tests : List Float → List Float → List Test
tests samples places = test (many_samples (length samples)) Counts ∷ test (few_places (length places) (frames samples)) Places ∷ []

-- ---- "further places stay"
unfoldable pub accepted : List Float → List Float → Output
accepted samples places = output (Ok (floor (levels samples))) (levels samples ++ drop (frames samples) places)

abbrev pub by_rule : Rule → List Float → List Float → Output
by_rule (Ok u) samples places = accepted samples places
by_rule (Err r) samples places = output (Err r) places

unfoldable pub envelope_call : List Float → List Float → Output
envelope_call samples places = by_rule (first (tests samples places)) samples places
