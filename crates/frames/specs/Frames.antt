-- envelope.rs, and document 01's "Numbers": times in seconds, and frames of 160 samples at 16,000 samples a second. Assumes nothing.
use Rattle.std.specs.Prelude.{ℕ, ◌+◌, ◌-◌, ◌*◌, ◌/◌, ◌^◌, Bool, true, false, cond, ℤ, pos, ◌*ℤ◌, neg_ℤ, from_bits, Float}
use Rattle.std.specs.Float.{nan, inf, fin, binary64}
use Rattle.std.specs.Float.Ieee.{mul, div, of_int, up, down}
use Rattle.base.specs.Whole.{min_z, max_z}

-- ---- RATE, 16000 samples a second, as f64.
abbrev pub rate : Float
rate = from_bits binary64 0x40cf_4000_0000_0000

-- ---- HOP, 160 samples in a frame, as f64.
abbrev pub hop : Float
hop = from_bits binary64 0x4064_0000_0000_0000

-- ---- "t × 16000, rounded once, divided by 160, rounded once"
abbrev pub in_frames : Float → Float
in_frames t = div binary64 (mul binary64 t rate) hop

-- ---- The largest whole number at or below ±a / b.
abbrev pub floor_z : Bool → ℕ → ℕ → ℤ
floor_z false a b = pos (a / b)
floor_z true a b = neg_ℤ (pos ((a + (b - 1)) / b))

-- ---- The least whole number at or above ±a / b.
abbrev pub ceil_z : Bool → ℕ → ℕ → ℤ
ceil_z false a b = pos ((a + (b - 1)) / b)
ceil_z true a b = neg_ℤ (pos (a / b))

-- ---- The least and the largest i64.
abbrev pub min_i64 : ℤ
min_i64 = neg_ℤ (pos (2 ^ 63))

abbrev pub max_i64 : ℤ
max_i64 = pos (2 ^ 63 - 1)

-- ---- A whole number `as i64`: where it is out of range, the end of the range that is nearest.
abbrev pub saturate : ℤ → ℤ
saturate z = max_z min_i64 (min_z z max_i64)

-- ---- x.floor() as i64; NaN gives 0.
unfoldable pub floor_i64 : Float → ℤ
floor_i64 nan = pos 0
floor_i64 (inf s) = cond s min_i64 max_i64
floor_i64 (fin s m e) = saturate (floor_z s (m * up e) (down e))

-- ---- x.ceil() as i64.
unfoldable pub ceil_i64 : Float → ℤ
ceil_i64 nan = pos 0
ceil_i64 (inf s) = cond s min_i64 max_i64
ceil_i64 (fin s m e) = saturate (ceil_z s (m * up e) (down e))

-- ---- frame_at: "then floor"
unfoldable pub frame_at : Float → ℤ
frame_at t = floor_i64 (in_frames t)

-- ---- frame_ceil: "or ceiling"
unfoldable pub frame_ceil : Float → ℤ
frame_ceil t = ceil_i64 (in_frames t)

-- ---- frame_from_zero: "'From zero' raises a negative frame to 0."
unfoldable pub frame_from_zero : Float → ℤ
frame_from_zero t = max_z (frame_at t) (pos 0)

-- ---- frame_seconds: "k × 160 / 16000 in f64"
unfoldable pub frame_seconds : ℤ → Float
frame_seconds k = div binary64 (of_int binary64 (k *ℤ pos 160)) rate
