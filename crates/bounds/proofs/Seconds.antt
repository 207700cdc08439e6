-- How large the frame of a time is, and the time of a frame: a second has 100 frames, so a sixty-fourth has 25 / 16. Each operation rounds at most to
-- a whole number, to a sixteenth or to a sixty-fourth, which are values of the format. Assumes nothing.
use Prim.Native.Nat.{ℕ, zero, suc, ◌+◌, ◌-◌, ◌*◌, ◌/◌, ◌<◌, ◌≤◌, ◌^◌}
use mathlib.Core.Bool.{Bool, true, false}
use mathlib.Core.Path.{◌≡◌, refl}
use native.Mathlib.Nat.{le_refl, mul-le-mul_right, le_of_mul-le-mul_right, div-mul-le_self}
use native.Mathlib.Omega.{arith}
use borrow.Author.Tests.{ltb-true, ltb-false}
use lib.IntN.{ℤ, pos, negsuc, neg_ℤ, nat_abs}
use lib.Dec.{ltb, lit<, lit≤}
use lib.Ieee.{Float, nan, inf, fin, binary64, up, down, unlike, round, mul, div, of_bits, of_int}
use lib.Ieee.Fits.{down_pos}
use Rattle.base.proofs.Most.{round-most, held}
use Rattle.frames.specs.Frames.{rate, hop, in_frames, saturate, floor_i64, frame_at, frame_seconds}
use Rattle.bounds.specs.Bounds.{Under, hour}
use Rattle.base.specs.Floats.{Most}
use Rattle.bounds.proofs.Rounding.{under_more, round_under}

-- ---- the time of a frame
whole-most : (s : Bool) (n : ℕ) → n < 2 ^ 53 → Most s n 1 (round binary64 s n 1)
whole-most s n h = round-most binary64 n 1 n 1 (lit< tt) (lit< tt) (held binary64 n 0 h (lit≤ tt)) (le_refl (n * 1)) s

-- n is at most b sixty-fourths of 16,000
module _ (b n : ℕ) (B : b < 2 ^ 40) (l : n * 64 ≤ b * 16000) where
  in-seconds : (s : Bool) (x : Float) → Most s n 1 x → Under b (div binary64 x rate)
  unfolding div of_bits
  in-seconds s nan h = absurd h
  in-seconds s (inf t) h = absurd h
  in-seconds s (fin t m e) h =
      round_under 6 (lit≤ tt) (unlike t false) (m * up e * 1) (125 * 2 ^ 7 * down e) b (omega (arith, down_pos e)) (omega arith) (cross (m * up e) (down e) h.1)
    where
      cross : (X E : ℕ) → X * 1 ≤ n * E → X * 1 * 64 ≤ b * (125 * 2 ^ 7 * E)
      cross X E h = let r : n * 64 * E ≤ b * 16000 * E = mul-le-mul_right E l in omega arith

  pub plus-under : Under b (div binary64 (of_int binary64 (pos n)) rate)
  unfolding of_int
  plus-under = in-seconds false (round binary64 false n 1) (whole-most false n (omega arith))

minus-under : (b n : ℕ) → b < 2 ^ 40 → n * 64 ≤ b * 16000 → Under b (div binary64 (of_int binary64 (neg_ℤ (pos n))) rate)
unfolding of_int
minus-under b zero B l = plus-under b 0 B l
minus-under b (suc n) B l = in-seconds b (suc n) B l true (round binary64 true (suc n) 1) (whole-most true (suc n) (omega arith))

pub seconds-under : (b : ℕ) (k : ℤ) → b < 2 ^ 40 → nat_abs k * 16 ≤ b * 25 → Under b (frame_seconds k)
unfolding frame_seconds
seconds-under b (pos n) B l = plus-under b (n * 160) B (omega arith)
seconds-under b (negsuc n) B l = minus-under b (suc n * 160) B (omega arith)

-- ---- a frame of an hour has a time of at most an hour
pub hour-under : (b : ℕ) (k : ℤ) → hour ≤ b → nat_abs k ≤ 360000 → Under b (frame_seconds k)
hour-under b k l h = under_more 64 hour b (frame_seconds k) l (seconds-under hour k (lit< tt) (omega arith))

-- ---- the frame of a time
module _ (b : ℕ) (B : b < 2 ^ 40) where
  in-samples : (t : Float) → Under b t → (s : Bool) × Most s (b * 250) 1 (mul binary64 t rate)
  unfolding mul of_bits
  in-samples nan h = absurd h
  in-samples (inf s) h = absurd h
  in-samples (fin s m e) h = (
    unlike s false,
    round-most binary64 (m * up e * (125 * 2 ^ 7)) (down e * 1) (b * 250) 1 (omega (arith, down_pos e)) (lit< tt) (held binary64 (b * 250) 0 (omega arith) (lit≤ tt)) (omega arith)
        (unlike s false),
  )

  in-hops : (s : Bool) (x : Float) → Most s (b * 250) 1 x → (r : Bool) × Most r (b * 25) 16 (div binary64 x hop)
  unfolding div of_bits
  in-hops s nan h = absurd h
  in-hops s (inf t) h = absurd h
  in-hops s (fin t m e) h = (
    unlike t false,
    round-most binary64 (m * up e * 1) (5 * 2 ^ 5 * down e) (b * 25) 16 (omega (arith, down_pos e)) (lit< tt) (held binary64 (b * 25) 4 (omega arith) (lit≤ tt)) (omega (arith, h.1))
        (unlike t false),
  )

-- an i64 is no larger than the number that it is nearest to
sat-size : (z : ℤ) → nat_abs (saturate z) ≤ nat_abs z
sat-size (pos n) = go (ltb (2 ^ 63 - 1) n) refl
  where
    go : (t : Bool) → ltb (2 ^ 63 - 1) n ≡ t → nat_abs (saturate (pos n)) ≤ n
    go true t = let h = ltb-true (2 ^ 63 - 1) n t in rw t (omega arith)
    go false t = rw t (omega arith)
sat-size (negsuc n) = go (ltb n (2 ^ 63 - 1)) refl
  where
    go : (t : Bool) → ltb n (2 ^ 63 - 1) ≡ t → nat_abs (saturate (negsuc n)) ≤ suc n
    go true t = rw t (omega arith)
    go false t = let h = ltb-false n (2 ^ 63 - 1) t in rw t (omega arith)

neg-size : (n : ℕ) → nat_abs (neg_ℤ (pos n)) ≡ n
neg-size zero = refl
neg-size (suc n) = refl

floor-size : (s : Bool) (c : ℕ) (x : Float) → Most s c 16 x → nat_abs (floor_i64 x) * 16 ≤ c + 16
unfolding floor_i64
floor-size s c nan h = absurd h
floor-size s c (inf t) h = absurd h
floor-size s c (fin false m e) h =
    let q : ℕ = m * up e / down e in
    let l : q * 16 ≤ c = most q (m * up e) (down e) (down_pos e) (div-mul-le_self (m * up e) (down e)) h.1 in
    omega (arith, sat-size (pos q))
  where
    most : (q X E : ℕ) → 0 < E → q * E ≤ X → X * 16 ≤ c * E → q * 16 ≤ c
    most q X E p u v = le_of_mul-le-mul_right {k = E} (omega arith) p
floor-size s c (fin true m e) h =
    let q : ℕ = (m * up e + (down e - 1)) / down e in
    let l : q * 16 ≤ c + 16 = most q (m * up e) (down e) (down_pos e) (div-mul-le_self (m * up e + (down e - 1)) (down e)) h.1 in
    omega (arith, sat-size (neg_ℤ (pos q)), neg-size q)
  where
    most : (q X E : ℕ) → 0 < E → q * E ≤ X + (E - 1) → X * 16 ≤ c * E → q * 16 ≤ c + 16
    most q X E p u v = le_of_mul-le-mul_right {k = E} (omega arith) p

pub frame-size : (b : ℕ) (t : Float) → b < 2 ^ 40 → Under b t → nat_abs (frame_at t) * 16 ≤ b * 25 + 16
unfolding frame_at
frame-size b t B h =
    let s = in-samples b B t h in
    let f = in-hops b B s.0 (mul binary64 t rate) s.1 in
    floor-size f.0 (b * 25) (in_frames t) f.1
