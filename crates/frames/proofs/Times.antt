-- Seconds of a frame. k * 160 in two halves: each half is an f64, and so is the upper one times 2 ^ 32, so that only their sum rounds.
-- A negative frame's seconds are those of its size, negated. Assumes nothing.
use Rattle.std.proofs.Common.{◌≡◌, ℕ, zero, suc, ◌+◌, ◌*◌, ◌/◌, ◌%◌, ◌^◌, ◌<◌, ◌≤◌, true, false, cond, ℤ, pos, negsuc, neg_ℤ, nat_abs, sym, refl, ap, ◌∙◌, lt_of_lt_of_le, le_of_lt, mul_assoc, mul_comm, mul-one, arith, lit<, lit≤, pow_mono, pow-add, shl_lt, le-ltb}
use lib.Signed.{lt_z}
use lib.Ieee.{Float, nan, inf, fin, Format, binary64, prec, emax, low, up, down, round, neg, add, mul, div, of_bits, of_int}
use lib.Ieee.Exact.{round_exact}
use Rattle.base.proofs.Signs.{neg-neg, round-neg}
use Rattle.base.proofs.Values.{Whole, whole-value, whole-int, mul-whole, add-whole}
use Rattle.frames.specs.Frames.{rate, frame_seconds}

module _ (f : Format) where
  -- f holds a number of prec digits times a power of two
  whole-shifted : (a k : ℕ) → a < 2 ^ prec f → prec f + k ≤ suc (emax f) → Whole (of_int f (pos (a * 2 ^ k))) (a * 2 ^ k)
  unfolding of_int
  whole-shifted a k h r =
      whole-value (round f false (a * 2 ^ k) 1) (a * 2 ^ k)
      (round_exact f false (a * 2 ^ k) 1 a (low f + k) (lit< tt) h
      (lt_of_lt_of_le (shl_lt (prec f) (low f + k) h) (pow_mono (omega arith)))
      (mul_assoc a (2 ^ k) (2 ^ low f) ∙ ap (λ (x : ℕ). a * x) (mul_comm (2 ^ k) (2 ^ low f) ∙ sym (pow-add 2 (low f) k)) ∙ sym (mul-one (a * 2 ^ (low f + k)))))

  halves : (a b : ℕ) → a < 2 ^ prec f → b ≤ 2 ^ prec f → prec f + 32 ≤ suc (emax f) → add f (mul f (of_int f (pos a)) (fin false 1 (pos 32))) (of_int f (pos b)) ≡ of_int f (pos (a * 2 ^ 32 + b))
  halves a b h l r = rw (mul-whole f (whole-int f a (le_of_lt h)) (whole-value (fin false 1 (pos 32)) (2 ^ 32) (refl, refl))) (add-whole f (whole-shifted a 32 h r) (whole-int f b l))

pub samples-halves : (n : ℕ) → n < 2 ^ 64 → add binary64 (mul binary64 (of_int binary64 (pos (n / 2 ^ 32 * 160))) (fin false 1 (pos 32))) (of_int binary64 (pos (n % 2 ^ 32 * 160))) ≡ of_int binary64 (pos (n * 160))
samples-halves n h = halves binary64 (n / 2 ^ 32 * 160) (n % 2 ^ 32 * 160) (omega arith) (omega arith) (lit≤ tt) ∙ ap (λ (z : ℕ). of_int binary64 (pos z)) (omega arith)

-- ---- a negative frame

int-neg : (n : ℕ) → 0 < n → of_int binary64 (neg_ℤ (pos n)) ≡ neg (of_int binary64 (pos n))
unfolding of_int
int-neg zero h = absurd (omega arith)
int-neg (suc n) h = round-neg binary64 (suc n) 1

div-neg : (x : Float) → div binary64 (neg x) rate ≡ neg (div binary64 x rate)
unfolding div neg of_bits
div-neg nan = refl
div-neg (inf true) = refl
div-neg (inf false) = refl
div-neg (fin false m e) = round-neg binary64 (m * up e * 1) (125 * 2 ^ 7 * down e)
div-neg (fin true m e) = sym (ap neg (round-neg binary64 (m * up e * 1) (125 * 2 ^ 7 * down e)) ∙ neg-neg (round binary64 false (m * up e * 1) (125 * 2 ^ 7 * down e)))

-- k * 160 / 16000, by the sign of k
pub seconds-sign : (k : ℤ) → frame_seconds k ≡ cond (lt_z k (pos 0)) (neg (frame_seconds (pos (nat_abs k)))) (frame_seconds (pos (nat_abs k)))
unfolding frame_seconds
seconds-sign (pos n) = rw (le-ltb n 0 (omega arith))
seconds-sign (negsuc n) = ap (λ (x : Float). div binary64 x rate) (int-neg (suc n * 160) (omega arith)) ∙ div-neg (of_int binary64 (pos (suc n * 160)))
