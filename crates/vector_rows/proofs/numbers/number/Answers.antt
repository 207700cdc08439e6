-- `number` is safe: a number of fewer than 16 digits has room for one more. Assumes nothing.
use Rattle.std.proofs.Common.{ℕ, ◌^◌, ◌<◌, ◌≤◌, arith}
use Rattle.std.proofs.Math.Nat.{pow-le-pow_right}
use Rattle.vector_rows.proofs.numbers.number.Goals as goal

short : (n i : ℕ) → i < 16 → n < 16 ^ i → n < 16 ^ 15
short n i digits fits = let most : 16 ^ i ≤ 16 ^ 15 = pow-le-pow_right {n = 16} (omega arith) {i = i} {j = 15} (omega arith) in omega arith

pub overflow_mul-number : goal.overflow_mul-number
overflow_mul-number c = let below = short c.loop-c.number c.loop-c.c-index (omega arith) c.loop-c.invariant.fits in record { fits = omega arith }

pub overflow_add-number : goal.overflow_add-number
overflow_add-number c =
    let below = short c.loop-c.number c.loop-c.c-index (omega arith) c.loop-c.invariant.fits in
    let digit = c.in_ok-number.ensures.bound in
    record { fits = omega arith }
