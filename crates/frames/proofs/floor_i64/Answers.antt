-- `frames::floor_i64` meets its contract, by the sign of x. Assumes nothing.
use Rattle.std.proofs.Common.{ℕ, ◌-◌, ◌^◌, min, pos, neg_ℤ, sym, ap, ◌∙◌}
use lib.Ieee.{of_bits}
use Rattle.frames.proofs.Signed.{read_back}
use Rattle.frames.proofs.Rounding.{minus-saturated, floor-sign}
use Rattle.frames.proofs.floor_i64.Goals as goal

pub returns-then-x : goal.returns-then-x
unfolding of_bits
returns-then-x c =
    read_back c.saturating_sub_unsigned.result c.saturating_sub_unsigned.type_inv
    ∙ c.saturating_sub_unsigned.ensures
    ∙ minus-saturated c.ceil_whole.result
    ∙ ap (λ (n : ℕ). neg_ℤ (pos (min n (2 ^ 63)))) c.ceil_whole.ensures
    ∙ sym (floor-sign c.args.x ∙ rw c.if-x.true)

pub returns : goal.returns
unfolding of_bits
returns c =
    read_back c.to_i64.result c.to_i64.type_inv
    ∙ c.to_i64.ensures
    ∙ ap (λ (n : ℕ). pos (min n (2 ^ 63 - 1))) c.saturating_f64_to_u64.ensures
    ∙ sym (floor-sign c.args.x ∙ rw c.if-x.false)
