-- `share::total` meets its contract: the sum of so few letters is small. Assumes nothing.
use Rattle.std.proofs.Common.{◌≡◌, ℕ, ◌-◌, ◌^◌, ap, ◌∙◌, rules, arith, le→leb}
use Rattle.std.specs.List.{sum as sum_all}
use lib.Ieee.{in_float}
use Rattle.base.specs.Floats.{num}
use Rattle.share.specs.Share.{sum}
use Rattle.share.proofs.Sums.{sum-is, sum-between}
use Rattle.share.proofs.total.Goals as goal
use Rattle.share.proofs.total.Goals.{After-sum-n}

whole : (c : After-sum-n) → c.sum-n.result ≡ sum c.args.letters.now
whole c = let s : c.sum-n.result ≡ sum_all c.args.letters.now = search rules in s ∙ sum-is c.args.letters.now

pub int_to_float-result : goal.int_to_float-result
unfolding in_float
int_to_float-result c =
    let most = (sum-between 0 (2 ^ 32 - 1) c.args.letters.now (λ i k. (omega arith, omega (arith, c.type_inv.letters i)))).1 in
    le→leb c.sum-n.result (2 ^ 53) (omega (arith, most, whole (goal.at.int_to_float-result c).After-sum-n))

pub returns : goal.returns
returns c = ap (λ (k : ℕ). num k) (whole (goal.at.returns c).After-sum-n)
