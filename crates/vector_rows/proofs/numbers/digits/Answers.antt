-- `digits` meets its contract: the call at place i gives digit i. Assumes nothing.
use Rattle.std.proofs.Common.{rules}
use Rattle.vector_rows.specs.Numbers.{digit_at}
use Rattle.vector_rows.proofs.FromFn.{map-from_fn}
use Rattle.vector_rows.proofs.numbers.digits.Goals as goal

pub returns : goal.returns
returns c = map-from_fn _ _ (digit_at c.args.number) (λ i y q called. (search rules, search rules)) _ 16 0 c.from_fn.ensures.items
