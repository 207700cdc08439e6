-- `levels` meets its contract: the call at a frame gives its level. Assumes nothing.
use Rattle.std.proofs.Common.{rules}
use Rattle.vector_rows.specs.Numbers.{level_of}
use Rattle.vector_rows.proofs.FromFn.{map-from_fn}
use Rattle.vector_rows.proofs.numbers.levels.Goals as goal

pub returns : goal.returns
returns c = map-from_fn _ _ (level_of c.args.recording) (λ i y q called. (search rules, search rules)) _ 64 (level_of 0 0) c.from_fn.ensures.items
