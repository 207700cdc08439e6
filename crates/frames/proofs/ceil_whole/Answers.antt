-- `frames::ceil_whole` meets its contract: below 2 ^ 53 by the comparison of x with its whole part, and from there on x is whole. Assumes nothing.
use Rattle.std.proofs.Common.{T, sym, ◌∙◌, subst}
use Rattle.frames.proofs.Rounding.{ceil-small, ceil-large}
use Rattle.frames.proofs.ceil_whole.Goals as goal

pub returns-then-k-x : goal.returns-then-k-x
returns-then-k-x c = sym (ceil-small _ c.saturating_f64_to_u64-k.ensures c.if-k-lt9007199254740992.true ∙ rw c.if-k-x.true)

pub returns-then-k-lt9007199254740992 : goal.returns-then-k-lt9007199254740992
returns-then-k-lt9007199254740992 c = sym (ceil-small _ c.saturating_f64_to_u64-k.ensures c.if-k-lt9007199254740992.true ∙ rw c.if-k-x.false)

pub returns : goal.returns
returns c = ceil-large c.args.x (subst T (sym c.well_formed.0.1) tt) c.saturating_f64_to_u64-k.ensures c.if-k-lt9007199254740992.false
