-- Arrays lent in part: how long the parts are. Assumes nothing.
use Prim.Native.Nat.{ℕ, ◌-◌, ◌≤◌}
use mathlib.Core.List.{List}
use mathlib.Core.Path.{◌≡◌, ◌∙◌}
use native.Mathlib.Omega.{arith}
use lib.ListN.{length}
use Rattle.base.specs.Words.{part}
use Rattle.base.proofs.Parts.{part-long}

pub front_long : {A : Type 0} (xs : List A) (n : ℕ) → n ≤ length xs → length (part 0 n xs) ≡ n
front_long xs n h = part-long 0 n xs h ∙ (let z : n - 0 ≡ n = omega arith in z)
