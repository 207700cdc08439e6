-- `js::thousandths` meets its contract: the quotient by 2 ^ c, moved up where the rest is half or more. Assumes nothing.
use mathlib.Core.Path.{◌≡◌, sym, subst}
use Prim.Native.Nat.{ℕ, ◌*◌, ◌%◌, ◌^◌, ◌<◌, ◌≤◌}
use native.Mathlib.Nat.{mod-lt}
use native.Mathlib.Omega.{arith}
use lib.Pow.{pow_pos, pow_mono}
use Rattle.js.proofs.Patterns.{shifted, quotient, rounded-down, rounded-up}
use Rattle.js.proofs.thousandths.Goals as goal

unit : (k : ℕ) → k < 64 → 1 * 2 ^ k % 2 ^ 64 ≡ 2 ^ k
unit k h = shifted k h

some : (k : ℕ) → k < 64 → 0 < 1 * 2 ^ k % 2 ^ 64
some k h = subst (λ (u : ℕ). 0 < u) (sym (unit k h)) (pow_pos k)

half : (c u rest : ℕ) → u ≡ 2 ^ c → c < 64 → rest < u → rest * 2 < 2 ^ 64
half c u rest e h l = let k : 2 ^ c ≤ 2 ^ 63 = pow_mono {i = c} {j = 63} (omega arith) in omega arith

pub nonzero_div-n : goal.nonzero_div-n
nonzero_div-n c = some c.args.c c.requires.1.1

pub nonzero_rem-rest : goal.nonzero_rem-rest
nonzero_rem-rest c = some c.args.c c.requires.1.1

pub overflow_mul-rest-2 : goal.overflow_mul-rest-2
overflow_mul-rest-2 c = record { fits = half c.args.c _ _ (unit c.args.c c.requires.1.1) c.requires.1.1 (mod-lt _ (some c.args.c c.requires.1.1)) }

pub returns-then-rest-unit : goal.returns-then-rest-unit
returns-then-rest-unit c = rounded-down c.args.m c.args.c _ (unit c.args.c c.requires.1.1) c.requires.0 c.requires.1.0 c.if-rest-unit.true

pub overflow_add-result : goal.overflow_add-result
overflow_add-result c = omega (arith, quotient c.args.m c.args.c _ (unit c.args.c c.requires.1.1) c.requires.0 c.requires.1.0)

pub returns : goal.returns
returns c = rounded-up c.args.m c.args.c _ (unit c.args.c c.requires.1.1) c.requires.0 c.requires.1.0 c.if-rest-unit.false
