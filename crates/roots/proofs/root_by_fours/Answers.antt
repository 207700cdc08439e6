-- `roots::root_by_fours` meets its contract. The loop's invariant is `Fours`; the measure is the exponent. Assumes nothing.
use mathlib.Core.Path.{refl}
use Prim.Native.Nat.{◌+◌, ◌*◌, ◌^◌, ◌<◌}
use native.Mathlib.Nat.{le_refl}
use native.Mathlib.Omega.{arith}
use lib.Ieee.{binary64}
use Rattle.roots.specs.Parts.{Rooted}
use Rattle.roots.specs.Sqrt.{round_root}
use Rattle.roots.proofs.Fours.{exponent-left, by-four, root-bits}
use Rattle.roots.proofs.root_by_fours.Goals as goal

-- in a turn the exponent is not 0
turn : (c : goal.In-loop-a) → 0 < c.loop-a.c
turn c = exponent-left c.args.m c.args.h c.loop-a.a c.loop-a.c c.requires.0 c.requires.2 c.loop-a.invariant c.loop-a-test.true

pub loop-a-init : goal.loop-a-init
loop-a-init c = record { same = refl; below = c.requires.1; no_more = le_refl c.args.h }

pub overflow_sub-c : goal.overflow_sub-c
overflow_sub-c c = turn c

pub loop-a-smaller : goal.loop-a-smaller
loop-a-smaller c = let t = turn c in omega arith

pub loop-a-preserved : goal.loop-a-preserved
loop-a-preserved c =
    by-four c.args.m c.args.h c.loop-a.a c.loop-a.c (turn c) c.loop-a.invariant c.loop-a-test.true

rooted : (c : goal.After-near_digits)
    → Rooted (round_root binary64 (c.args.m * 4 ^ c.args.h * 2 ^ 52)) (c.loop-a.c * 2 ^ 52 + c.near_digits.result)
rooted c =
    let l = c.loop-a in
    root-bits l.a c.loop-a-test.false l.invariant.below c.args.m c.args.h l.c c.near_digits.result c.requires.3 l.invariant c.near_digits.ensures

pub overflow_add-result : goal.overflow_add-result
overflow_add-result c = let r = rooted c in omega arith

pub returns : goal.returns
returns c = rooted c
