-- How far a share-out drifts from the exact one, in whole numbers: a time is `plus` less `minus` of the smallest
-- doubles, a second is 2^1074 of them and 2^-40 s are 2^1034. Assumes nothing.
use Rattle.std.specs.Prelude.{ℕ, ◌+◌, ◌-◌, ◌*◌, ◌/◌, ◌^◌, ◌≤◌, ◌<◌, cond, T, Float}
use Rattle.std.specs.Float.{nan, inf, fin, binary64}
use Rattle.std.specs.Float.Ieee.{fits, up, down}
use Rattle.std.specs.Float.Ieee.Exact.{HasValue}
use Rattle.js.specs.Js.{negative}

-- ---- How many c-ths a number is in size, above zero and below zero.
abbrev pub amount : ℕ → Float → ℕ
amount c nan = 0
amount c (inf s) = 0
amount c (fin s m e) = m * up e * c / down e

abbrev pub plus : ℕ → Float → ℕ
plus c x = cond (negative x) 0 (amount c x)

abbrev pub minus : ℕ → Float → ℕ
minus c x = cond (negative x) (amount c x) 0

-- ---- x is finite, and a whole number of c-ths.
abbrev pub Counted : ℕ → Float → Type 0
Counted c x = HasValue x (negative x) (amount c x) c

-- ---- The smallest doubles of a second.
abbrev pub second : ℕ
second = 2 ^ 1074

-- ---- A finite number below n in size.
abbrev pub Below : ℕ → Float → Type 0
Below n nan = ⊥
Below n (inf s) = ⊥
Below n (fin s m e) = m * up e < n * down e

-- ---- A double below 2^13 s in size.
pub record Time (x : Float) : Type 0 where
  pub double : T (fits binary64 x)
  pub near : Below (2 ^ 13) x

-- ---- "lies within (j + 8) × 2^-40 seconds of the exact": t is finite, and the exact one is from + (gp - gn) × part / all.
-- Both sides are times the letters of all.
pub record Drifts (from : Float) (gp gn part all j : ℕ) (t : Float) : Type 0 where
  pub number : Counted second t
  pub above : all * (plus second t + minus second from) + part * gn ≤ all * (minus second t + plus second from) + part * gp + all * ((j + 8) * 2 ^ 1034)
  pub below : all * (minus second t + plus second from) + part * gp ≤ all * (plus second t + minus second from) + part * gn + all * ((j + 8) * 2 ^ 1034)

-- ---- So far out are the two ends at most, in steps of 2^-40 s: a step below 2^13 s.
abbrev pub farthest : ℕ
farthest = 2 ^ 53 - 1
