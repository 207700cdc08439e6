-- The levels of two recordings of which the second is 2 ^ t times the first in size, place by place: they are pairs (`Twin`). The squares are 4 ^ t apart, and
-- so are their sum, which doubles at most with each of 160 samples, and its 160th part; the roots are 2 ^ t apart. Where a square is infinite, both levels
-- are +infinity. Assumes nothing.
use mathlib.Core.Path.{◌≡◌, refl, sym, ap, subst}
use mathlib.Core.Logic.{◌⊎◌, inl, inr}
use mathlib.Core.Bool.{false}
use mathlib.Core.List.{List}
use Prim.Native.Nat.{ℕ, suc, ◌+◌, ◌*◌, ◌/◌, ◌^◌, ◌≤◌, ◌<◌}
use native.Mathlib.Nat.{le_trans, le_of_eq, zero-mul, min-le_left}
use native.Mathlib.Omega.{arith}
use lib.Dec.{lit≤, lit<}
use lib.ListN.{length, drop, length-take}
use lib.Pow.{pow_mono}
use lib.Ieee.{Float, inf, Format, binary64, mul, div, fits, of_bits}
use Rattle.base.specs.Loop.{fold}
use Rattle.base.proofs.Values.{whole-value}
use Rattle.roots.specs.Sqrt.{sqrt}
use Rattle.envelope.specs.Envelope.{hop, hop_f, zero_f, plus_square, squares, level, frames, frame, levels}
use Rattle.invariance.specs.Scaled.{Pairwise, none, next}
use Rattle.invariance.proofs.Twin.{Holds, Between, twin-add, twin-div, twin-root}
use Rattle.invariance.proofs.Lists.{pairwise-length, pairwise_take, pairwise_drop, pairwise-table}
use Rattle.invariance.proofs.Infinite.{Infinite, Pair, add-infinite, infinite-add, both-infinite}
use Rattle.invariance.proofs.Samples.{Squared}

-- ---- the sum of the squares: its upper end moves up by one place with each, from 2 ^ 1330 to 2 ^ 1490; the double overflows at 2 ^ 2098 units
raise : {f : Format} {t lo hi top : ℕ} {x y : Float} → hi ≤ top → Between f t lo hi x y → Between f t lo top x y
raise h p = record { twin = p.twin; wide = p.wide; small = le_trans p.small (pow_mono h) }

-- such a pair, or both sums are +infinity
abbrev Sums : ℕ → ℕ → Float → Float → Type 0
Sums t top u v = Between binary64 (t + t) 776 top u v ⊎ Infinite u v

raised : (t : ℕ) {hi top : ℕ} {u v : Float} → hi ≤ top → Sums t hi u v → Sums t top u v
raised t h (inl p) = inl (raise h p)
raised t h (inr p) = inr p

sum-next : (t top : ℕ) → 1330 ≤ top → suc top < 2098 → (u v x y : Float) → Sums t top u v → Squared t x y → Sums t (suc top) (plus_square u x) (plus_square v y)
sum-next t top l h u v x y (inl p) (inl q) =
    inl (twin-add binary64 (t + t) 776 top u v (mul binary64 x x) (mul binary64 y y) (record { normal = lit≤ tt; under = omega arith }) p (raise l q))
sum-next t top l h u v x y (inl p) (inr q) = let a = p.twin in inr (add-infinite u a.at a.left q.0, add-infinite v (a.at * 2 ^ (t + t)) a.right q.1)
sum-next t top l h u v x y (inr p) (inl q) =
    let a = q.twin in inr (infinite-add (mul binary64 x x) a.at p.0 a.left, infinite-add (mul binary64 y y) (a.at * 2 ^ (t + t)) p.1 a.right)
sum-next t top l h u v x y (inr p) (inr q) = inr (both-infinite p.0 q.0, both-infinite p.1 q.1)

sum-twin : (t top : ℕ) {xs ys : List Float} → Pairwise (Squared t) xs ys → 1330 ≤ top → top + length xs < 2098 → (u v : Float) → Sums t top u v
    → Sums t (top + length xs) (fold plus_square u xs) (fold plus_square v ys)
unfolding fold
sum-twin t top none l h u v p = raised t (omega arith) p
sum-twin t top (next {x} {y} {xs} {ys} q e) l h u v p =
    raised t (omega arith) (sum-twin t (suc top) e (omega arith) (omega arith) (plus_square u x) (plus_square v y) (sum-next t top l (omega arith) u v x y p q))

zero-twin : (t lo hi : ℕ) → Between binary64 t lo hi zero_f zero_f
unfolding of_bits fits
zero-twin t lo hi =
    record {
      twin = record { at = 0; left = ((refl, refl), tt); right = subst (Holds binary64 zero_f) (sym (zero-mul (2 ^ t))) ((refl, refl), tt) };
      wide = inl refl;
      small = le_trans (le_of_eq (zero-mul (2 ^ t))) (omega arith);
    }

-- ---- a frame's level
root-infinite : {x : Float} → x ≡ inf false → sqrt binary64 (div binary64 x hop_f) ≡ inf false
unfolding sqrt div of_bits
root-infinite e = ap (λ (z : Float). sqrt binary64 (div binary64 z hop_f)) e

level-of : (t : ℕ) (u v : Float) → Sums t 1490 u v → Pair t (sqrt binary64 (div binary64 u hop_f)) (sqrt binary64 (div binary64 v hop_f))
unfolding of_bits
level-of t u v (inl p) =
    inl (twin-root binary64 t (div binary64 u hop_f) (div binary64 v hop_f) (twin-div binary64 (t + t) 776 1490 u v hop_f hop (whole-value hop_f hop (refl, refl)) (lit< tt) (lit≤ tt) (lit< tt) p))
level-of t u v (inr p) = inr (root-infinite p.0, root-infinite p.1)

level-twin : (t : ℕ) {xs ys : List Float} → Pairwise (Squared t) xs ys → length xs ≤ hop → Pair t (level xs) (level ys)
unfolding level squares
level-twin t {xs} {ys} e h =
    level-of t (fold plus_square zero_f xs) (fold plus_square zero_f ys) (raised t (omega arith) (sum-twin t 1330 e (lit≤ tt) (omega arith) zero_f zero_f (inl (zero-twin (t + t) 776 1330))))

-- ---- all levels
pub levels-twin : (t : ℕ) {xs ys : List Float} → Pairwise (Squared t) xs ys → Pairwise (Pair t) (levels xs) (levels ys)
unfolding levels frame
levels-twin t {xs} {ys} e =
    rw (ap (λ (n : ℕ). n / hop) (sym (pairwise-length e)))
    (pairwise-table (λ (k : ℕ). level (frame xs k)) (λ (k : ℕ). level (frame ys k))
    (λ k. level-twin t (pairwise_take hop (pairwise_drop (k * hop) e)) (le_trans (le_of_eq (length-take hop (drop (k * hop) xs))) (min-le_left hop (length (drop (k * hop) xs)))))
    (frames xs) 0)
