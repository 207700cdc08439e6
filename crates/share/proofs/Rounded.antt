-- How far rounding moves a fraction, counted in the format's smallest values (`grid` of lib.Ieee.Scale): by half of what the last kept digit weighs. That is at most 2 ^ e
-- of them for a fraction below 2 ^ (e + prec + 1), and for any fraction at most its 2 ^ prec-th part and half of one. Assumes nothing.
use mathlib.Core.Path.{◌≡◌, refl, sym, ap, ◌∙◌, subst}
use mathlib.Core.Bool.{Bool, false}
use Prim.Native.Nat.{ℕ, zero, suc, ◌+◌, ◌-◌, ◌*◌, ◌/◌, ◌%◌, ◌^◌, ◌≤◌, ◌<◌, compare, Ordering}
use native.Mathlib.Nat.{le_trans, le_of_eq, lt_of_lt_of_le, mul_comm, mul_assoc, one-mul, mul-le-mul_right, mul-le-mul_left, mul-pos, mod-lt, div-add-mod', div-lt_iff_lt-mul, le-div_iff_mul-le, le_of_mul-le-mul_right, pow-suc}
use native.Mathlib.Omega.{arith}
use lib.Dec.{T}
use lib.Pow.{pow-add, pow_pos, pow_mono, pow-lt}
use lib.Ieee.{Float, nan, inf, fin, Format, prec, low, emax, down, size, nearest, round}
use lib.Ieee.Digits.{size-le, size_reaches}
use lib.Ieee.Fits.{two, two-le_pos, down_pos, round_is}
use lib.Ieee.Exact.{HasValue, units_val, round_exact}
use lib.Ieee.Nearest.{closest}
use lib.Ieee.Order.{drop, kept}
use lib.Ieee.Scale.{grid, overflow, finite, round_val, round_under}
use Rattle.base.proofs.Compare.{Compared, compared}
use Rattle.base.proofs.Most.{round-most}
use Rattle.base.specs.Floats.{Most}

-- ---- two numbers lie at most d apart
abbrev pub Near : ℕ → ℕ → ℕ → Type 0
Near x y d = (x ≤ y + d) × (y ≤ x + d)

-- ---- the whole number nearest to a / u is half of one away at most
half : (q r u : ℕ) (o : Ordering) → Compared o (r * 2) u → r < u → Near (nearest q o * u * 2) ((q * u + r) * 2) u
half q r u Ordering.lt c l = omega arith
half q r u Ordering.gt c l = omega arith
half q r u Ordering.eq c l = go (q % 2) (bit q)
  where
    bit : (z : ℕ) → z % 2 ≤ 1
    bit z = omega arith

    go : (z : ℕ) → z ≤ 1 → Near ((q + z) * u * 2) ((q * u + r) * 2) u
    go z h = let k : z * u ≤ 1 * u = mul-le-mul_right u h in omega arith

closest-half : (a u : ℕ) → 0 < u → Near (closest a u * u * 2) (a * 2) u
closest-half a u U =
    subst (λ (z : ℕ). Near (closest a u * u * 2) (z * 2) u) (div-add-mod' a u)
    (half (a / u) (a % u) u (compare (a % u * 2) u) (compared (a % u * 2) u) (mod-lt a U))

module _ (f : Format) (a c : ℕ) (C : 0 < c) where
  abbrev n : ℕ
  n = a * 2 ^ low f

  abbrev k : ℕ
  k = drop (prec f) n c

  grid-half : Near (grid f a c * c * 2) (n * 2) (c * 2 ^ k)
  grid-half =
      subst (λ (z : ℕ). Near (z * 2) (n * 2) (c * 2 ^ k)) (ap (λ (z : ℕ). closest n (c * 2 ^ k) * z) (mul_comm c (2 ^ k)) ∙ sym (mul_assoc (closest n (c * 2 ^ k)) (2 ^ k) c))
      (closest-half n (c * 2 ^ k) (mul-pos C (pow_pos k)))

  -- ---- a fraction below 2 ^ (e + prec + 1) loses e + 1 digits at most
  pub grid-near : (e : ℕ) → n < 2 ^ (suc e + prec f) * c → Near (grid f a c * c) n (c * 2 ^ e)
  grid-near e h = halve (grid f a c * c) n (2 ^ k) (2 ^ e) (le_trans (pow_mono (less (size (n / c)) (prec f) (size-le (n / c) (suc e + prec f) ((div-lt_iff_lt-mul C).1 h)))) (le_of_eq (pow-suc 2 e))) grid-half
    where
      less : (z p : ℕ) → z ≤ suc e + p → z - p ≤ suc e
      less z p h = omega arith

      halve : (x y d z : ℕ) → d ≤ z * 2 → Near (x * 2) (y * 2) (c * d) → Near x y (c * z)
      halve x y d z l o = let m : c * d ≤ c * (z * 2) = mul-le-mul_left c l in omega arith

  -- ---- the last kept digit weighs one, or 2 ^ (1 - prec) of the fraction at most
  module _ (p : ℕ) (digits : prec f ≡ suc p) where
    weight : 2 ^ k * 2 ^ p * c ≤ n + 2 ^ p * c
    weight = subst (λ (z : ℕ). 2 ^ drop z n c * 2 ^ p * c ≤ n + 2 ^ p * c) (sym digits) (go (size (n / c) - suc p) refl)
      where
        under : (z j : ℕ) → z - suc p ≡ suc j → suc j + p < z
        under z j h = omega arith

        plus : (x y w : ℕ) → y ≤ n → x ≡ y → x ≤ n + w
        plus x y w h l = omega arith

        go : (j : ℕ) → size (n / c) - suc p ≡ j → 2 ^ j * 2 ^ p * c ≤ n + 2 ^ p * c
        go zero e = omega arith
        go (suc j) e =
            plus (2 ^ suc j * 2 ^ p * c) (2 ^ (suc j + p) * c) (2 ^ p * c) ((le-div_iff_mul-le C).0 (size_reaches (n / c) (suc j + p) (under (size (n / c)) j e)))
            (ap (λ (z : ℕ). z * c) (sym (pow-add 2 (suc j) p)))

    pub grid-part : Near (2 ^ p * 2 * (grid f a c * c)) (2 ^ p * 2 * n) (n + 2 ^ p * c)
    grid-part = scale (grid f a c * c) n (2 ^ k) (2 ^ p) weight grid-half
      where
        scale : (x y d z : ℕ) → d * z * c ≤ y + z * c → Near (x * 2) (y * 2) (c * d) → Near (z * 2 * x) (z * 2 * y) (y + z * c)
        scale x y d z l o =
            let m : x * 2 * z ≤ (y * 2 + c * d) * z = mul-le-mul_right z o.0 in
            let w : y * 2 * z ≤ (x * 2 + c * d) * z = mul-le-mul_right z o.1 in omega arith

  -- ---- a fraction of at most 2 ^ j, where the format reaches beyond that, rounds to no more, and is not an infinity
  module _ (j : ℕ) (h : n ≤ 2 ^ j * c) (wide : j < low f + suc (emax f)) where
    held : HasValue (round f false (2 ^ j) (2 ^ low f)) false (2 ^ j) (2 ^ low f)
    held =
        round_exact f false (2 ^ j) (2 ^ low f) 1 j (pow_pos (low f)) (pow-lt (two-le_pos (prec f) (two f)))
        (lt_of_lt_of_le (le_of_eq (ap suc (one-mul (2 ^ j)))) (pow-lt wide)) (ap (λ (x : ℕ). x * 2 ^ low f) (sym (one-mul (2 ^ j))))

    most : Most false (2 ^ j) (2 ^ low f) (round f false a c)
    most = round-most f a c (2 ^ j) (2 ^ low f) C (pow_pos (low f)) held h false

    not_infinite : (x : Float) → Most false (2 ^ j) (2 ^ low f) x → T (finite x)
    not_infinite nan m = m
    not_infinite (inf s) m = m
    not_infinite (fin s q e) m = tt

    in-range : grid f a c < overflow f
    in-range = round_under f a c (not_infinite (round f false a c) most)

    pub round-value : (s : Bool) → HasValue (round f s a c) s (grid f a c) (2 ^ low f)
    round-value s = subst (λ (z : Float). HasValue z s (grid f a c) (2 ^ low f)) (sym (round_is f s a c)) (units_val f s (kept (prec f) n c) k in-range)

    pub grid-most : grid f a c ≤ 2 ^ j
    grid-most = least (round f false a c) most (round_val f a c in-range)
      where
        least : (x : Float) → Most false (2 ^ j) (2 ^ low f) x → HasValue x false (grid f a c) (2 ^ low f) → grid f a c ≤ 2 ^ j
        least nan m v = absurd m
        least (inf s) m v = absurd m
        least (fin s q e) m v = le_of_mul-le-mul_right {k = down e} (le_trans (le_of_eq (sym v.1)) m.1) (down_pos e)
