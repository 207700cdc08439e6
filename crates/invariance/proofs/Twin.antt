-- Two values of a format, not negative, of which the second is 2 ^ t times the first: sums, quotients and products of such pairs are such pairs
-- again, for each operation is one rounding, and rounding keeps the factor where nothing falls below the normal range. So are roots. Assumes nothing.
use mathlib.Core.Path.{◌≡◌, refl, sym, ap, ◌∙◌, subst, subst₂}
use mathlib.Core.Logic.{◌⊎◌, inl, inr}
use mathlib.Core.Bool.{true, false, true≢false}
use Prim.Native.Nat.{ℕ, zero, suc, ◌+◌, ◌-◌, ◌*◌, ◌^◌, ◌≤◌, ◌<◌}
use native.Mathlib.Nat.{add-suc, pow-suc, le_trans, le_of_eq, le_of_lt, lt_irrefl, lt_of_le_of_lt, zero-lt-suc, zero-mul, one-mul, mul-one, mul_comm, mul_assoc, mul_right_comm, mul-le-mul_left, mul-le-mul_right, mul-pos, add-mul, add-le-add, two-pow-succ, eq-zero-or-pos}
use native.Mathlib.Omega.{arith}
use lib.Dec.{T, lt→ltb, lit<}
use lib.Pow.{pow_pos, pow_mono, pow-lt}
use lib.Ieee.{Float, nan, inf, fin, Format, prec, emax, low, round, add, mul, div, fits}
use lib.Ieee.Fits.{round-fits}
use lib.Ieee.Exact.{HasValue}
use lib.Ieee.Positive.{value_pos}
use lib.Ieee.Scale.{grid, round_val}
use Rattle.base.proofs.Units.{in-range}
use Rattle.base.proofs.Values.{Fraction, fraction, Whole, add-fraction, mul-fraction, div-fraction}
use Rattle.roots.specs.Sqrt.{sqrt}
use Rattle.roots.proofs.Nearest.{sqrt-pos-fits, sqrt-scaled}
use Rattle.invariance.proofs.Rounding.{grid-zero, grid-pow, grid-ge, grid-le}

-- ---- x is a value of the format, and it is a units
abbrev pub Holds : Format → Float → ℕ → Type 0
Holds f x a = HasValue x false a (2 ^ low f) × T (fits f x)

-- ---- the second is 2 ^ t times the first
pub record Twin (f : Format) (t : ℕ) (x y : Float) : Type 0 where
  pub at : ℕ
  pub left : Holds f x at
  pub right : Holds f y (at * 2 ^ t)

-- ---- a is 0, or 2 ^ lo at least
abbrev pub Wide : ℕ → ℕ → Type 0
Wide lo a = (a ≡ 0) ⊎ (2 ^ lo ≤ a)

-- ---- and neither is between 0 and 2 ^ lo units, or above 2 ^ hi
pub record Between (f : Format) (t lo hi : ℕ) (x y : Float) : Type 0 where
  pub twin : Twin f t x y
  pub wide : Wide lo twin.at
  pub small : twin.at * 2 ^ t ≤ 2 ^ hi

-- ---- the exponents for which this is kept: 2 ^ lo units have all the digits that the format keeps, and 2 ^ hi do not overflow
pub record Range (f : Format) (lo hi : ℕ) : Type 0 where
  pub normal : prec f - 1 ≤ lo
  pub under : hi < low f + suc (emax f)

-- ---- a / c and 2 ^ t times it, rounded
module _ (f : Format) (t lo hi a c : ℕ) (r : Range f lo hi) (C : 0 < c) (w : (a ≡ 0) ⊎ (2 ^ lo * c ≤ a * 2 ^ low f)) (h : a * 2 ^ t * 2 ^ low f ≤ 2 ^ hi * c) where
  scaled : grid f (a * 2 ^ t) c ≡ grid f a c * 2 ^ t
  scaled = grid-pow f a c C t (normal w)
    where
      normal : (a ≡ 0) ⊎ (2 ^ lo * c ≤ a * 2 ^ low f) → (a ≡ 0) ⊎ (2 ^ (prec f - 1) * c ≤ a * 2 ^ low f)
      normal (inl z) = inl z
      normal (inr l) = inr (le_trans (mul-le-mul_right c (pow_mono r.normal)) l)

  rounded : (n : ℕ) → n * 2 ^ low f ≤ 2 ^ hi * c → Holds f (round f false n c) (grid f n c)
  rounded n l = (round_val f n c (lt_of_le_of_lt (grid-le f n c C hi l) (pow-lt r.under)), round-fits f false n c)

  pub round-twin : Between f t lo hi (round f false a c) (round f false (a * 2 ^ t) c)
  round-twin =
      record {
        twin =
            record {
              at = grid f a c;
              left = rounded a (le_trans (mul-le-mul_right (2 ^ low f) (le_trans (le_of_eq (sym (mul-one a))) (mul-le-mul_left a (pow_pos t)))) h);
              right = subst (Holds f (round f false (a * 2 ^ t) c)) scaled (rounded (a * 2 ^ t) h);
            };
        wide = wide w;
        small = le_trans (le_of_eq (sym scaled)) (grid-le f (a * 2 ^ t) c C hi h);
      }
    where
      wide : (a ≡ 0) ⊎ (2 ^ lo * c ≤ a * 2 ^ low f) → Wide lo (grid f a c)
      wide (inl z) = inl (rw z (grid-zero f c C))
      wide (inr l) = inr (grid-ge f a c C lo l)

-- ---- sums
add_is : (f : Format) (x y : Float) (a b : ℕ) → Holds f x a → Holds f y b → add f x y ≡ round f false (a + b) (2 ^ low f)
add_is f x y a b p q = add-fraction f (fraction x a (2 ^ low f) p.0) (fraction y b (2 ^ low f) q.0) (pow_pos (low f))

module _ (f : Format) (t lo hi : ℕ) (x y u v : Float) (r : Range f lo (suc hi)) (p : Between f t lo hi x y) (q : Between f t lo hi u v) where
  pub twin-add : Between f t lo (suc hi) (add f x u) (add f y v)
  twin-add =
      subst₂ (Between f t lo (suc hi)) (sym (add_is f x u a b p.twin.left q.twin.left))
      (sym (add_is f y v (a * 2 ^ t) (b * 2 ^ t) p.twin.right q.twin.right ∙ ap (λ (n : ℕ). round f false n L) (sym (add-mul a b (2 ^ t)))))
      (round-twin f t lo (suc hi) (a + b) L r (pow_pos (low f)) (more p.wide q.wide)
      (mul-le-mul_right L (le_trans (le_of_eq (add-mul a b (2 ^ t))) (le_trans (add-le-add p.small q.small) (le_of_eq (sym (two-pow-succ hi)))))))
    where
      a : ℕ
      a = p.twin.at

      b : ℕ
      b = q.twin.at

      L : ℕ
      L = 2 ^ low f

      above : (n : ℕ) → n ≤ a + b → n * L ≤ (a + b) * L
      above n l = mul-le-mul_right L l

      more : Wide lo a → Wide lo b → (a + b ≡ 0) ⊎ (2 ^ lo * L ≤ (a + b) * L)
      more (inl c) (inl d) = inl (omega arith)
      more (inl c) (inr d) = inr (above (2 ^ lo) (omega arith))
      more (inr c) d = inr (above (2 ^ lo) (omega arith))

-- ---- quotients by the whole number n, where the lower end is far enough up
module _ (f : Format) (t lo hi : ℕ) (x y u : Float) (n : ℕ) (v : Whole u n) (P : 0 < n) (h : 2 ^ (prec f - 1) * n ≤ 2 ^ lo) (top : hi < low f + suc (emax f)) (p : Between f t lo hi x y) where
  pub twin-div : Twin f t (div f x u) (div f y u)
  twin-div =
      subst₂ (Twin f t) (sym (is x a p.twin.left)) (sym (is y (a * 2 ^ t) p.twin.right))
      (round-twin f t (prec f - 1) hi a (n * L) (record { normal = omega arith; under = top }) (mul-pos P (pow_pos (low f))) (more p.wide)
      (le_trans (mul-le-mul_right L p.small) (mul-le-mul_left (2 ^ hi) (le_trans (le_of_eq (sym (one-mul L))) (mul-le-mul_right L P))))).twin
    where
      a : ℕ
      a = p.twin.at

      L : ℕ
      L = 2 ^ low f

      is : (z : Float) (k : ℕ) → Holds f z k → div f z u ≡ round f false k (n * L)
      is z k i = div-fraction f (fraction z k L i.0) v (pow_pos (low f)) (lit< tt) P ∙ ap (λ (m : ℕ). round f false m (n * L)) (mul-one k)

      more : Wide lo a → (a ≡ 0) ⊎ (2 ^ (prec f - 1) * (n * L) ≤ a * L)
      more (inl z) = inl z
      more (inr l) = inr (le_trans (le_of_eq (sym (mul_assoc (2 ^ (prec f - 1)) n L))) (mul-le-mul_right L (le_trans h l)))

-- ---- products with b / d, a half at most, where the product is in the normal range
module _ (f : Format) (t : ℕ) (x y u : Float) (b d : ℕ) (v : Fraction u b d) (D : 0 < d) (half : b * 2 ≤ d) (p : Twin f t x y) (h : 2 ^ (prec f - 1) * d ≤ p.at * b) where
  pub twin-mul : Twin f t (mul f x u) (mul f y u)
  twin-mul =
      subst₂ (Twin f t) (sym (is x a p.left)) (sym (is y (a * 2 ^ t) p.right ∙ ap (λ (n : ℕ). round f false n (L * d)) (mul_right_comm a (2 ^ t) b)))
      (round-twin f t (prec f - 1) (low f + emax f) (a * b) (L * d) (record { normal = omega arith; under = omega arith }) (mul-pos (pow_pos (low f)) D)
      (inr (le_trans (le_of_eq (ap (λ (n : ℕ). 2 ^ (prec f - 1) * n) (mul_comm L d) ∙ sym (mul_assoc (2 ^ (prec f - 1)) d L))) (mul-le-mul_right L h)))
      (le_trans (le_of_eq (ap (λ (n : ℕ). n * L) (mul_right_comm a b (2 ^ t)))) (le_trans (mul-le-mul_right L high) (le_of_eq (mul_assoc H d L ∙ ap (λ (n : ℕ). H * n) (mul_comm d L)))))).twin
    where
      a : ℕ
      a = p.at

      L : ℕ
      L = 2 ^ low f

      H : ℕ
      H = 2 ^ (low f + emax f)

      is : (z : Float) (n : ℕ) → Holds f z n → mul f z u ≡ round f false (n * b) (L * d)
      is z n i = mul-fraction f (fraction z n L i.0) v (pow_pos (low f)) D

      high : a * 2 ^ t * b ≤ H * d
      high =
          le_trans (mul-le-mul_right b (le_of_lt (in-range f y (a * 2 ^ t) p.right.1 p.right.0)))
          (le_trans (le_of_eq (ap (λ (n : ℕ). n * b) (ap (λ (n : ℕ). 2 ^ n) (add-suc (low f) (emax f)) ∙ pow-suc 2 (low f + emax f)) ∙ mul_assoc H 2 b ∙ ap (λ (n : ℕ). H * n) (mul_comm 2 b)))
          (mul-le-mul_left H half))

-- ---- roots
sqrt-zero : (f : Format) (x : Float) → Holds f x 0 → sqrt f x ≡ x
unfolding sqrt
sqrt-zero f nan h = absurd h.0
sqrt-zero f (inf s) h = absurd h.0
sqrt-zero f (fin true m e) h = absurd (true≢false h.0.0)
sqrt-zero f (fin false zero e) h = refl
sqrt-zero f (fin false (suc m) e) h = absurd (lt_irrefl 0 (value_pos (fin false (suc m) e) 0 (2 ^ low f) (lt→ltb 0 (suc m) (zero-lt-suc m)) (pow_pos (low f)) h.0))

module _ (f : Format) (t : ℕ) (x y : Float) (p : Twin f (t + t) x y) where
  pub twin-root : Twin f t (sqrt f x) (sqrt f y)
  twin-root = go (eq-zero-or-pos a)
    where
      a : ℕ
      a = p.at

      go : (a ≡ 0) ⊎ (0 < a) → Twin f t (sqrt f x) (sqrt f y)
      go (inl z) =
          let i : Holds f x 0 = subst (Holds f x) z p.left in
          let j : Holds f y 0 = subst (Holds f y) (ap (λ (n : ℕ). n * 2 ^ (t + t)) z ∙ zero-mul (2 ^ (t + t))) p.right in
          subst₂ (Twin f t) (sym (sqrt-zero f x i)) (sym (sqrt-zero f y j))
          (record { at = 0; left = i; right = subst (Holds f y) (sym (zero-mul (2 ^ t))) j })
      go (inr A) =
          let r = sqrt-scaled f x y a t A p.left.1 p.right.1 p.left.0 p.right.0 in
          record {
            at = r.0;
            left = (r.1, sqrt-pos-fits f x a A p.left.0);
            right = (r.2, sqrt-pos-fits f y (a * 2 ^ (t + t)) (mul-pos A (pow_pos (t + t))) p.right.0);
          }
