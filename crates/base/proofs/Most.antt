-- How large a rounded number can be: rounding never passes a fraction that the format holds, and it keeps the sign. By the order of rounding.
-- Assumes nothing.
use Prim.Native.Nat.{ℕ, suc, ◌+◌, ◌-◌, ◌*◌, ◌/◌, ◌%◌, ◌<◌, ◌≤◌, ◌^◌, compare}
use mathlib.Core.Bool.{Bool, true, false, cond, not, ◌&&◌, ◌||◌, true≢false}
use mathlib.Core.Path.{◌≡◌, refl, sym, ap, ◌∙◌, subst}
use native.Mathlib.Nat.{mul_assoc, mul-le-mul_right, le_of_mul-le-mul_right, lt_of_lt_of_le}
use native.Mathlib.Omega.{arith}
use borrow.Author.Tests.{ltb-true, eqb-true}
use lib.Dec.{T, ltb, eqb}
use lib.Pow.{pow_pos, pow_mono, shl_lt}
use lib.Ieee.{Float, nan, inf, fin, Format, prec, low, emax, lt, le, eq, neg, round, units, odd, size, nearest, up, down}
use lib.Ieee.Exact.{HasValue, odd_sign, round_exact}
use lib.Ieee.Fits.{down_pos, reach}
use lib.Ieee.Order.{round_mono}
use Rattle.base.specs.Floats.{Most}
use Rattle.base.proofs.Signs.{round-neg}
use Rattle.base.proofs.Units.{pow-split}

at_most : (p q : ℕ) (z : Bool) → T (ltb p q || (eqb p q && z)) → p ≤ q
at_most p q z h = go (ltb p q) refl (eqb p q) refl where
  go : (a : Bool) → ltb p q ≡ a → (c : Bool) → eqb p q ≡ c → p ≤ q
  go true e c g = omega (arith, ltb-true p q e)
  go false e true g = omega (arith, eqb-true p q g)
  go false e false g = absurd (rw (e, g) at h)

-- what is not above n / d
module _ (n d : ℕ) where
  le-most : (x y : Float) (a c : ℕ) → HasValue x false a c → HasValue y false n d → T (le x y) → Most false n d x
  unfolding le lt eq
  le-most nan y a c v w h = absurd v
  le-most (inf s) y a c v w h = absurd v
  le-most (fin s m e) nan a c v w h = absurd w
  le-most (fin s m e) (inf t) a c v w h = absurd w
  le-most (fin true m e) (fin t k g) a c v w h = absurd (true≢false v.0)
  le-most (fin false m e) (fin true k g) a c v w h = absurd (true≢false w.0)
  le-most (fin false m e) (fin false k g) a c v w h =
      let l : m * up e * down g ≤ k * up g * down e = at_most (m * up e * down g) (k * up g * down e) true h in
      (refl, cross (m * up e) (down e) (k * up g) (down g) (down_pos g) l w.1)
    where
      cross : (X E K G : ℕ) → 0 < G → X * G ≤ K * E → K * d ≡ n * G → X * d ≤ n * E
      cross X E K G p l z =
          let r : X * G * d ≤ K * E * d = mul-le-mul_right d l in
          let q : K * d * E ≡ n * G * E = ap (λ (i : ℕ). i * E) z in
          le_of_mul-le-mul_right {k = G} (omega arith) p

  never : (y : Float) → HasValue y false n d → T (le (inf false) y) → ⊥
  unfolding le lt eq
  never nan w t = w
  never (inf s) w t = w
  never (fin s m e) w t = t

neg-most : (n d : ℕ) (x : Float) → Most false n d x → Most true n d (neg x)
unfolding neg
neg-most n d nan h = h
neg-most n d (inf s) h = h
neg-most n d (fin s m e) h = (ap not h.0, h.1)

-- ---- a / c is at most n / d, which the format holds: so is what a / c rounds to
module _ (f : Format) (a c n d : ℕ) (C : 0 < c) (D : 0 < d) (held : HasValue (round f false n d) false n d) (l : a * d ≤ n * c) where
  round-plus : Most false n d (round f false a c)
  unfolding round units
  round-plus = go (ltb (q * 2 ^ k) (2 ^ (low f + suc (emax f)))) (round_mono f a c n d C D l)
    where
      k : ℕ
      k = size (a * 2 ^ low f / c) - prec f

      q : ℕ
      q = nearest (a * 2 ^ low f / (c * 2 ^ k)) (compare (a * 2 ^ low f % (c * 2 ^ k) * 2) (c * 2 ^ k))

      go : (t : Bool) → T (le (cond t (odd (suc (prec f)) false q k (low f)) (inf false)) (round f false n d)) → Most false n d (cond t (odd (suc (prec f)) false q k (low f)) (inf false))
      go true t = le-most n d (odd (suc (prec f)) false q k (low f)) (round f false n d) (q * 2 ^ k) (2 ^ low f) (odd_sign (suc (prec f)) false q k (low f)) held t
      go false t = absurd (never n d (round f false n d) held t)

  pub round-most : (s : Bool) → Most s n d (round f s a c)
  round-most false = round-plus
  round-most true = subst (Most true n d) (sym (round-neg f a c)) (neg-most n d (round f false a c) round-plus)

-- ---- the format holds n / 2 ^ k, for an n of its digits
pub held : (f : Format) (n k : ℕ) → n < 2 ^ prec f → k ≤ low f → HasValue (round f false n (2 ^ k)) false n (2 ^ k)
held f n k h l =
    round_exact f false n (2 ^ k) n (low f - k) (pow_pos k) h
    (lt_of_lt_of_le (shl_lt (prec f) (low f - k) h) (pow_mono (room (prec f) (low f) (emax f) (reach f))))
    (ap (λ (x : ℕ). n * x) (pow-split (low f) k l) ∙ sym (mul_assoc n (2 ^ (low f - k)) (2 ^ k)))
  where
    room : (p m e : ℕ) → p ≤ suc e → p + (m - k) ≤ m + suc e
    room p m e r = omega arith
