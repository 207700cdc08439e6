-- Math.max is the maximum of a total order: a number of the format has a rank, a whole number that grows with it, -0 just under +0.
-- So it commutes, associates, and is one of its arguments. Assumes nothing.
use mathlib.Core.Path.{◌≡◌, refl, sym, ap, ◌∙◌, subst}
use mathlib.Core.Logic.{◌⊎◌, inl, inr}
use mathlib.Core.Bool.{Bool, true, false, cond, not, ◌&&◌, ◌||◌, beq}
use Prim.Native.Nat.{ℕ, suc, ◌+◌, ◌-◌, ◌*◌, ◌^◌, ◌≤◌, ◌<◌, max}
use native.Mathlib.Nat.{mul_comm, mul_assoc, mul_right_comm, mul-pos, zero-mul, add-mul, le_of_eq}
use native.Mathlib.Omega.{arith}
use borrow.Author.Tests.{ltb-true, ltb-false, lt-ltb, le-ltb, eq-eqb, ne_eqb}
use lib.IntN.{ℤ}
use lib.Dec.{T, ltb, eqb}
use lib.Pow.{pow_pos}
use lib.Ieee.{Float, nan, inf, fin, Format, binary64, low, emax, up, down, fits, is_nan, lt, eq, neg, below, level}
use lib.Ieee.Exact.{HasValue}
use lib.Ieee.Fits.{down_pos, neg-fits}
use lib.Ieee.Scale.{overflow}
use Rattle.base.proofs.Compare.{ltb-scale, eqb-scale}
use Rattle.base.proofs.Signs.{neg-neg}
use Rattle.base.proofs.Units.{in-units, in-range, same-value}
use Rattle.js.specs.Js.{negative, under, js_max}
use Rattle.js.specs.Sizes.{Number}

-- ---- comparing in units: a * c is m * k, and b * c is n * k
module _ (a b m n c k : ℕ) (C : 0 < c) (K : 0 < k) (ea : a * c ≡ m * k) (eb : b * c ≡ n * k) where
  ltb-units : ltb a b ≡ ltb m n
  ltb-units = sym (ltb-scale a b c C) ∙ rw (ea, eb) (ltb-scale m n k K)

  eqb-units : eqb a b ≡ eqb m n
  eqb-units = sym (eqb-scale a b c C) ∙ rw (ea, eb) (eqb-scale m n k K)

module _ (a b m n c k : ℕ) (C : 0 < c) (K : 0 < k) (ea : a * c ≡ m * k) (eb : b * c ≡ n * k) where
  none : 0 * c ≡ 0 * k
  none = zero-mul c ∙ sym (zero-mul k)

  below-scale : (s t : Bool) → below s a t b ≡ below s m t n
  below-scale false false = ltb-units a b m n c k C K ea eb
  below-scale false true = refl
  below-scale true false = ltb-units 0 (a + b) 0 (m + n) c k C K none (add-mul a b c ∙ ap (λ (x : ℕ). x + b * c) ea ∙ ap (λ (x : ℕ). m * k + x) eb ∙ sym (add-mul m n k))
  below-scale true true = ltb-units b a n m c k C K eb ea

  level-scale : (s t : Bool) → level s a t b ≡ level s m t n
  level-scale s t =
      ap (λ (x : Bool). x && (beq s t || eqb a 0)) (eqb-units a b m n c k C K ea eb)
      ∙ ap (λ (x : Bool). eqb m n && (beq s t || x)) (eqb-units a 0 m 0 c k C K ea none)

-- ---- a number's sign and size, in units; an infinity lies where the format ends
abbrev pub At : Format → Float → Bool → ℕ → Type 0
At f nan s n = ⊥
At f (inf t) s n = (t ≡ s) × (n ≡ overflow f)
At f (fin t m e) s n = HasValue (fin t m e) s n (2 ^ low f) × (n < overflow f)

module _ (f : Format) where
  abbrev L : ℕ
  L = overflow f

  L-pos : 0 < L
  L-pos = pow_pos (low f + suc (emax f))

  -- two numbers compare as their signs and sizes do
  module _ (m n M N : ℕ) (e d : ℤ) (h : m * up e * 2 ^ low f ≡ M * down e) (k : n * up d * 2 ^ low f ≡ N * down d) where
    first : m * up e * down d * 2 ^ low f ≡ M * (down e * down d)
    first = mul_right_comm (m * up e) (down d) (2 ^ low f) ∙ ap (λ (x : ℕ). x * down d) h ∙ mul_assoc M (down e) (down d)

    second : n * up d * down e * 2 ^ low f ≡ N * (down e * down d)
    second = mul_right_comm (n * up d) (down e) (2 ^ low f) ∙ ap (λ (x : ℕ). x * down e) k ∙ mul_assoc N (down d) (down e) ∙ ap (λ (x : ℕ). N * x) (mul_comm (down d) (down e))

    below-units : (s t : Bool) → below s (m * up e * down d) t (n * up d * down e) ≡ below s M t N
    below-units = below-scale (m * up e * down d) (n * up d * down e) M N (2 ^ low f) (down e * down d) (pow_pos (low f)) (mul-pos (down_pos e) (down_pos d)) first second

    level-units : (s t : Bool) → level s (m * up e * down d) t (n * up d * down e) ≡ level s M t N
    level-units = level-scale (m * up e * down d) (n * up d * down e) M N (2 ^ low f) (down e * down d) (pow_pos (low f)) (mul-pos (down_pos e) (down_pos d)) first second

  -- an infinity is larger than every finite number
  module _ (s t : Bool) where
    ends-below : (s && not t) ≡ below s L t L
    ends-below = go s t
      where
        go : (s t : Bool) → (s && not t) ≡ below s L t L
        go false false = sym (le-ltb L L (omega arith))
        go false true = refl
        go true false = sym (lt-ltb 0 (L + L) (omega (arith, L-pos)))
        go true true = sym (le-ltb L L (omega arith))

    ends-level : beq s t ≡ level s L t L
    ends-level = sym (ap (λ (x : Bool). x && (beq s t || eqb L 0)) (eq-eqb L L refl) ∙ ap (λ (x : Bool). beq s t || x) (ne_eqb L 0 (λ e. omega (arith, L-pos))) ∙ or-false (beq s t))
      where
        or-false : (b : Bool) → (b || false) ≡ b
        or-false true = refl
        or-false false = refl

    module _ (n : ℕ) (h : n < L) where
      end_below : s ≡ below s L t n
      end_below = go s t
        where
          go : (s t : Bool) → s ≡ below s L t n
          go false false = sym (le-ltb L n (omega arith))
          go false true = refl
          go true false = sym (lt-ltb 0 (L + n) (omega (arith, L-pos)))
          go true true = sym (lt-ltb n L h)

      below_end : not t ≡ below s n t L
      below_end = go s t
        where
          go : (s t : Bool) → not t ≡ below s n t L
          go false false = sym (lt-ltb n L h)
          go false true = refl
          go true false = sym (lt-ltb 0 (n + L) (omega (arith, L-pos)))
          go true true = sym (le-ltb L n (omega arith))

      end-level : false ≡ level s L t n
      end-level = sym (ap (λ (x : Bool). x && (beq s t || eqb L 0)) (ne_eqb L n (λ e. omega arith)))

      level-end : false ≡ level s n t L
      level-end = sym (ap (λ (x : Bool). x && (beq s t || eqb n 0)) (ne_eqb n L (λ e. omega arith)))

  pub lt_at : (x y : Float) (s t : Bool) (m n : ℕ) → At f x s m → At f y t n → lt x y ≡ below s m t n
  unfolding lt
  lt_at nan y s t m n h k = absurd h
  lt_at (inf a) nan s t m n h k = absurd k
  lt_at (fin a q e) nan s t m n h k = absurd k
  lt_at (inf a) (inf b) s t m n h k = rw (h.0, k.0, h.1, k.1) (ends-below s t)
  lt_at (inf a) (fin b r d) s t m n h k = rw (h.0, h.1) (end_below s t n k.1)
  lt_at (fin a q e) (inf b) s t m n h k = rw (k.0, k.1) (below_end s t m h.1)
  lt_at (fin a q e) (fin b r d) s t m n h k = rw (h.0.0, k.0.0) (below-units q r m n e d h.0.1 k.0.1 s t)

  pub eq-at : (x y : Float) (s t : Bool) (m n : ℕ) → At f x s m → At f y t n → eq x y ≡ level s m t n
  unfolding eq
  eq-at nan y s t m n h k = absurd h
  eq-at (inf a) nan s t m n h k = absurd k
  eq-at (fin a q e) nan s t m n h k = absurd k
  eq-at (inf a) (inf b) s t m n h k = rw (h.0, k.0, h.1, k.1) (ends-level s t)
  eq-at (inf a) (fin b r d) s t m n h k = rw h.1 (end-level s t n k.1)
  eq-at (fin a q e) (inf b) s t m n h k = rw k.1 (level-end s t m h.1)
  eq-at (fin a q e) (fin b r d) s t m n h k = rw (h.0.0, k.0.0) (level-units q r m n e d h.0.1 k.0.1 s t)

  negative-at : (x : Float) (s : Bool) (m : ℕ) → At f x s m → negative x ≡ s
  negative-at nan s m h = absurd h
  negative-at (inf a) s m h = h.0
  negative-at (fin a q e) s m h = h.0.0

  size-at : (x : Float) (s : Bool) (m : ℕ) → At f x s m → m ≤ L
  size-at nan s m h = absurd h
  size-at (inf a) s m h = le_of_eq h.1
  size-at (fin a q e) s m h = omega (arith, h.1)

  -- ---- the rank: from zero up the size, below zero down from there
  abbrev rank : Bool → ℕ → ℕ
  rank false m = suc L + m
  rank true m = L - m

  or-none : (a b : Bool) → (a || (b && false)) ≡ a
  or-none true b = refl
  or-none false true = refl
  or-none false false = refl

  ltb_iff : (a b c d : ℕ) → (a < b → c < d) → (b ≤ a → d ≤ c) → ltb a b ≡ ltb c d
  ltb_iff a b c d up down = go (ltb a b) refl
    where
      go : (t : Bool) → ltb a b ≡ t → ltb a b ≡ ltb c d
      go true t = t ∙ sym (lt-ltb c d (up (ltb-true a b t)))
      go false t = t ∙ sym (le-ltb c d (down (ltb-false a b t)))

  across : (m n : ℕ) (t : Bool) → ltb 0 (m + n) ≡ t → (t || ((eqb m n && (false || eqb m 0)) && true)) ≡ true
  across m n true e = refl
  across m n false e =
      let z : m ≡ 0 = omega (arith, ltb-false 0 (m + n) e) in
      let k : n ≡ 0 = omega (arith, ltb-false 0 (m + n) e) in rw (z, k)

  ranks : (s t : Bool) (m n : ℕ) → m ≤ L → n ≤ L → (below s m t n || (level s m t n && (s && not t))) ≡ ltb (rank s m) (rank t n)
  ranks false false m n h k = or-none (ltb m n) (level false m false n) ∙ ltb_iff m n (suc L + m) (suc L + n) (λ p. omega arith) (λ p. omega arith)
  ranks false true m n h k = or-none false (level false m true n) ∙ sym (le-ltb (suc L + m) (L - n) (omega arith))
  ranks true false m n h k = across m n (ltb 0 (m + n)) refl ∙ sym (lt-ltb (L - m) (suc L + n) (omega arith))
  ranks true true m n h k = or-none (ltb n m) (level true m true n) ∙ ltb_iff n m (L - m) (L - n) (λ p. omega arith) (λ p. omega arith)

  -- x stands at the rank r
  pub record Rank (x : Float) (r : ℕ) : Type 0 where
    pub sign : Bool
    pub size : ℕ
    pub at : At f x sign size
    pub is : r ≡ rank sign size

  under-rank : (x y : Float) (p q : ℕ) → Rank x p → Rank y q → under x y ≡ ltb p q
  unfolding under
  under-rank x y p q a b =
      ap (λ (c : Bool). c || (eq x y && (negative x && not (negative y)))) (lt_at x y a.sign b.sign a.size b.size a.at b.at)
      ∙ ap (λ (c : Bool). below a.sign a.size b.sign b.size || (c && (negative x && not (negative y)))) (eq-at x y a.sign b.sign a.size b.size a.at b.at)
      ∙ ap (λ (c : Bool). below a.sign a.size b.sign b.size || (level a.sign a.size b.sign b.size && (c && not (negative y)))) (negative-at x a.sign a.size a.at)
      ∙ ap (λ (c : Bool). below a.sign a.size b.sign b.size || (level a.sign a.size b.sign b.size && (a.sign && not c))) (negative-at y b.sign b.size b.at)
      ∙ ranks a.sign b.sign a.size b.size (size-at x a.sign a.size a.at) (size-at y b.sign b.size b.at)
      ∙ ap (λ (c : ℕ). ltb c (rank b.sign b.size)) (sym a.is)
      ∙ ap (ltb p) (sym b.is)

  pub has-rank : (x : Float) → T (fits f x) → T (not (is_nan x)) → (r : ℕ) × Rank x r
  unfolding is_nan neg
  has-rank nan t n = absurd n
  has-rank (inf s) t n = (rank s L, record { sign = s; size = L; at = (refl, refl); is = refl })
  has-rank (fin s m e) t n =
      let u = in-units f s m e t in
      (rank s u.0, record { sign = s; size = u.0; at = (u.1, in-range f (fin false m e) u.0 (plain s t) (refl, u.1.1)); is = refl })
    where
      plain : (s : Bool) → T (fits f (fin s m e)) → T (fits f (fin false m e))
      plain true t = neg-fits f (fin true m e) t
      plain false t = t

  same_at : (x y : Float) (s : Bool) (m : ℕ) → T (fits f x) → T (fits f y) → At f x s m → At f y s m → x ≡ y
  same_at nan y s m a b h k = absurd h
  same_at (inf c) nan s m a b h k = absurd k
  same_at (fin c q e) nan s m a b h k = absurd k
  same_at (inf c) (inf d) s m a b h k = ap inf (h.0 ∙ sym k.0)
  same_at (inf c) (fin d r i) s m a b h k = absurd (omega (arith, h.1, k.1))
  same_at (fin c q e) (inf d) s m a b h k = absurd (omega (arith, h.1, k.1))
  same_at (fin c q e) (fin d r i) false m a b h k = same-value f (fin c q e) (fin d r i) m a b h.0 k.0
  same_at (fin c q e) (fin d r i) true m a b h k =
      sym (neg-neg (fin c q e)) ∙ ap neg (same-value f (neg (fin c q e)) (neg (fin d r i)) m (neg-fits f (fin c q e) a) (neg-fits f (fin d r i) b) (plus c q e h.0) (plus d r i k.0)) ∙ neg-neg (fin d r i)
    where
      plus : (c : Bool) (q : ℕ) (e : ℤ) → HasValue (fin c q e) true m (2 ^ low f) → HasValue (neg (fin c q e)) false m (2 ^ low f)
      plus c q e v = unfold neg in (ap not v.0, v.1)

  one_rank : (x y : Float) (r : ℕ) → T (fits f x) → T (fits f y) → Rank x r → Rank y r → x ≡ y
  one_rank x y r a b h k = go h.sign k.sign h.size k.size h.at k.at (sym h.is ∙ k.is)
    where
      go : (s t : Bool) (m n : ℕ) → At f x s m → At f y t n → rank s m ≡ rank t n → x ≡ y
      go false false m n p q e = same_at x y false m a b p (subst (At f y false) (omega arith) q)
      go true true m n p q e = let l = size-at x true m p in let o = size-at y true n q in same_at x y true m a b p (subst (At f y true) (omega arith) q)
      go false true m n p q e = absurd (omega arith)
      go true false m n p q e = absurd (omega arith)

  at-number : (x : Float) (s : Bool) (m : ℕ) → At f x s m → is_nan x ≡ false
  unfolding is_nan
  at-number nan s m h = absurd h
  at-number (inf c) s m h = refl
  at-number (fin c q e) s m h = refl

  -- the maximum is the one that has the higher rank
  pub max-pick : (x y : Float) (p q : ℕ) → Rank x p → Rank y q → js_max x y ≡ cond (ltb p q) y x
  unfolding js_max
  max-pick x y p q a b = rw (at-number x a.sign a.size a.at, at-number y b.sign b.size b.at, under-rank x y p q a b)

  max-rank : (x y : Float) (p q : ℕ) → Rank x p → Rank y q → Rank (js_max x y) (max p q)
  max-rank x y p q a b = rw (max-pick x y p q a b) (go (ltb p q) refl)
    where
      go : (t : Bool) → ltb p q ≡ t → Rank (cond t y x) (max p q)
      go true t = subst (Rank y) (omega (arith, ltb-true p q t)) b
      go false t = subst (Rank x) (omega (arith, ltb-false p q t)) a

ranked : (x : Float) → Number x → (r : ℕ) × Rank binary64 x r
ranked x n = has-rank binary64 x n.0 n.1

pub js_max-either : (x y : Float) → Number x → Number y → (js_max x y ≡ x) ⊎ (js_max x y ≡ y)
js_max-either x y n k =
    let a = ranked x n in
    let b = ranked y k in
    rw (max-pick binary64 x y a.0 b.0 a.1 b.1) (go (ltb a.0 b.0))
  where
    go : (t : Bool) → (cond t y x ≡ x) ⊎ (cond t y x ≡ y)
    go true = inr refl
    go false = inl refl

pub js_max-number : (x y : Float) → Number x → Number y → Number (js_max x y)
js_max-number x y n k = go (js_max-either x y n k)
  where
    go : (js_max x y ≡ x) ⊎ (js_max x y ≡ y) → Number (js_max x y)
    go (inl e) = subst Number (sym e) n
    go (inr e) = subst Number (sym e) k

pub js_max-commutes : (x y : Float) → Number x → Number y → js_max x y ≡ js_max y x
js_max-commutes x y n k =
    let a = ranked x n in
    let b = ranked y k in
    one_rank binary64 (js_max x y) (js_max y x) (max a.0 b.0) (js_max-number x y n k).0 (js_max-number y x k n).0
    (max-rank binary64 x y a.0 b.0 a.1 b.1)
    (subst (Rank binary64 (js_max y x)) (omega arith) (max-rank binary64 y x b.0 a.0 b.1 a.1))

pub js_max-associates : (x y z : Float) → Number x → Number y → Number z → js_max (js_max x y) z ≡ js_max x (js_max y z)
js_max-associates x y z n k l =
    let a = ranked x n in
    let b = ranked y k in
    let c = ranked z l in
    one_rank binary64 (js_max (js_max x y) z) (js_max x (js_max y z)) (max (max a.0 b.0) c.0)
    (js_max-number (js_max x y) z (js_max-number x y n k) l).0 (js_max-number x (js_max y z) n (js_max-number y z k l)).0
    (max-rank binary64 (js_max x y) z (max a.0 b.0) c.0 (max-rank binary64 x y a.0 b.0 a.1 b.1) c.1)
    (subst (Rank binary64 (js_max x (js_max y z))) (omega arith) (max-rank binary64 x (js_max y z) a.0 (max b.0 c.0) a.1 (max-rank binary64 y z b.0 c.0 b.1 c.1)))

-- ---- the order is total
pub under-total : (x y : Float) → Number x → Number y → under x y ≡ false → under y x ≡ false → x ≡ y
under-total x y n k h l =
    let a = ranked x n in
    let b = ranked y k in
    one_rank binary64 x y a.0 n.0 k.0 a.1
    (subst (Rank binary64 y)
    (omega (arith, ltb-false a.0 b.0 (sym (under-rank binary64 x y a.0 b.0 a.1 b.1) ∙ h), ltb-false b.0 a.0 (sym (under-rank binary64 y x b.0 a.0 b.1 a.1) ∙ l)))
    b.1)
