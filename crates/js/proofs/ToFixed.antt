-- toFixed with three decimals: what its rounding to whole thousandths means, and its answer by the size of the number. Assumes nothing.
use mathlib.Core.Path.{◌≡◌, refl, sym, ap, ◌∙◌, subst}
use mathlib.Core.Bool.{Bool, true, false, cond, ◌&&◌, true≢false}
use Prim.Native.Nat.{ℕ, zero, suc, ◌+◌, ◌-◌, ◌*◌, ◌/◌, ◌%◌, ◌^◌, ◌≤◌, ◌<◌}
use native.Mathlib.Nat.{div-add-mod', mod-lt, div-eq_of_lt, div-eq_of_lt-le, le-div_iff_mul-le, add-mul, one-mul, zero-mul, mul_comm, mul_assoc, mul_left_comm, mul_right_comm, mul-pos, mul-le-mul_right, le_of_mul-le-mul_right, lt_of_mul-lt-mul_right, le_trans, le_of_eq, le_of_lt, lt_of_lt_of_le, lt_of_not-le, not-le_of_lt}
use native.Mathlib.Omega.{arith}
use borrow.Author.Tests.{ltb-true, ltb-false, lt-ltb, leb-true, leb-false, lt-leb, le-leb}
use lib.IntN.{ℤ, pos}
use lib.Dec.{T, leb, ltb, lit<, lit≤}
use lib.Pow.{pow-add, pow_pos, pow_mono}
use lib.Ieee.{Float, nan, inf, fin, binary64, emax, low, up, down, size, units, round, sum, add, fits, neg, lt}
use lib.Ieee.Digits.{size-lt, size_reaches}
use lib.Ieee.Fits.{up_pos, down_pos, neg-fits}
use lib.Ieee.Exact.{HasValue, units_val}
use lib.Ieee.Nearest.{div_same}
use Rattle.base.proofs.Bits.{size-gt, units-fits}
use Rattle.base.proofs.Units.{pow-split, gap, in-range, same-value, in-units}
use Rattle.base.proofs.Signs.{round-neg, round-zero}
use Rattle.base.proofs.Near.{round-near}
use Rattle.js.specs.Js.{nearest_up, js_to_fixed}
use Rattle.js.specs.Sizes.{apart, Vast}

-- ---- the whole number nearest to a / b, of two the larger: half is added, and what is over a whole number dropped
nearest_up-div : (a b : ℕ) → 0 < b → nearest_up a b ≡ (a * 2 + b) / (b * 2)
unfolding nearest_up
nearest_up-div a b B = go (ltb (a % b * 2) b) refl where
  q : ℕ
  q = a / b

  at : q * b + a % b ≡ a
  at = div-add-mod' a b

  rest : a % b < b
  rest = mod-lt a B

  mid : (n : ℕ) → n * (b * 2) ≡ n * b * 2
  mid n = sym (mul_assoc n b 2)

  next : (q + 1) * b ≡ q * b + b
  next = simp (add-mul, one-mul)

  after : (q + 1 + 1) * b ≡ q * b + b + b
  after = simp (add-mul, one-mul)

  go : (t : Bool) → ltb (a % b * 2) b ≡ t → cond (ltb (a % b * 2) b) q (q + 1) ≡ (a * 2 + b) / (b * 2)
  go true t = let k = ltb-true (a % b * 2) b t in rw t (sym (div-eq_of_lt-le {k = q} (b * 2) (omega (arith, at, rest, mid q)) (omega (arith, at, rest, next, mid (q + 1)))))
  go false t =
      let k = ltb-false (a % b * 2) b t in
      rw t (sym (div-eq_of_lt-le {k = q + 1} (b * 2) (omega (arith, at, rest, next, mid (q + 1))) (omega (arith, at, rest, after, mid (q + 1 + 1)))))

-- it depends on the fraction alone
pub nearest_up-same : (a b c d : ℕ) → 0 < b → 0 < d → a * d ≡ c * b → nearest_up a b ≡ nearest_up c d
nearest_up-same a b c d B D e =
    nearest_up-div a b B ∙ div_same (a * 2 + b) (b * 2) (c * 2 + d) (d * 2) (omega arith) (omega arith) cross ∙ sym (nearest_up-div c d D)
  where
    cross : (a * 2 + b) * (d * 2) ≡ (c * 2 + d) * (b * 2)
    cross = simp (add-mul, mul_assoc, mul_comm, mul_left_comm) (omega (arith, e))

pub nearest_up-bounds : (a b : ℕ) → 0 < b → (nearest_up a b * b * 2 ≤ a * 2 + b) × (a * 2 + b < nearest_up a b * b * 2 + b * 2)
nearest_up-bounds a b B =
    let at : nearest_up a b * (b * 2) + (a * 2 + b) % (b * 2) ≡ a * 2 + b =
    subst (λ (q : ℕ). q * (b * 2) + (a * 2 + b) % (b * 2) ≡ a * 2 + b) (sym (nearest_up-div a b B)) (div-add-mod' (a * 2 + b) (b * 2)) in
    let rest : (a * 2 + b) % (b * 2) < b * 2 = mod-lt (a * 2 + b) (omega arith) in
    let e : nearest_up a b * (b * 2) ≡ nearest_up a b * b * 2 = sym (mul_assoc (nearest_up a b) b 2) in
    (omega arith, omega arith)

nearest_up-reaches : (a b w : ℕ) → 0 < b → w * b ≤ a → w ≤ nearest_up a b
nearest_up-reaches a b w B h = rw (nearest_up-div a b B) ((le-div_iff_mul-le {k = b * 2} {x = w} {y = a * 2 + b} (omega arith)).1 (let e : w * (b * 2) ≡ w * b * 2 = sym (mul_assoc w b 2) in omega arith))

-- ---- "an integer for which n / 10^f - x is as close to zero as possible. If there are two such n, pick the larger n": no whole number c lies
-- closer to a / b, and one that lies as close is not larger.
pub nearest_up-best : (a b c : ℕ) → 0 < b → (apart (nearest_up a b * b) a ≤ apart (c * b) a) × (apart (c * b) a ≡ apart (nearest_up a b * b) a → c ≤ nearest_up a b)
nearest_up-best a b c B = go (ltb c n) refl (ltb n c) refl where
  n : ℕ
  n = nearest_up a b

  bounds : (n * b * 2 ≤ a * 2 + b) × (a * 2 + b < n * b * 2 + b * 2)
  bounds = nearest_up-bounds a b B

  step : (x y : ℕ) → x < y → x * b + b ≤ y * b
  step x y h = let e : (x + 1) * b ≡ x * b + b = simp (add-mul, one-mul) in let l : (x + 1) * b ≤ y * b = mul-le-mul_right b (omega arith) in omega arith

  go : (s : Bool) → ltb c n ≡ s → (t : Bool) → ltb n c ≡ t → (apart (n * b) a ≤ apart (c * b) a) × (apart (c * b) a ≡ apart (n * b) a → c ≤ n)
  go true s t e = let l = step c n (ltb-true c n s) in (omega (arith, bounds), λ z. le_of_lt (ltb-true c n s))
  go false s true e = let l = step n c (ltb-true n c e) in (omega (arith, bounds), λ z. absurd (omega (arith, bounds)))
  go false s false e = let k : c ≡ n = omega (arith, ltb-false c n s, ltb-false n c e) in (le_of_eq (ap (λ (x : ℕ). apart (x * b) a) (sym k)), λ z. le_of_eq k)

-- ---- toFixed of a number X / D
leb-div : (k a b : ℕ) → 0 < b → leb (k * b) a ≡ leb k (a / b)
leb-div k a b B = go (leb (k * b) a) refl where
  go : (t : Bool) → leb (k * b) a ≡ t → leb (k * b) a ≡ leb k (a / b)
  go true t = t ∙ sym (le-leb k (a / b) ((le-div_iff_mul-le B).1 (leb-true (k * b) a t)))
  go false t = t ∙ sym (lt-leb k (a / b) (lt_of_not-le (λ (h : k ≤ a / b). not-le_of_lt (leb-false (k * b) a t) ((le-div_iff_mul-le B).0 h))))

pub fixed-is : (x : Float) (X D : ℕ) → 0 < D → HasValue x false X D → js_to_fixed x ≡ cond (leb (10 ^ 21 * D) X) x (round binary64 false (nearest_up (X * 1000) D) 1000)
unfolding js_to_fixed
fixed-is nan X D P h = absurd h
fixed-is (inf s) X D P h = absurd h
fixed-is (fin true m e) X D P h = absurd (true≢false h.0)
fixed-is (fin false m e) X D P h =
    ap (λ (t : Bool). cond t (fin false m e) (round binary64 false (nearest_up (m * up e * 1000) (down e)) 1000))
    (leb-div (10 ^ 21) (m * up e) (down e) (down_pos e) ∙ ap (leb (10 ^ 21)) (div_same (m * up e) (down e) X D (down_pos e) P h.1) ∙ sym (leb-div (10 ^ 21) X D P))
    ∙ ap (λ (n : ℕ). cond (leb (10 ^ 21 * D) X) (fin false m e) (round binary64 false n 1000))
    (nearest_up-same (m * up e * 1000) (down e) (X * 1000) D (down_pos e) P (mul_right_comm (m * up e) 1000 D ∙ ap (λ (z : ℕ). z * 1000) h.1 ∙ mul_right_comm X (down e) 1000))

-- ---- below 2 ^ 43, and so far below 10 ^ 21, it is the thousandths that count
pub fixed-below : (x : Float) (X D : ℕ) → 0 < D → HasValue x false X D → X < 2 ^ 43 * D → js_to_fixed x ≡ round binary64 false (nearest_up (X * 1000) D) 1000
fixed-below x X D P h l =
    fixed-is x X D P h
    ∙ ap (λ (t : Bool). cond t x (round binary64 false (nearest_up (X * 1000) D) 1000)) (lt-leb (10 ^ 21 * D) X (lt_of_lt_of_le l (mul-le-mul_right D (lit≤ tt))))

-- a number below 2 ^ -11 has no thousandth: less than half of one
pub fixed-none : (x : Float) (X D : ℕ) → 0 < D → HasValue x false X D → X * 2048 < D → js_to_fixed x ≡ fin false 0 (pos 0)
fixed-none x X D P h l =
    fixed-below x X D P h (omega arith)
    ∙ ap (λ (n : ℕ). round binary64 false n 1000) (nearest_up-div (X * 1000) D P ∙ div-eq_of_lt (omega arith))
    ∙ round-zero 1000 (lit< tt)

-- ---- From 2 ^ 43 on two neighbouring values are 2 ^ -9 apart at least, and a thousandth is nearer to x than half of that.
-- x is X units of 2 ^ -1074, and X is q * 2 ^ j with a q of 53 digits.
module _ (x : Float) (X : ℕ) (fx : T (fits binary64 x)) (hx : HasValue x false X (2 ^ low binary64)) (large : 2 ^ (43 + low binary64) ≤ X) where
  j : ℕ
  j = size X - 53

  size_is : size X ≡ 53 + j
  unfolding j
  size_is = all (size X) (size-gt X (43 + low binary64) large)
    where
      all : (z : ℕ) → 1117 < z → z ≡ 53 + (z - 53)
      all z h = omega arith

  j-large : 1065 ≤ j
  unfolding j
  j-large = over (size X) (size-gt X (43 + low binary64) large)
    where
      over : (z : ℕ) → 1117 < z → 1065 ≤ z - 53
      over z h = omega arith

  digits-53 : (q : ℕ) × (X ≡ q * 2 ^ j)
  digits-53 = gap binary64 x X j fx hx (le_trans (le_of_eq (sym (pow-add 2 52 j))) (size_reaches X (52 + j) (subst (λ (z : ℕ). 52 + j < z) (sym size_is) (omega arith))))

  q : ℕ
  unfolding digits-53
  q = digits-53.0

  q-is : X ≡ q * 2 ^ j
  unfolding q
  q-is = digits-53.1

  q-lt : q < 2 ^ 53
  q-lt =
      lt_of_mul-lt-mul_right (2 ^ j)
      (subst (λ (z : ℕ). z < 2 ^ 53 * 2 ^ j) q-is (lt_of_lt_of_le (size-lt X) (le_of_eq (ap (λ (z : ℕ). 2 ^ z) size_is ∙ pow-add 2 53 j))))

  x-is : units binary64 false q j ≡ x
  x-is =
      same-value binary64 (units binary64 false q j) x X (units-fits binary64 false q j (le_of_lt q-lt)) fx
      (subst (λ (z : ℕ). HasValue (units binary64 false q j) false z (2 ^ low binary64)) (sym q-is)
      (units_val binary64 false q j (subst (λ (z : ℕ). z < 2 ^ (low binary64 + suc (emax binary64))) q-is (in-range binary64 x X fx hx))))
      hx

  -- half a thousandth is less than half a step
  step : 2 ^ low binary64 < 1000 * 2 ^ j
  step = small (2 ^ low binary64) (2 ^ 1065) (2 ^ j) (pow-add 2 9 1065) (pow_mono j-large) (pow_pos j)
    where
      small : (d e p : ℕ) → d ≡ 512 * e → e ≤ p → 0 < p → d < 1000 * p
      small d e p h l z = omega arith

  -- where a step becomes shorter x is a whole number
  least : 2 ^ 52 * (1000 * 2 ^ j) ≤ nearest_up (X * 1000) (2 ^ low binary64) * 2 ^ low binary64
  least =
      le_trans (le_of_eq bottom) (mul-le-mul_right (2 ^ low binary64) (nearest_up-reaches (X * 1000) (2 ^ low binary64) (1000 * 2 ^ (52 + j - 1074)) (pow_pos 1074) (le_trans (le_of_eq (sym bottom)) most)))
    where
      bottom : 2 ^ 52 * (1000 * 2 ^ j) ≡ 1000 * 2 ^ (52 + j - 1074) * 2 ^ low binary64
      bottom =
          mul_left_comm (2 ^ 52) 1000 (2 ^ j)
          ∙ ap (λ (z : ℕ). 1000 * z) (sym (pow-add 2 52 j) ∙ pow-split (52 + j) 1074 (omega (arith, j-large)))
          ∙ sym (mul_assoc 1000 (2 ^ (52 + j - 1074)) (2 ^ 1074))

      most : 2 ^ 52 * (1000 * 2 ^ j) ≤ X * 1000
      most = le_trans (le_of_eq (mul_left_comm (2 ^ 52) 1000 (2 ^ j) ∙ mul_comm 1000 (2 ^ 52 * 2 ^ j)))
          (mul-le-mul_right 1000 (le_trans (le_of_eq (sym (pow-add 2 52 j))) (size_reaches X (52 + j) (subst (λ (z : ℕ). 52 + j < z) (sym size_is) (omega arith)))))

  nearest-x : round binary64 false (nearest_up (X * 1000) (2 ^ low binary64)) 1000 ≡ x
  nearest-x =
      round-near binary64 false (nearest_up (X * 1000) (2 ^ low binary64)) 1000 q j (lit< tt) q-lt least
      (near (X * 1000) _ (2 ^ low binary64) _ _ at bounds.1 step) (far (X * 1000) _ (2 ^ low binary64) _ _ at bounds.0 step)
      ∙ x-is
    where
      bounds : (nearest_up (X * 1000) (2 ^ low binary64) * 2 ^ low binary64 * 2 ≤ X * 1000 * 2 + 2 ^ low binary64) × (X * 1000 * 2 + 2 ^ low binary64 < nearest_up (X * 1000) (2 ^ low binary64) * 2 ^ low binary64 * 2 + 2 ^ low binary64 * 2)
      bounds = nearest_up-bounds (X * 1000) (2 ^ low binary64) (pow_pos 1074)

      at : q * (1000 * 2 ^ j) ≡ X * 1000
      at = mul_left_comm q 1000 (2 ^ j) ∙ mul_comm 1000 (q * 2 ^ j) ∙ ap (λ (z : ℕ). z * 1000) (sym q-is)

      near : (a n d u c : ℕ) → c ≡ a → a * 2 + d < n * 2 + d * 2 → d < u → c * 2 < n * 2 + u
      near a n d u c e h l = omega arith

      far : (a n d u c : ℕ) → c ≡ a → n * 2 ≤ a * 2 + d → d < u → n * 2 < c * 2 + u
      far a n d u c e h l = omega arith

  pub fixed-large : js_to_fixed x ≡ x
  fixed-large = fixed-is x X (2 ^ low binary64) (pow_pos 1074) hx ∙ ap (cond (leb (10 ^ 21 * 2 ^ low binary64) X) x) nearest-x ∙ both (leb (10 ^ 21 * 2 ^ low binary64) X)
    where
      both : (t : Bool) → cond t x x ≡ x
      both true = refl
      both false = refl

-- ---- signs
abbrev pub zero_f : Float
zero_f = fin false 0 (pos 0)

pub mirror-above : (x : Float) → lt x zero_f ≡ true → lt zero_f (neg x) ≡ true
unfolding lt neg
mirror-above nan h = absurd (true≢false (sym h))
mirror-above (inf true) h = refl
mirror-above (inf false) h = absurd (true≢false (sym h))
mirror-above (fin true m e) h = let l = ltb-true 0 (m * up e * 1 + 0 * 1 * down e) h in lt-ltb (0 * 1 * down e) (m * up e * 1) (omega (arith, zero-mul (down e)))
mirror-above (fin false m e) h = absurd (let l = ltb-true (m * up e * 1) (0 * 1 * down e) h in omega (arith, zero-mul (down e)))

-- a negative number is rounded as its size is
fixed-minus : (m : ℕ) (e : ℤ) → 0 < m → js_to_fixed (fin true m e) ≡ neg (js_to_fixed (fin false m e))
unfolding js_to_fixed
fixed-minus m e h =
    ap (λ (s : Bool). cond (leb (10 ^ 21 * down e) (m * up e)) (fin true m e) (round binary64 s (nearest_up (m * up e * 1000) (down e)) 1000)) (lt-ltb 0 m h)
    ∙ both (leb (10 ^ 21 * down e) (m * up e))
  where
    both : (t : Bool) → cond t (fin true m e) (round binary64 true (nearest_up (m * up e * 1000) (down e)) 1000) ≡ neg (cond t (fin false m e) (round binary64 false (nearest_up (m * up e * 1000) (down e)) 1000))
    both true = unfold neg in refl
    both false = round-neg binary64 (nearest_up (m * up e * 1000) (down e)) 1000

pub fixed-mirror : (x : Float) → lt x zero_f ≡ true → neg (js_to_fixed (neg x)) ≡ js_to_fixed x
unfolding lt neg js_to_fixed
fixed-mirror nan h = refl
fixed-mirror (inf true) h = refl
fixed-mirror (inf false) h = refl
fixed-mirror (fin true m e) h = sym (fixed-minus m e (some m (ltb-true 0 (m * up e * 1 + 0 * 1 * down e) h)))
  where
    some : (m : ℕ) → 0 < m * up e * 1 + 0 * 1 * down e → 0 < m
    some zero l = absurd (omega (arith, zero-mul (up e), zero-mul (down e)))
    some (suc m) l = omega arith
fixed-mirror (fin false m e) h = absurd (let l = ltb-true (m * up e * 1) (0 * 1 * down e) h in omega (arith, zero-mul (down e)))

-- what is neither below nor above zero: NaN, or a zero, which loses its sign
zero-fixed : (s : Bool) (e : ℤ) → js_to_fixed (fin s 0 e) ≡ zero_f
unfolding js_to_fixed
zero-fixed s e =
    ap (λ (t : Bool). cond t (fin s 0 e) (round binary64 (s && ltb 0 0) (nearest_up (0 * up e * 1000) (down e)) 1000)) (lt-leb (10 ^ 21 * down e) (0 * up e) (omega (arith, zero-mul (up e), down_pos e)))
    ∙ ap (λ (n : ℕ). round binary64 (s && ltb 0 0) n 1000) (nearest_up-div (0 * up e * 1000) (down e) (down_pos e) ∙ div-eq_of_lt (omega (arith, zero-mul (up e), down_pos e)))
    ∙ ap (λ (t : Bool). round binary64 t 0 1000) (none s)
    ∙ round-zero 1000 (lit< tt)
  where
    none : (s : Bool) → (s && ltb 0 0) ≡ false
    none true = refl
    none false = refl

plus-zero : (s : Bool) (e : ℤ) → add binary64 (fin s 0 e) zero_f ≡ zero_f
unfolding add sum
plus-zero s e = signs s
  where
    a : 0 * up e * 1 ≡ 0
    a = omega (arith, zero-mul (up e))

    b : 0 * 1 * down e ≡ 0
    b = omega (arith, zero-mul (down e))

    none : round binary64 false 0 (down e * 1) ≡ zero_f
    none = round-zero (down e * 1) (omega (arith, down_pos e))

    signs : (s : Bool) → sum binary64 s (0 * up e * 1) false (0 * 1 * down e) (down e * 1) ≡ zero_f
    signs true = rw (a, b) none
    signs false = rw (a, b) none

pub fixed-neither : (x : Float) → lt x zero_f ≡ false → lt zero_f x ≡ false → add binary64 x zero_f ≡ js_to_fixed x
unfolding lt
fixed-neither nan l h = unfold add js_to_fixed in refl
fixed-neither (inf true) l h = absurd (true≢false l)
fixed-neither (inf false) l h = absurd (true≢false h)
fixed-neither (fin s zero e) l h = plus-zero s e ∙ sym (zero-fixed s e)
fixed-neither (fin true (suc m) e) l h =
    absurd (let k = ltb-false 0 (suc m * up e * 1 + 0 * 1 * down e) l in let p : 0 < suc m * up e = mul-pos (omega arith) (up_pos e) in omega arith)
fixed-neither (fin false (suc m) e) l h =
    absurd (let k = ltb-false (0 * 1 * down e) (suc m * up e * 1) h in let p : 0 < suc m * up e = mul-pos (omega arith) (up_pos e) in omega (arith, zero-mul (down e)))

to_fixed-plus : (m : ℕ) (e : ℤ) → T (fits binary64 (fin false m e)) → 2 ^ 49 * down e ≤ m * up e → js_to_fixed (fin false m e) ≡ fin false m e
to_fixed-plus m e t v =
    let u = in-units binary64 false m e t in
    fixed-large (fin false m e) u.0 t u.1
    (le_of_mul-le-mul_right
    (le_trans (le_of_eq (ap (λ (z : ℕ). z * down e) (pow-add 2 43 1074) ∙ mul_right_comm (2 ^ 43) (2 ^ 1074) (down e)))
    (le_trans (mul-le-mul_right (2 ^ 1074) (le_trans (mul-le-mul_right (down e) (lit≤ tt)) v)) (le_of_eq u.1.1)))
    (down_pos e))

pub to_fixed-vast : (x : Float) → T (fits binary64 x) → Vast x → js_to_fixed x ≡ x
unfolding neg
to_fixed-vast nan t v = unfold js_to_fixed in refl
to_fixed-vast (inf s) t v = unfold js_to_fixed in refl
to_fixed-vast (fin true m e) t v = fixed-minus m e (some m v) ∙ ap neg (to_fixed-plus m e (neg-fits binary64 (fin true m e) t) v)
  where
    some : (m : ℕ) → 2 ^ 49 * down e ≤ m * up e → 0 < m
    some zero l = absurd (omega (arith, zero-mul (up e), down_pos e))
    some (suc m) l = omega arith
to_fixed-vast (fin false m e) t v = to_fixed-plus m e t v

-- ---- "-0 gives +0."
pub to_fixed-zero : js_to_fixed (fin true 0 (pos 0)) ≡ fin false 0 (pos 0)
to_fixed-zero = zero-fixed true (pos 0)

nothing : (m : ℕ) (e : ℤ) → nearest_up (m * up e * 1000) (down e) ≡ 0 → js_to_fixed (fin false m e) ≡ fin false 0 (pos 0)
unfolding js_to_fixed
nothing m e z =
    ap (λ (t : Bool). cond t (fin false m e) (round binary64 false (nearest_up (m * up e * 1000) (down e)) 1000)) (lt-leb (10 ^ 21 * down e) (m * up e) few)
    ∙ ap (λ (n : ℕ). round binary64 false n 1000) z
    ∙ round-zero 1000 (lit< tt)
  where
    bounds : m * up e * 1000 * 2 + down e < 0 * down e * 2 + down e * 2
    bounds = subst (λ (n : ℕ). m * up e * 1000 * 2 + down e < n * down e * 2 + down e * 2) z (nearest_up-bounds (m * up e * 1000) (down e) (down_pos e)).1

    few : m * up e < 10 ^ 21 * down e
    few = omega (arith, bounds, zero-mul (down e))

-- ---- "A negative x that rounds to nothing gives -0."
pub to_fixed-nothing : (m : ℕ) (e : ℤ) → 0 < m → nearest_up (m * up e * 1000) (down e) ≡ 0 → js_to_fixed (fin true m e) ≡ fin true 0 (pos 0)
unfolding neg
to_fixed-nothing m e h z = fixed-minus m e h ∙ ap neg (nothing m e z)
