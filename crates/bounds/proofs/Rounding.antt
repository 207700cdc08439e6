-- What one operation does to a number of at most b / d in size. Where d is a power of two, n / d is a value of the format, and rounding keeps the
-- order: so bounds in d-ths add up, and rounding adds nothing to them. Assumes nothing.
use Prim.Native.Nat.{ℕ, ◌+◌, ◌-◌, ◌*◌, ◌<◌, ◌≤◌, ◌^◌}
use mathlib.Core.Bool.{Bool, true, false, cond, not, ◌&&◌}
use mathlib.Core.Path.{◌≡◌, refl}
use native.Mathlib.Nat.{mul_comm, mul-sub, mul-pos, mul-le-mul_right, le_of_mul-le-mul_right}
use native.Mathlib.Omega.{arith}
use lib.Dec.{ltb}
use lib.Pow.{pow_pos}
use lib.Ieee.{Float, nan, inf, fin, binary64, up, down, round, sum, add, is_nan}
use lib.Ieee.Fits.{down_pos}
use Rattle.base.specs.Floats.{◌⊕◌, Most}
use Rattle.base.proofs.Most.{round-most, held}
use Rattle.js.specs.Js.{under, js_min, js_max}
use Rattle.bounds.specs.Bounds.{UnderIn}

-- ---- a larger bound, and the bound of a number whose sign is known
module _ (d : ℕ) where
  pub under_more : (a b : ℕ) (x : Float) → a ≤ b → UnderIn d a x → UnderIn d b x
  under_more a b nan l h = h
  under_more a b (inf s) l h = h
  under_more a b (fin s m e) l h = let r : a * down e ≤ b * down e = mul-le-mul_right (down e) l in omega arith

  -- in parts of a d-th, and back
  pub under-finer : (k b : ℕ) (x : Float) → UnderIn d b x → UnderIn (d * k) (b * k) x
  under-finer k b nan h = h
  under-finer k b (inf s) h = h
  under-finer k b (fin s m e) h = let r : m * up e * d * k ≤ b * down e * k = mul-le-mul_right k h in omega arith

  pub under-coarser : (k b : ℕ) (x : Float) → 0 < k → UnderIn (d * k) (b * k) x → UnderIn d b x
  under-coarser k b nan K h = h
  under-coarser k b (inf s) K h = h
  under-coarser k b (fin s m e) K h = le_of_mul-le-mul_right {k = k} (omega arith) K

  pub most-under : (s : Bool) (b : ℕ) (x : Float) → Most s b d x → UnderIn d b x
  most-under s b nan h = h
  most-under s b (inf t) h = h
  most-under s b (fin t m e) h = h.1

  -- ---- the larger and the smaller of two is one of the two
  module _ (b : ℕ) where
    pub under-number : (x : Float) → UnderIn d b x → is_nan x ≡ false
    unfolding is_nan
    under-number nan h = absurd h
    under-number (inf s) h = absurd h
    under-number (fin s m e) h = refl

    pick : (t : Bool) (x y : Float) → UnderIn d b x → UnderIn d b y → UnderIn d b (cond t x y)
    pick true x y h k = h
    pick false x y h k = k

    pub max-under : (x y : Float) → UnderIn d b x → UnderIn d b y → UnderIn d b (js_max x y)
    unfolding js_max
    max-under x y h k = rw (under-number x h, under-number y k) (pick (under x y) y x k h)

    pub min-under : (x y : Float) → UnderIn d b x → UnderIn d b y → UnderIn d b (js_min x y)
    unfolding js_min
    min-under x y h k = rw (under-number x h, under-number y k) (pick (under y x) y x k h)

-- ---- in d-ths, where d is 2 ^ k
module _ (k : ℕ) (fine : k ≤ 1074) where
  abbrev d : ℕ
  d = 2 ^ k

  -- ---- one rounding
  pub round-signed : (s : Bool) (a c b : ℕ) → 0 < c → b < 2 ^ 53 → a * d ≤ b * c → Most s b d (round binary64 s a c)
  round-signed s a c b C h l = round-most binary64 a c b d C (pow_pos k) (held binary64 b k h fine) l s

  pub round_under : (s : Bool) (a c b : ℕ) → 0 < c → b < 2 ^ 53 → a * d ≤ b * c → UnderIn d b (round binary64 s a c)
  round_under s a c b C h l = most-under d s b (round binary64 s a c) (round-signed s a c b C h l)

  -- ---- ±a / c + ±b / c, with like signs and with unlike signs
  module _ (a b c n : ℕ) (C : 0 < c) (N : n < 2 ^ 53) where
    pub sum_like : (s : Bool) → (a + b) * d ≤ n * c → UnderIn d n (sum binary64 s a s b c)
    unfolding sum
    sum_like true l = round_under true (a + b) c n C N l
    sum_like false l = round_under false (a + b) c n C N l

    pub sum-unlike : (s : Bool) → a * d ≤ b * d + n * c → b * d ≤ a * d + n * c → UnderIn d n (sum binary64 s a (not s) b c)
    unfolding sum
    sum-unlike s h l = signs s
      where
        less : (x y : ℕ) → x * d ≤ y * d + n * c → (x - y) * d ≤ n * c
        less x y h = rw (mul_comm (x - y) d, mul-sub d x y, mul_comm d x, mul_comm d y) (omega arith)

        go : (r t v : Bool) → UnderIn d n (cond r (round binary64 t (b - a) c) (round binary64 v (a - b) c))
        go true t v = round_under t (b - a) c n C N (less b a l)
        go false t v = round_under v (a - b) c n C N (less a b h)

        signs : (s : Bool) → UnderIn d n (sum binary64 s a (not s) b c)
        signs true = go (ltb a b) false (true && ltb b a)
        signs false = go (ltb a b) true (false && ltb b a)

    sum-under : (s t : Bool) → (a + b) * d ≤ n * c → UnderIn d n (sum binary64 s a t b c)
    sum-under true true l = sum_like true l
    sum-under true false l = sum-unlike true (omega arith) (omega arith)
    sum-under false true l = sum-unlike false (omega arith) (omega arith)
    sum-under false false l = sum_like false l

  -- ---- sums
  pub add-under : (a b : ℕ) (x y : Float) → a + b < 2 ^ 53 → UnderIn d a x → UnderIn d b y → UnderIn d (a + b) (x ⊕ y)
  unfolding add
  add-under a b nan y l h i = absurd h
  add-under a b (inf s) y l h i = absurd h
  add-under a b (fin s m e) nan l h i = absurd i
  add-under a b (fin s m e) (inf t) l h i = absurd i
  add-under a b (fin s m e) (fin t n g) l h i =
      sum-under (m * up e * down g) (n * up g * down e) (down e * down g) (a + b) (mul-pos (down_pos e) (down_pos g)) l s t (cross (m * up e) (down e) (n * up g) (down g) h i)
    where
      cross : (X E Y G : ℕ) → X * d ≤ a * E → Y * d ≤ b * G → (X * G + Y * E) * d ≤ (a + b) * (E * G)
      cross X E Y G h i =
          let p : X * d * G ≤ a * E * G = mul-le-mul_right G h in
          let q : Y * d * E ≤ b * G * E = mul-le-mul_right E i in omega arith
