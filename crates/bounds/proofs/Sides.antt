-- A bound on one side of zero: the smaller of two numbers keeps what bounds one of them above, the larger what bounds one of them below. Assumes nothing.
use Prim.Native.Nat.{ℕ, ◌*◌, ◌<◌, ◌≤◌}
use mathlib.Core.Bool.{Bool, true, false, cond, ◌&&◌, ◌||◌, true≢false}
use mathlib.Core.Path.{◌≡◌, refl, sym}
use native.Mathlib.Nat.{mul-le-mul_right, le_of_mul-le-mul_right}
use native.Mathlib.Omega.{arith}
use borrow.Author.Tests.{ltb-true}
use lib.Dec.{ltb}
use lib.Ieee.{Float, nan, inf, fin, up, down, lt, eq, is_nan}
use lib.Ieee.Fits.{down_pos}
use Rattle.js.specs.Js.{under, js_min, js_max}
use Rattle.bounds.specs.Bounds.{UnderIn}

module _ (d : ℕ) where
  -- ---- at most b / d above zero (false), or below zero (true)
  abbrev pub Side : Bool → ℕ → Float → Type 0
  Side s b nan = ⊥
  Side s b (inf t) = t ≡ s → ⊥
  Side s b (fin t m e) = t ≡ s → m * up e * d ≤ b * down e

  pub under-side : (s : Bool) (b : ℕ) (x : Float) → UnderIn d b x → Side s b x
  under-side s b nan h = h
  under-side s b (inf t) h = absurd h
  under-side s b (fin t m e) h = λ z. h

  sides-under : (b : ℕ) (x : Float) → Side false b x → Side true b x → UnderIn d b x
  sides-under b nan h k = h
  sides-under b (inf true) h k = k refl
  sides-under b (inf false) h k = h refl
  sides-under b (fin true m e) h k = k refl
  sides-under b (fin false m e) h k = h refl

  pub side-more : (s : Bool) (a b : ℕ) (x : Float) → a ≤ b → Side s a x → Side s b x
  side-more s a b nan l h = h
  side-more s a b (inf t) l h = h
  side-more s a b (fin t m e) l h = λ z. let r : a * down e ≤ b * down e = mul-le-mul_right (down e) l in let k = h z in omega arith

  module _ (b : ℕ) where
    side-number : (s : Bool) (x : Float) → Side s b x → is_nan x ≡ false
    unfolding is_nan
    side-number s nan h = absurd h
    side-number s (inf t) h = refl
    side-number s (fin t m e) h = refl

    or-none : (a c : Bool) → (a || (c && false)) ≡ true → a ≡ true
    or-none true c h = refl
    or-none false true h = h
    or-none false false h = h

    cross : (X E Y G : ℕ) → 0 < G → X * G < Y * E → Y * d ≤ b * G → X * d ≤ b * E
    cross X E Y G p l h =
        let r : X * G * d ≤ Y * E * d = mul-le-mul_right d (omega arith) in
        let q : Y * d * E ≤ b * G * E = mul-le-mul_right E h in le_of_mul-le-mul_right {k = G} (omega arith) p

    -- ---- a number below one that is bounded above, and one above a number that is bounded below
    lower : (x y : Float) → under y x ≡ true → is_nan y ≡ false → Side false b x → Side false b y
    unfolding under lt eq is_nan
    lower x nan t n h = absurd (true≢false n)
    lower x (inf true) t n h = λ z. true≢false z
    lower x (fin true m e) t n h = λ z. absurd (true≢false z)
    lower nan (inf false) t n h = absurd h
    lower (inf s) (inf false) t n h = λ z. true≢false (sym (or-none false (eq (inf false) (inf s)) t))
    lower (fin s k g) (inf false) t n h = λ z. true≢false (sym t)
    lower nan (fin false m e) t n h = absurd h
    lower (inf false) (fin false m e) t n h = absurd (h refl)
    lower (inf true) (fin false m e) t n h = absurd (true≢false (sym t))
    lower (fin true k g) (fin false m e) t n h = absurd (true≢false (sym (or-none false (eq (fin false m e) (fin true k g)) t)))
    lower (fin false k g) (fin false m e) t n h = λ z.
        cross (m * up e) (down e) (k * up g) (down g) (down_pos g)
        (ltb-true (m * up e * down g) (k * up g * down e) (or-none (ltb (m * up e * down g) (k * up g * down e)) (eq (fin false m e) (fin false k g)) t)) (h refl)

    higher : (x y : Float) → under x y ≡ true → is_nan y ≡ false → Side true b x → Side true b y
    unfolding under lt eq is_nan
    higher x nan t n h = absurd (true≢false n)
    higher x (inf false) t n h = λ z. true≢false (sym z)
    higher x (fin false m e) t n h = λ z. absurd (true≢false (sym z))
    higher nan (inf true) t n h = absurd h
    higher (inf true) (inf true) t n h = λ z. h refl
    higher (inf false) (inf true) t n h = λ z. true≢false (sym t)
    higher (fin true k g) (inf true) t n h = λ z. true≢false (sym t)
    higher (fin false k g) (inf true) t n h = λ z. true≢false (sym t)
    higher nan (fin true m e) t n h = absurd h
    higher (inf true) (fin true m e) t n h = absurd (h refl)
    higher (inf false) (fin true m e) t n h = absurd (true≢false (sym t))
    higher (fin false k g) (fin true m e) t n h = absurd (true≢false (sym (or-none false (eq (fin false k g) (fin true m e)) t)))
    higher (fin true k g) (fin true m e) t n h = λ z.
        cross (m * up e) (down e) (k * up g) (down g) (down_pos g)
        (ltb-true (m * up e * down g) (k * up g * down e) (or-none (ltb (m * up e * down g) (k * up g * down e)) (eq (fin true k g) (fin true m e)) t)) (h refl)

    -- ---- the smaller and the larger of two
    pub min-side : (x y : Float) → is_nan y ≡ false → Side false b x → Side false b (js_min x y)
    unfolding js_min
    min-side x y n h = rw (side-number false x h, n) (go (under y x) refl)
      where
        go : (t : Bool) → under y x ≡ t → Side false b (cond t y x)
        go true t = lower x y t n h
        go false t = h

    max-side : (x y : Float) → is_nan y ≡ false → Side true b x → Side true b (js_max x y)
    unfolding js_max
    max-side x y n h = rw (side-number true x h, n) (go (under x y) refl)
      where
        go : (t : Bool) → under x y ≡ t → Side true b (cond t y x)
        go true t = higher x y t n h
        go false t = h

    max-sides : (s : Bool) (x y : Float) → Side s b x → Side s b y → Side s b (js_max x y)
    unfolding js_max
    max-sides s x y h k = rw (side-number s x h, side-number s y k) (go (under x y))
      where
        go : (t : Bool) → Side s b (cond t y x)
        go true = k
        go false = h

-- ---- a number between an end and a bound above
pub clamp-under : (d a b : ℕ) (end ceiling x : Float) → a ≤ b → UnderIn d a end → Side d false b ceiling → is_nan x ≡ false → UnderIn d b (js_max end (js_min ceiling x))
clamp-under d a b end ceiling x l h k n =
    let m = min-side d b ceiling x n k in
    sides-under d b (js_max end (js_min ceiling x)) (max-sides d b false end (js_min ceiling x) (side-more d false a b end l (under-side d false a end h)) m)
    (max-side d b end (js_min ceiling x) (side-number d b false (js_min ceiling x) m) (side-more d true a b end l (under-side d true a end h)))

-- ---- the larger of a number within a bound and one that the bound is above
pub above-under : (d b : ℕ) (x y : Float) → UnderIn d b x → Side d false b y → is_nan y ≡ false → UnderIn d b (js_max x y)
above-under d b x y h k n = sides-under d b (js_max x y) (max-sides d b false x y (under-side d false b x h) k) (max-side d b x y n (under-side d true b x h))
