-- A floor is its levels' own exactly when it has the bits of the floor that they give, where every NaN has the same bits. Assumes nothing.
use Rattle.std.proofs.Common.{◌≡◌, Bool, true, false, cond, not, ◌&&◌, T, eqb, eq-eqb, eqb-true, true≢false, List, sym, refl, ap, ◌∙◌, subst}
use lib.Ieee.{Float, nan, inf, fin, binary64, fits, is_nan, ne, to_bits, of_bits}
use lib.Ieee.Bits.{of_bits-to_bits, is_false}
use lib.Ieee.Compare.{differs_from_itself}
use Rattle.base.proofs.Signs.{no_nan}
use lib.Ieee.Fits.{mul-fits}
use Rattle.envelope.specs.Envelope.{peak, hundredth, floor, alike, own_floor}

-- ---- two numbers that are alike are the same number
same_by_bits : (x y : Float) → T (fits binary64 x) → T (fits binary64 y) → eqb (to_bits binary64 x) (to_bits binary64 y) ≡ true → x ≡ y
same_by_bits x y fx fy e =
    sym (of_bits-to_bits binary64 x fx)
    ∙ ap (of_bits binary64) (eqb-true (to_bits binary64 x) (to_bits binary64 y) e)
    ∙ of_bits-to_bits binary64 y fy

-- both of two tests hold
and_parts : (a b : Bool) → (a && b) ≡ true → (a ≡ true) × (b ≡ true)
and_parts true b h = (refl, h)
and_parts false b h = absurd (true≢false (sym h))

pub alike_same : (x y : Float) → T (fits binary64 x) → T (fits binary64 y) → alike x y ≡ true → x ≡ y
alike_same x y fx fy h = go (is_nan x) refl h
  where
    nan_is : (x : Float) → is_nan x ≡ true → x ≡ nan
    nan_is nan e = refl
    nan_is (inf s) e = unfold is_nan in absurd (true≢false (sym e))
    nan_is (fin s m i) e = unfold is_nan in absurd (true≢false (sym e))

    go : (t : Bool) → is_nan x ≡ t → cond t (is_nan y) (not (is_nan y) && eqb (to_bits binary64 x) (to_bits binary64 y)) ≡ true → x ≡ y
    go true t e = nan_is x t ∙ sym (nan_is y e)
    go false t e = same_by_bits x y fx fy (and_parts (not (is_nan y)) (eqb (to_bits binary64 x) (to_bits binary64 y)) e).1

pub alike_self : (x : Float) → alike x x ≡ true
alike_self x = go (is_nan x) (eq-eqb (to_bits binary64 x) (to_bits binary64 x) refl)
  where
    go : (t : Bool) {b : Bool} → b ≡ true → cond t t (not t && b) ≡ true
    go true h = refl
    go false h = h

-- ---- so their bits decide
alike-bits : (x y : Float) → T (fits binary64 x) → T (fits binary64 y) → eqb (to_bits binary64 x) (to_bits binary64 y) ≡ alike x y
alike-bits x y fx fy = go (eqb (to_bits binary64 x) (to_bits binary64 y)) (alike x y) refl refl
  where
    go : (s t : Bool) → eqb (to_bits binary64 x) (to_bits binary64 y) ≡ s → alike x y ≡ t → eqb (to_bits binary64 x) (to_bits binary64 y) ≡ alike x y
    go true true p q = p ∙ sym q
    go false false p q = p ∙ sym q
    go true false p q = absurd (true≢false (sym (subst (λ (v : Float). alike x v ≡ true) (same_by_bits x y fx fy p) (alike_self x)) ∙ q))
    go false true p q =
        absurd (true≢false (sym (subst (λ (v : Float). eqb (to_bits binary64 x) (to_bits binary64 v) ≡ true) (alike_same x y fx fy q) (eq-eqb (to_bits binary64 x) (to_bits binary64 x) refl)) ∙ p))

pub floor-fits : (ls : List Float) → T (fits binary64 (floor ls))
unfolding floor
floor-fits ls = mul-fits binary64 (peak ls) hundredth

pub own-by_bits : (ls : List Float) (f : Float) → T (fits binary64 f) → eqb (to_bits binary64 (floor ls)) (to_bits binary64 f) ≡ own_floor ls f
unfolding own_floor
own-by_bits ls f h = alike-bits (floor ls) f (floor-fits ls) h

-- ---- NaN, as a comparison with itself finds it
is-nan : (x : Float) → ne x x ≡ is_nan x
is-nan x = go (ne x x) refl
  where
    go : (t : Bool) → ne x x ≡ t → ne x x ≡ is_nan x
    go true t = t ∙ sym (ap is_nan (differs_from_itself x (subst T (sym t) tt)) ∙ unfold is_nan in refl)
    go false t = t ∙ sym (is_false (is_nan x) (no_nan x t))

-- where neither floor is NaN, their bits decide
module _ {own : Float} (f : Float) (ls : List Float) (is : own ≡ floor ls) where
  pub own_bits : ne own own ≡ false → ne f f ≡ false → eqb (to_bits binary64 own) (to_bits binary64 f) ≡ own_floor ls f
  unfolding own_floor
  own_bits h k = rw (sym is, sym (is-nan own), h, sym (is-nan f), k)
