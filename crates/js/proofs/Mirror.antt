-- Math.min is the mirror of Math.max at zero. Assumes nothing.
use mathlib.Core.Path.{◌≡◌, refl, sym, ap}
use mathlib.Core.Bool.{Bool, true, false, cond, not, ◌&&◌, ◌||◌, beq}
use Prim.Native.Nat.{ℕ, ◌*◌}
use native.Mathlib.Nat.{add_comm}
use borrow.Author.Tests.{eqb-true, eqb-false, ne_eqb}
use lib.Dec.{ltb, eqb}
use lib.Ieee.{Float, nan, inf, fin, up, down, is_nan, neg, lt, eq, below, level}
use Rattle.base.proofs.Signs.{neg-neg}
use Rattle.js.specs.Js.{under, js_min, js_max}

-- a is under b where -b is under -a: by signs and sizes
level-mirror : (s t : Bool) (a b : ℕ) → level (not s) a (not t) b ≡ level t b s a
level-mirror s t a b = go (eqb a b) refl
  where
    beq-mirror : (s t : Bool) → beq (not s) (not t) ≡ beq t s
    beq-mirror true true = refl
    beq-mirror true false = refl
    beq-mirror false true = refl
    beq-mirror false false = refl

    go : (c : Bool) → eqb a b ≡ c → level (not s) a (not t) b ≡ level t b s a
    go true c = rw (eqb-true a b c, beq-mirror s t)
    go false c = rw (c, ne_eqb b a (λ (e : b ≡ a). eqb-false a b c (sym e)))

finite-mirror : (s t : Bool) (a b : ℕ) → (below (not s) a (not t) b || (level (not s) a (not t) b && (not s && not (not t)))) ≡ (below t b s a || (level t b s a && (t && not s)))
finite-mirror s t a b = rw (level-mirror s t a b) (go s t)
  where
    go : (s t : Bool) → (below (not s) a (not t) b || (level t b s a && (not s && not (not t)))) ≡ (below t b s a || (level t b s a && (t && not s)))
    go false false = refl
    go false true = ap (λ (n : ℕ). ltb 0 n || (level true b false a && true)) (add_comm a b)
    go true false = refl
    go true true = refl

under-mirror : (x y : Float) → under (neg x) (neg y) ≡ under y x
unfolding under neg lt eq
under-mirror nan nan = refl
under-mirror nan (inf t) = refl
under-mirror nan (fin t n d) = refl
under-mirror (inf s) nan = refl
under-mirror (inf true) (inf true) = refl
under-mirror (inf true) (inf false) = refl
under-mirror (inf false) (inf true) = refl
under-mirror (inf false) (inf false) = refl
under-mirror (inf s) (fin t n d) = refl
under-mirror (fin s m e) nan = refl
under-mirror (fin s m e) (inf true) = refl
under-mirror (fin s m e) (inf false) = refl
under-mirror (fin s m e) (fin t n d) = finite-mirror s t (m * up e * down d) (n * up d * down e)

nan-mirror : (x : Float) → is_nan (neg x) ≡ is_nan x
unfolding is_nan neg
nan-mirror nan = refl
nan-mirror (inf s) = refl
nan-mirror (fin s m e) = refl

pub min-mirror : (x y : Float) → neg (js_max (neg x) (neg y)) ≡ js_min x y
unfolding js_min js_max neg
min-mirror x y = rw (nan-mirror x, nan-mirror y, under-mirror x y) (go (is_nan x || is_nan y) (under y x))
  where
    go : (a b : Bool) → neg (cond a nan (cond b (neg y) (neg x))) ≡ cond a nan (cond b y x)
    go true b = refl
    go false true = neg-neg y
    go false false = neg-neg x
