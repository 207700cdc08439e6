-- Comparisons and maxima of values of a format that are not negative, by their units. Pairs of them (`Twin`) compare alike. Assumes nothing.
use mathlib.Core.Path.{◌≡◌, refl, sym, ap₂, ◌∙◌, subst}
use mathlib.Core.Bool.{Bool, true, false, cond, ◌&&◌, ◌||◌}
use Prim.Native.Nat.{ℕ, suc, ◌+◌, ◌*◌, ◌^◌, ◌≤◌, max}
use native.Mathlib.Omega.{arith}
use borrow.Author.Tests.{ltb-true, ltb-false, eqb-true}
use lib.Dec.{T, ltb, eqb}
use lib.Pow.{pow_pos}
use lib.Ieee.{Float, nan, inf, fin, Format, lt, le}
use lib.Ieee.Scale.{overflow}
use Rattle.base.proofs.Compare.{ltb-scale, eqb-scale}
use Rattle.base.proofs.Units.{in-range}
use Rattle.js.specs.Js.{js_max}
use Rattle.js.proofs.Order.{At, Rank, lt_at, eq-at, max-pick}
use Rattle.invariance.proofs.Twin.{Holds, Twin}

at_of : (f : Format) (x : Float) (a : ℕ) → Holds f x a → At f x false a
at_of f nan a h = absurd h.0
at_of f (inf s) a h = absurd h.0
at_of f (fin s m e) a h = (h.0, in-range f (fin s m e) a h.1 h.0)

module _ (f : Format) (x y : Float) (a b : ℕ) (p : Holds f x a) (q : Holds f y b) where
  lt-is : lt x y ≡ ltb a b
  lt-is = lt_at f x y false false a b (at_of f x a p) (at_of f y b q)

  le_is : le x y ≡ (ltb a b || (eqb a b && true))
  unfolding le
  le_is = ap₂ ◌||◌ lt-is (eq-at f x y false false a b (at_of f x a p) (at_of f y b q))

  pub le-units : T (le x y) → a ≤ b
  le-units h = go (ltb a b) (eqb a b) refl refl (subst T le_is h)
    where
      go : (s t : Bool) → ltb a b ≡ s → eqb a b ≡ t → T (s || (t && true)) → a ≤ b
      go true t d e h = omega (arith, ltb-true a b d)
      go false true d e h = omega (arith, eqb-true a b e)
      go false false d e h = absurd h

  pub max-holds : Holds f (js_max x y) (max a b)
  max-holds = rw (max-pick f x y (rank a) (rank b) (ranked x a p) (ranked y b q)) (go (ltb (rank a) (rank b)) refl)
    where
      rank : ℕ → ℕ
      rank n = suc (overflow f) + n

      ranked : (z : Float) (n : ℕ) → Holds f z n → Rank f z (rank n)
      ranked z n h = record { sign = false; size = n; at = at_of f z n h; is = refl }

      go : (t : Bool) → ltb (rank a) (rank b) ≡ t → Holds f (cond t y x) (max a b)
      go true t = subst (Holds f y) (omega (arith, ltb-true (rank a) (rank b) t)) q
      go false t = subst (Holds f x) (omega (arith, ltb-false (rank a) (rank b) t)) p

-- ---- pairs compare alike
module _ (f : Format) (t : ℕ) (x y u v : Float) (p : Twin f t x y) (q : Twin f t u v) where
  pub twin-lt : lt x u ≡ lt y v
  twin-lt =
      lt-is f x u p.at q.at p.left q.left
      ∙ sym (lt-is f y v (p.at * 2 ^ t) (q.at * 2 ^ t) p.right q.right ∙ ltb-scale p.at q.at (2 ^ t) (pow_pos t))

  pub twin-le : le x u ≡ le y v
  twin-le =
      le_is f x u p.at q.at p.left q.left
      ∙ sym (le_is f y v (p.at * 2 ^ t) (q.at * 2 ^ t) p.right q.right ∙ ap₂ (λ (c d : Bool). c || (d && true)) (ltb-scale p.at q.at (2 ^ t) (pow_pos t)) (eqb-scale p.at q.at (2 ^ t) (pow_pos t)))
