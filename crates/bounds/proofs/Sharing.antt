-- A share-out between two times of at most b × 2^-40 s in size leaves times of at most b + 4,104 of them: a boundary is off by j + 8, and there are at most 4,096 words.
-- Assumes nothing.
use Prim.Native.Nat.{ℕ, ◌+◌, ◌<◌, ◌≤◌, ◌^◌}
use mathlib.Core.Bool.{Bool}
use mathlib.Core.List.{List}
use mathlib.Core.Path.{◌≡◌, refl, sym, ap, subst}
use native.Mathlib.Omega.{arith}
use lib.ListN.{length}
use lib.Ieee.{Float, nan, inf, fin}
use Rattle.base.specs.Floats.{◌⊖◌, num, Most}
use Rattle.base.specs.Words.{Edges, zero_f}
use Rattle.base.proofs.Parts.{long}
use Rattle.js.specs.Js.{negative, js_max}
use Rattle.word_calls.specs.Within.{AllFrom}
use Rattle.share.specs.Share.{sum, share, boundary}
use Rattle.share.proofs.Sums.{sum-between}
use Rattle.share.proofs.Long.{share-long}
use Rattle.share.proofs.Boundaries.{share-starts, share-ends}
use Rattle.share.proofs.Between.{between, between-forward}
use Rattle.bounds.specs.Bounds.{UnderIn, EdgesUnderIn, steps, stray, Timed}
use Rattle.share.specs.Drifts.{farthest}
use Rattle.bounds.proofs.Rounding.{under_more, most-under}
use Rattle.bounds.proofs.Parted.{edges_more}

pub timed-more : (n a b : ℕ) (es : Edges) → a ≤ b → Timed n a es → Timed n b es
timed-more n a b es l w = record { starts-long = w.starts-long; ends-long = w.ends-long; small = edges_more steps a b es l w.small }

under-most : (d b : ℕ) (x : Float) → UnderIn d b x → Most (negative x) b d x
under-most d b nan h = h
under-most d b (inf s) h = h
under-most d b (fin s m e) h = (refl, h)

module _ (letters : List ℕ) (ls : AllFrom 1 1000 letters) (few : length letters ≤ 4096) (b : ℕ) (B : b ≤ farthest) where
  small : sum letters < 2 ^ 53
  small = omega (arith, (sum-between 1 1000 letters ls).1)

  some : 0 < length letters → 0 < sum letters
  some h = omega (arith, (sum-between 1 1000 letters ls).0)

  -- ---- the boundaries
  Bounded : Float → Float → Type 0
  Bounded room from = 0 < length letters → (j : ℕ) → j ≤ length letters → UnderIn steps (b + stray) (boundary letters room (num (sum letters)) from j)

  module _ (from to : Float) (u : UnderIn steps b from) (v : UnderIn steps b to) where
    stays : (j : ℕ) (x : Float) → j ≤ length letters → (r : Bool) × Most r (b + j + 8) steps x → UnderIn steps (b + stray) x
    stays j x l (r, m) = under_more steps (b + j + 8) (b + stray) x (omega arith) (most-under steps r (b + j + 8) x m)

    difference-bounded : Bounded (to ⊖ from) from
    unfolding Bounded
    difference-bounded p j l =
        stays j (boundary letters (to ⊖ from) (num (sum letters)) from j) l
        (between letters (some p) small few j l b B from to (negative from) (negative to) (under-most steps b from u) (under-most steps b to v))

    forward-bounded : Bounded (js_max zero_f (to ⊖ from)) from
    unfolding Bounded
    forward-bounded p j l =
        stays j (boundary letters (js_max zero_f (to ⊖ from)) (num (sum letters)) from j) l
        (between-forward letters (some p) small few j l b B from to (negative from) (negative to) (under-most steps b from u) (under-most steps b to v))

  -- ---- the words
  module _ (es : Edges) (starts-long : length es.starts ≡ length letters) (ends-long : length es.ends ≡ length letters) where
    leaves : (room from : Float) → Bounded room from → EdgesUnderIn steps (b + stray) (share letters room (num (sum letters)) from es)
    unfolding Bounded
    leaves room from bounded = record {
      starts = λ i h.
          let l : i < length letters = omega (arith, ap (λ (n : ℕ × ℕ). n.0) same) in
          subst (UnderIn steps (b + stray)) (sym (share-starts letters room (num (sum letters)) from es starts-long ends-long i l)) (bounded (omega arith) i (omega arith));
      ends = λ i h.
          let l : i < length letters = omega (arith, ap (λ (n : ℕ × ℕ). n.1) same) in
          subst (UnderIn steps (b + stray)) (sym (share-ends letters room (num (sum letters)) from es starts-long ends-long i l)) (bounded (omega arith) (i + 1) (omega arith));
    }
      where
        same : long (share letters room (num (sum letters)) from es) ≡ long es
        same = share-long letters room (num (sum letters)) from es

    module _ (from to : Float) (u : UnderIn steps b from) (v : UnderIn steps b to) where
      pub difference-under : EdgesUnderIn steps (b + stray) (share letters (to ⊖ from) (num (sum letters)) from es)
      difference-under = leaves (to ⊖ from) from (difference-bounded from to u v)

      pub forward-under : EdgesUnderIn steps (b + stray) (share letters (js_max zero_f (to ⊖ from)) (num (sum letters)) from es)
      forward-under = leaves (js_max zero_f (to ⊖ from)) from (forward-bounded from to u v)
