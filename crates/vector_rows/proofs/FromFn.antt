-- An array made by calls of a closure that changes nothing: each element is a function of its place.
use Rattle.std.proofs.Common.{◌≡◌, ℕ, zero, suc, ◌+◌, ◌<◌, ◌≤◌, List, map, get_or, refl, sym, ap, ◌∙◌, subst, arith, ⊎_elim}
use Rattle.std.proofs.str.Laws.{order}
use Rattle.std.proofs.lemmas.List.FromFn.{fill_by_all}
use Rattle.std.specs.Array.{IsFromFnResult, IsFromFnResultFrom}
use Rattle.std.specs.List.{range_with_len}
use denote.Param.Members.{Mut, Called}

module _ {F B : Type 0} (g : Mut F (ℕ × Unit {0}) B) (f : F) (v : ℕ → B) (each : (i : ℕ) (y : B) (q : F) → Called g f (i, tt) y q → (y ≡ v i) × (q ≡ f)) where
  -- from place i on
  at_place : (n i : ℕ) (ys : List B) (p : F) → p ≡ f → IsFromFnResultFrom g p ys i n → (k : ℕ) (d : B) → i ≤ k → k < i + n → get_or ys k d ≡ v k
  at_place zero i ys p same called k d from below = absurd (omega arith)
  at_place (suc n) i ys p same called k d from below =
      let here = each i called.1 called.0 (subst (λ (s : F). Called g s (i, tt) called.1 called.0) same called.3) in
      ⊎_elim
      (λ later. at_place n (i + 1) ys called.0 here.1 called.4 k d (omega arith) (omega arith))
      (λ now. let is_here : k ≡ i = omega arith in ap (λ j. get_or ys j d) is_here ∙ called.2.1 d ∙ here.0 ∙ ap v (sym is_here))
      (order i k)

  pub map-from_fn : (ys : List B) (n : ℕ) (d : B) → IsFromFnResult g f ys n → ys ≡ map v (range_with_len 0 n)
  map-from_fn ys n d made = fill_by_all v ys n d made.long (λ k below. at_place n 0 ys f refl made.each k d (omega arith) (omega arith))
