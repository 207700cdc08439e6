-- A phrase's words in the work space: what is gathered there is fitted and put back, and what stands behind them is never read. Assumes nothing.
use Prim.Native.Nat.{ℕ, ◌-◌}
use mathlib.Core.Bool.{Bool}
use mathlib.Core.Path.{◌≡◌, sym, ap, ◌∙◌}
use mathlib.Core.List.{List}
use native.Mathlib.Omega.{arith}
use native.Mathlib.Nat.{sub-zero}
use borrow.Author.Tests.{eq-eqb, ne_eqb}
use lib.ListN.{length, take, drop}
use lib.Ieee.{Float, nan}
use Rattle.base.specs.Words.{Edges, edges, part, with_part}
use Rattle.base.specs.declared.Times.{Times}
use Rattle.fit_file.specs.FitFile.{members_of, picked, picked_edges, put_back, put_edges, fit_group, fit_phrase}
use Rattle.fit_file.specs.Parts.{Holds}
use Rattle.fit_file.proofs.Local.{put_front}

-- the first n places, as a part
first_part : {A : Type 0} (n : ℕ) (xs : List A) → part 0 n xs ≡ take n xs
first_part n xs = rw sub-zero

module _ (row : List Bool) (duration : Float) (span : Times) (letters phrases : List ℕ) (p n : ℕ) (es : Edges) (ws we : List Float) (wl : List ℕ)
    (at : Holds (members_of phrases p (length es.starts)) es letters n ws we wl) where
  abbrev members : List ℕ
  members = members_of phrases p (length es.starts)

  pub phrase-none : n ≡ 0 → es ≡ fit_phrase row duration letters phrases span p es
  unfolding fit_phrase
  phrase-none z = rw (eq-eqb (length members) 0 (sym at.many ∙ z))

  pub phrase-some : {s e : List Float} {made : Edges} → (n ≡ 0 → ⊥) → length s ≡ n → length e ≡ n
      → edges s e ≡ fit_group row duration span (part 0 n wl) (edges (part 0 n ws) (part 0 n we))
      → made ≡ put_edges members (edges (with_part 0 n ws s) (with_part 0 n we e)) es
      → made ≡ fit_phrase row duration letters phrases span p es
  unfolding fit_phrase put_edges picked_edges
  phrase-some {s} {e} z ls le fitted put =
      let group : edges s e ≡ fit_group row duration span (picked 0 members letters) (picked_edges members es) = fitted ∙ rw (first_part n wl, first_part n ws, first_part n we, at.letters, at.starts, at.ends) in
      let front : edges (put_back members (with_part 0 n ws s) es.starts) (put_back members (with_part 0 n we e) es.ends) ≡ put_edges members (edges s e) es
      = rw (put_front nan members s (drop (n - 0) ws) es.starts (omega (arith, at.many, ls)), put_front nan members e (drop (n - 0) we) es.ends (omega (arith, at.many, le))) in
      put ∙ front ∙ rw (ne_eqb (length members) 0 (λ k. z (at.many ∙ k))) (ap (λ (g : Edges). put_edges members g es) group)
