-- The turns of the loop: each keeps the lengths of both lists and goes on by a word or more, and turns past the last word do nothing. So any number of
-- turns that is enough gives the same. Assumes nothing.
use Prim.Native.Nat.{ℕ, zero, suc, ◌+◌, ◌-◌, ◌≤◌, ◌<◌}
use mathlib.Core.Path.{◌≡◌, refl, sym, ap, ◌∙◌}
use mathlib.Core.Bool.{Bool, true, false, cond, not}
use mathlib.Core.List.{List}
use native.Mathlib.Omega.{arith}
use native.Mathlib.Nat.{sub-zero}
use lib.Dec.{ltb}
use lib.ListN.{get_or, length}
use lib.Ieee.{Float, nan}
use borrow.Author.Tests.{lt-ltb, le-ltb, ltb-true, ltb-false}
use Rattle.base.specs.Loop.{each}
use Rattle.base.specs.Words.{Edges, part_edges}
use Rattle.base.proofs.Loops.{each_keeps, up-ge}
use Rattle.base.proofs.Parts.{long, on_part-long}
use Rattle.share.proofs.Long.{share-long}
use Rattle.even.specs.Even.{crushed, grows, with_swollen, first_crushed, last_crushed, grown, stretch_of, even_run, Evening, even_turn, even_out}
use Rattle.even.specs.declared.stretch.Stretch.{Stretch}

-- a run keeps the lengths, for its words come back as many as they were
run_long : (letters : List ℕ) (r : Stretch) (es : Edges) → long (even_run letters r es) ≡ long es
unfolding even_run
run_long letters r es = on_part-long r.first (r.last + 1) _ es (share-long _ _ _ _ (part_edges r.first (r.last + 1) es))

module _ (letters : List ℕ) (limit : Float) where
  -- a turn at a word of the list, by whether the word is crushed
  abbrev after : Evening → Bool → Evening
  after s u = cond (not u) (record { edges = s.edges; i = s.i + 1 })
      (let r = stretch_of letters s.edges limit s.i in record { edges = even_run letters r s.edges; i = r.last + 1 })

  turn-keeps : (s : Evening) → long (even_turn letters limit s).edges ≡ long s.edges
  unfolding even_turn
  turn-keeps s = go (ltb s.i (length s.edges.starts)) (crushed s.edges s.i) where
    go : (t u : Bool) → long (cond t (after s u) s).edges ≡ long s.edges
    go false u = refl
    go true false = refl
    go true true = run_long letters (stretch_of letters s.edges limit s.i) s.edges

  -- ---- evening keeps the lengths of both lists
  pub even-long : (es : Edges) → long (even_out letters limit es) ≡ long es
  unfolding even_out
  even-long es =
      each_keeps (λ (s : Evening). long s.edges) (λ (_ : ℕ). even_turn letters limit) (λ (_ : ℕ) (s : Evening). turn-keeps s)
      (length es.starts) 0 (record { edges = es; i = 0 })

  -- ---- the run of word i has it, or a later word, as its last
  stretch-on : (es : Edges) (i : ℕ) → i ≤ (stretch_of letters es limit i).last
  unfolding stretch_of grown last_crushed
  stretch-on es i =
      let len = length es.starts in
      let l = last_crushed es len i in
      let a = with_swollen letters es (first_crushed es i) in
      omega (arith, up-ge (λ (b : ℕ). crushed es (b + 1)) (len - 1 - i) i, up-ge (grows letters es (get_or es.starts a nan) a) (len - 1 - l) l)

  -- a turn goes on by a word or more
  turn_on : (s : Evening) → s.i < length s.edges.starts → s.i < (even_turn letters limit s).i
  unfolding even_turn
  turn_on s h = rw (lt-ltb s.i (length s.edges.starts) h) (go (crushed s.edges s.i)) where
    go : (u : Bool) → s.i < (after s u).i
    go false = omega arith
    go true = omega (arith, stretch-on s.edges s.i)

  pub turn-past : (s : Evening) → length s.edges.starts ≤ s.i → even_turn letters limit s ≡ s
  unfolding even_turn
  turn-past s h = rw (le-ltb s.i (length s.edges.starts) h)

  -- ---- so many turns, counted from k
  pub turns : ℕ → ℕ → Evening → Edges
  turns k n s = (each (λ (_ : ℕ). even_turn letters limit) n k s).edges

  -- past the last word turns do nothing
  past : (n k : ℕ) (s : Evening) → length s.edges.starts ≤ s.i → turns k n s ≡ s.edges
  unfolding turns each
  past zero k s h = refl
  past (suc n) k s h = ap (turns (suc k) n) (turn-past s h) ∙ past n (suc k) s h

  -- what was enough is enough after a turn, with one turn less
  fewer : (n : ℕ) (s : Evening) → length s.edges.starts ≤ s.i + suc n → length (even_turn letters limit s).edges.starts ≤ (even_turn letters limit s).i + n
  fewer n s h = go (ltb s.i (length s.edges.starts)) refl where
    go : (t : Bool) → ltb s.i (length s.edges.starts) ≡ t → length (even_turn letters limit s).edges.starts ≤ (even_turn letters limit s).i + n
    go true e =
        let o = turn_on s (ltb-true _ _ e) in
        let l = ap (λ (m : ℕ × ℕ). m.0) (turn-keeps s) in omega (arith, h, o, l)
    go false e = let l = ltb-false _ _ e in rw (turn-past s l) (omega arith)

  -- two numbers of turns that are both enough give the same
  enough : (n m k j : ℕ) (s : Evening) → length s.edges.starts ≤ s.i + n → length s.edges.starts ≤ s.i + m → turns k n s ≡ turns j m s
  unfolding turns each
  enough zero m k j s g h = sym (past m j s (omega arith))
  enough (suc n) zero k j s g h = past (suc n) k s (omega arith)
  enough (suc n) (suc m) k j s g h = enough n m (suc k) (suc j) (even_turn letters limit s) (fewer n s g) (fewer m s h)

  -- ---- the loop stands at word i: as many turns as there are words left are enough
  pub turns-start : (es : Edges) → even_out letters limit es ≡ turns 0 (length es.starts - 0) (record { edges = es; i = 0 })
  unfolding even_out turns
  turns-start es = rw sub-zero

  pub turns_next : (len : ℕ) (s s' : Evening) → length s.edges.starts ≡ len → s.i < len → s.i < s'.i → s' ≡ even_turn letters limit s → turns 0 (len - s.i) s ≡ turns 0 (len - s'.i) s'
  unfolding turns each
  turns_next len s s' l h o e =
      let z : len - s.i ≡ suc (len - suc s.i) = omega arith in
      let k : length s'.edges.starts ≡ len = ap (λ (x : Evening). length x.edges.starts) e ∙ ap (λ (m : ℕ × ℕ). m.0) (turn-keeps s) ∙ l in
      rw z (ap (turns 1 (len - suc s.i)) (sym e) ∙ enough (len - suc s.i) (len - s'.i) 1 0 s' (omega arith) (omega arith))

  pub turns-done : (len : ℕ) (s : Evening) → len ≤ s.i → turns 0 (len - s.i) s ≡ s.edges
  unfolding turns each
  turns-done len s h = let z : len - s.i ≡ 0 = omega arith in rw z
