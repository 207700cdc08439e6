-- Text written after text into a list, from one place to another: what is written is the whole. Assumes nothing.
use Prim.Native.Nat.{ℕ, suc, ◌+◌, ◌*◌, ◌≤◌}
use mathlib.Core.List.{List, [], ◌++◌, append_assoc}
use mathlib.Core.Path.{◌≡◌, ap, ◌∙◌}
use native.Mathlib.Omega.{arith}
use lib.ListN.{take, length-append}
use lib.Ieee.{Float}
use Rattle.base.proofs.Loops.{each_last}
use Rattle.job_text.specs.Text.{space, newline, word_text, bits_of, phrase_text, word_line, lines}
use Rattle.job_text.specs.Parts.{WroteAt}

module _ {a b : List ℕ} {at m r : ℕ} {first second third : List ℕ} where
  pub then : WroteAt a at first second m → WroteAt b m second third r → WroteAt (a ++ b) at first third r
  then p q = record {
    end = let l = length-append a b in omega (arith, p.end, q.end, l);
    here = q.here ∙ ap (λ (l : List ℕ). l ++ b) p.here ∙ append_assoc (take at first) a b;
  }

-- ---- a line for each of n, with at most 64 bytes each
module _ (line : ℕ → List ℕ) (before : List ℕ) (at : ℕ) where
  abbrev pub Listed : ℕ → List ℕ → ℕ → Type 0
  Listed i out next = WroteAt (lines line i) at before out next × (next ≤ at + 64 * i)

  pub lines_next : (i : ℕ) {out after : List ℕ} {next r : ℕ} → Listed i out next → WroteAt (line i) next out after r × (r ≤ next + 64) → Listed (i + 1) after r
  unfolding lines
  lines_next i p q =
      let b : i + 1 ≡ suc i = omega arith in
      let z : 0 + i ≡ i = omega arith in
      (rw (b, each_last (λ (k : ℕ) (text : List ℕ). text ++ line k) i 0 [], z) (then p.0 q.0), let l = p.1 in let m = q.1 in omega arith)

-- ---- a word's line
module _ {at r : ℕ} {before after : List ℕ} where
  pub word-line : (spans phrase : ℕ) (start end : Float) {m k l j i h : ℕ} {a b c d e f : List ℕ} → WroteAt word_text at before a m → WroteAt (bits_of start) m a b k × (k ≡ m + 16) → WroteAt space k b c l
      → WroteAt (bits_of end) l c d j × (j ≡ l + 16) → WroteAt space j d e i → WroteAt (phrase_text spans phrase) i e f h × (h ≤ i + 20) → WroteAt newline h f after r
      → WroteAt (word_line spans start end phrase) at before after r × (r ≤ at + 64)
  unfolding word_text word_line
  word-line spans phrase start end p q s t u v w = (
    then p (then q.0 (then s (then t.0 (then u (then v.0 w))))),
    let a = p.end in let b = q.1 in let c = s.end in let d = t.1 in let e = u.end in let f = v.1 in let g = w.end in omega arith,
  )
