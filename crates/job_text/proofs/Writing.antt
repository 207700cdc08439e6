-- Text written after text, one byte, one line or one list at a time, is the whole. Assumes nothing.
use Prim.Native.Nat.{ℕ, zero, suc, ◌+◌, ◌-◌, ◌*◌, ◌/◌, ◌%◌, ◌<◌, ◌≤◌}
use mathlib.Core.List.{List, [], ◌∷◌, ◌++◌, append-nil, append_assoc}
use mathlib.Core.Path.{◌≡◌, refl, sym, ap, ◌∙◌}
use native.Mathlib.Omega.{arith}
use borrow.Author.Tests.{lt-ltb, le-ltb, eq-eqb, ne_eqb}
use lib.ListN.{length, take, set, get_or}
use lib.Seq.{take-suc-set, take-suc, take_all}
use Rattle.base.specs.Loop.{each}
use Rattle.base.proofs.Loops.{each_last}
use lib.Ieee.{Float, nan}
use Rattle.job_text.specs.Text.{digit, space, newline, dash, piece_text, word_text, refused_text, decimal_in, decimal, hex_in, bits_of, refused_line, piece_line, phrase_text, word_line, lines, piece_lines, word_lines}
use Rattle.job_text.specs.declared.writer.Writer.{Writer}
use Rattle.job_text.specs.Parts.{Wrote, WroteAt}
use Rattle.job_text.proofs.Places.{then as then_at}

-- ---- nothing, and one text after another
pub nothing : (x : Writer) → Wrote [] x x
nothing x = record {
  same = refl;
  places = refl;
  end = omega arith;
  here = sym (append-nil (take x.at x.bytes.now));
}

-- the lists and places of two writers
list-wrote : {a : List ℕ} {x y : Writer} → Wrote a x y → WroteAt a x.at x.bytes.now y.bytes.now y.at
list-wrote p = record { end = p.end; here = p.here }

module _ {a b : List ℕ} {x y z : Writer} where
  pub then : Wrote a x y → Wrote b y z → Wrote (a ++ b) x z
  then p q =
      let w = then_at (list-wrote p) (list-wrote q) in
      record { same = p.same ∙ q.same; places = q.places ∙ p.places; end = w.end; here = w.here }

-- ---- a text, byte for byte: so many of its bytes stand from place `at` on
pub record Copied (text before : List ℕ) (at i : ℕ) (out : List ℕ) : Type 0 where
  pub here : take (at + i) out ≡ take at before ++ take i text

module _ {text before : List ℕ} {at : ℕ} where
  -- none of them yet
  pub copied_none : Copied text before at 0 before
  copied_none = record { here = let z : at + 0 ≡ at = omega arith in rw z (sym (append-nil (take at before))) }

  -- one byte more
  pub copied_next : {i : ℕ} {out : List ℕ} (d : ℕ) → Copied text before at i out → at + i < length out → i < length text
      → Copied text before at (i + 1) (set out (at + i) (get_or text i d))
  copied_next {i} {out} d p h l = record {
    here =
        let a : at + (i + 1) ≡ suc (at + i) = omega arith in
        let b : i + 1 ≡ suc i = omega arith in
        rw (a, b, take-suc text i d l) (
        take-suc-set out (at + i) (get_or text i d) h
        ∙ ap (λ (l : List ℕ). l ++ (get_or text i d ∷ [])) p.here
        ∙ append_assoc (take at before) (take i text) (get_or text i d ∷ [])
        );
  }

-- all of them: the text is written
pub copied_all : {text : List ℕ} {x z : Writer} {i : ℕ} → x.bytes.ghost_name ≡ z.bytes.ghost_name → length z.bytes.now ≡ length x.bytes.now → z.at ≡ x.at + i
    → Copied text x.bytes.now x.at i z.bytes.now → i ≤ length text → length text ≤ i → Wrote text x z
copied_all {text} {x} {z} {i} s m e p h l = record {
  same = s;
  places = m;
  end = omega arith;
  here = rw e (p.here ∙ ap (λ (t : List ℕ). take x.at x.bytes.now ++ t) (take_all i text l));
}

-- ---- a number, digit for digit
module _ (n most : ℕ) {x : Writer} where
  pub decimal-none : most ≡ 0 → Wrote (decimal_in most n) x x × (x.at ≤ x.at + most)
  unfolding decimal_in
  decimal-none e = (rw e (nothing x), omega arith)

  pub hex-none : most ≡ 0 → Wrote (hex_in most n) x x × (x.at ≡ x.at + most)
  unfolding hex_in
  hex-none e = (rw e (nothing x), omega arith)

  module _ {z : Writer} (some : most ≡ 0 → ⊥) where
    pub decimal-one : {d : ℕ} → d ≡ digit n → Wrote (d ∷ []) x z → n < 10 → Wrote (decimal_in most n) x z × (z.at ≤ x.at + most)
    unfolding decimal_in
    decimal-one {d} e w l = (go most some, let s = some_one in let h = w.end in omega arith) where
      some_one : 1 ≤ most
      some_one = omega (arith, some)

      go : (k : ℕ) → (k ≡ 0 → ⊥) → Wrote (decimal_in k n) x z
      go zero h = absurd (h refl)
      go (suc k) h = rw (lt-ltb n 10 l, ← e) w

    module _ {d : ℕ} {y : Writer} where
      pub decimal-more : Wrote (decimal_in (most - 1) (n / 10)) x y × (y.at ≤ x.at + (most - 1)) → d ≡ digit (n % 10) → Wrote (d ∷ []) y z → 10 ≤ n
          → Wrote (decimal_in most n) x z × (z.at ≤ x.at + most)
      unfolding decimal_in
      decimal-more p e w l = (go most some p.0, let s = some_one in let h = w.end in let k = p.1 in omega arith) where
        some_one : 1 ≤ most
        some_one = omega (arith, some)

        go : (k : ℕ) → (k ≡ 0 → ⊥) → Wrote (decimal_in (k - 1) (n / 10)) x y → Wrote (decimal_in k n) x z
        go zero h p = absurd (h refl)
        go (suc k) h p = let e' : suc k - 1 ≡ k = omega arith in rw (le-ltb n 10 l, ← e) (then (rw e' at p) w)

      pub hex-more : Wrote (hex_in (most - 1) (n / 16)) x y × (y.at ≡ x.at + (most - 1)) → d ≡ digit (n % 16) → Wrote (d ∷ []) y z
          → Wrote (hex_in most n) x z × (z.at ≡ x.at + most)
      unfolding hex_in
      hex-more p e w = (go most some p.0, let s = some_one in let h = w.end in let k = p.1 in omega arith) where
        some_one : 1 ≤ most
        some_one = omega (arith, some)

        go : (k : ℕ) → (k ≡ 0 → ⊥) → Wrote (hex_in (k - 1) (n / 16)) x y → Wrote (hex_in k n) x z
        go zero h p = absurd (h refl)
        go (suc k) h p = let e' : suc k - 1 ≡ k = omega arith in rw (← e) (then (rw e' at p) w)

-- ---- a line for each of n, with at most 64 bytes each
module _ (line : ℕ → List ℕ) (x : Writer) where
  abbrev Listed : ℕ → Writer → Type 0
  Listed i y = Wrote (lines line i) x y × (y.at ≤ x.at + 64 * i)

  lines_none : Listed 0 x
  unfolding lines each
  lines_none = (nothing x, omega arith)

  lines_next : (i : ℕ) {y z : Writer} → Listed i y → Wrote (line i) y z × (z.at ≤ y.at + 64) → Listed (i + 1) z
  unfolding lines
  lines_next i p q =
      let b : i + 1 ≡ suc i = omega arith in
      let e : 0 + i ≡ i = omega arith in
      (rw (b, each_last (λ (k : ℕ) (text : List ℕ). text ++ line k) i 0 [], e) (then p.0 q.0), let l = p.1 in let m = q.1 in omega arith)

module _ (starts ends : List ℕ) (x : Writer) where
  abbrev pub Pieces : ℕ → Writer → Type 0
  Pieces i y = Wrote (piece_lines starts ends i) x y × (y.at ≤ x.at + 64 * i)

  abbrev piece : ℕ → List ℕ
  piece i = piece_line (get_or starts i 0) (get_or ends i 0)

  pub pieces_none : Pieces 0 x
  unfolding piece_lines
  pieces_none = lines_none piece x

  pub pieces-next : (i : ℕ) {y z : Writer} → Pieces i y → Wrote (piece i) y z × (z.at ≤ y.at + 64) → Pieces (i + 1) z
  unfolding piece_lines
  pieces-next i p q = lines_next piece x i p q

module _ (spans : ℕ) (starts ends : List Float) (phrases : List ℕ) (x : Writer) where
  abbrev pub Spoken : ℕ → Writer → Type 0
  Spoken i y = Wrote (word_lines spans starts ends phrases i) x y × (y.at ≤ x.at + 64 * i)

  abbrev word : ℕ → List ℕ
  word i = word_line spans (get_or starts i nan) (get_or ends i nan) (get_or phrases i 0)

  pub words-none : Spoken 0 x
  unfolding word_lines
  words-none = lines_none word x

  pub words-next : (i : ℕ) {y z : Writer} → Spoken i y → Wrote (word i) y z × (z.at ≤ y.at + 64) → Spoken (i + 1) z
  unfolding word_lines
  words-next i p q = lines_next word x i p q

-- ---- the lines
module _ {x z : Writer} where
  pub refused-line : (n : ℕ) {a b : Writer} → Wrote refused_text x a → Wrote (decimal_in 20 n) a b × (b.at ≤ a.at + 20) → Wrote newline b z
      → Wrote (refused_line n) x z × (z.at ≤ x.at + 64)
  unfolding refused_text refused_line decimal
  refused-line n p q w = (then p (then q.0 w), let a = p.end in let b = q.1 in let c = w.end in omega arith)

  pub piece-line : (first end : ℕ) {a b c d : Writer} → Wrote piece_text x a → Wrote (decimal_in 20 first) a b × (b.at ≤ a.at + 20) → Wrote space b c
      → Wrote (decimal_in 20 end) c d × (d.at ≤ c.at + 20) → Wrote newline d z → Wrote (piece_line first end) x z × (z.at ≤ x.at + 64)
  unfolding piece_text piece_line decimal
  piece-line first end p q s t w =
      (then p (then q.0 (then s (then t.0 w))), let a = p.end in let b = q.1 in let c = s.end in let d = t.1 in let e = w.end in omega arith)

  pub phrase-none : (spans phrase : ℕ) → spans ≡ 0 → Wrote dash x z → Wrote (phrase_text spans phrase) x z × (z.at ≤ x.at + 20)
  unfolding phrase_text
  phrase-none spans phrase e w = (rw (eq-eqb spans 0 e) w, let a = w.end in omega arith)

  pub phrase-number : (spans phrase : ℕ) → (spans ≡ 0 → ⊥) → Wrote (decimal_in 20 phrase) x z × (z.at ≤ x.at + 20) → Wrote (phrase_text spans phrase) x z × (z.at ≤ x.at + 20)
  unfolding phrase_text decimal
  phrase-number spans phrase n w = (rw (ne_eqb spans 0 n) w.0, w.1)

  pub word-line : (spans phrase : ℕ) (start end : Float) {a b c d e f : Writer} → Wrote word_text x a → Wrote (bits_of start) a b × (b.at ≡ a.at + 16) → Wrote space b c
      → Wrote (bits_of end) c d × (d.at ≡ c.at + 16) → Wrote space d e → Wrote (phrase_text spans phrase) e f × (f.at ≤ e.at + 20) → Wrote newline f z
      → Wrote (word_line spans start end phrase) x z × (z.at ≤ x.at + 64)
  unfolding word_text word_line
  word-line spans phrase start end p q s t u v w = (
    then p (then q.0 (then s (then t.0 (then u (then v.0 w))))),
    let a = p.end in let b = q.1 in let c = s.end in let d = t.1 in let e = u.end in let f = v.1 in let g = w.end in omega arith,
  )
