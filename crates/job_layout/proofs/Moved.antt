-- The same values in the whole file and in a part of it; and samples one stretch after another. Assumes nothing.
use Prim.Native.Nat.{ℕ, zero, suc, ◌+◌, ◌*◌, ◌<◌, ◌≤◌}
use mathlib.Core.List.{List, [], ◌∷◌, ◌++◌}
use mathlib.Core.Path.{◌≡◌, refl, ap, ◌∙◌}
use native.Mathlib.Omega.{arith}
use lib.ListN.{length, take, drop, length-drop}
use lib.Seq.{take-take, drop-drop, drop-append-le, drop-append-add, take-append-le}
use lib.Ieee.{binary32, binary64, of_bits}
use Rattle.base.proofs.Cleared.{words-alike}
use Rattle.job_layout.specs.Layout.{whole, u32_at, f64_at, f32_at, column, words_from, spans_from, samples_from}
use Rattle.job_layout.proofs.Filling.{spans-alike}
use Rattle.job_layout.proofs.Tabled.{table-alike, table-after}

-- ---- k bytes at a place of the first m bytes
seen : (k at m : ℕ) (xs : List ℕ) → at + k ≤ m → take k (drop at (take m xs)) ≡ take k (drop at xs)
seen k zero m xs h = take-take k m xs (omega arith)
seen k (suc at) zero xs h = absurd (omega arith)
seen k (suc at) (suc m) [] h = refl
seen k (suc at) (suc m) (x ∷ xs) h = seen k at m xs (omega arith)

within : (k at m a : ℕ) (file : List ℕ) → at + k ≤ m → take k (drop at (take m (drop a file))) ≡ take k (drop (a + at) file)
within k at m a file h = seen k at m (drop a file) h ∙ ap (take k) (drop-drop at a file)

-- ---- a reader of `width` bytes that finds the same in a part
abbrev Moves : {A : Type 0} → (List ℕ → ℕ → A) → ℕ → Type 0
Moves read width = (at m a : ℕ) (file : List ℕ) → at + width ≤ m → read (take m (drop a file)) at ≡ read file (a + at)

u32-moves : Moves u32_at 4
unfolding u32_at
u32-moves at m a file h = ap whole (within 4 at m a file h)

f64-moves : Moves f64_at 8
unfolding f64_at
f64-moves at m a file h = ap (λ (bs : List ℕ). of_bits binary64 (whole bs)) (within 8 at m a file h)

column-moves : {A : Type 0} (read : List ℕ → ℕ → A) (width : ℕ) → Moves read width → (size at m a n : ℕ) (file : List ℕ) → ((i : ℕ) → i < n → at + size * i + width ≤ m)
    → column read (take m (drop a file)) at size n ≡ column read file (a + at) size n
unfolding column
column-moves read width moves size at m a n file h =
    table-alike _ _ n 0 (λ k l u. moves (at + size * k) m a file (h k (omega (arith, u))) ∙ ap (read file) (apart a at (size * k)))
  where
    apart : (x y z : ℕ) → x + (y + z) ≡ x + y + z
    apart x y z = omega arith

-- ---- words and spans, read from the bytes after the table
module _ (file : List ℕ) (w s : ℕ) where
  abbrev bodies : List ℕ
  bodies = take (28 * w + 20 * s) (drop 24 file)

  pub words-moved : words_from bodies 0 w ≡ words_from file 24 w
  unfolding words_from
  words-moved =
      words-alike
      (column-moves f64_at 8 f64-moves 28 0 (28 * w + 20 * s) 24 w file (λ i l. omega (arith, l)))
      (column-moves f64_at 8 f64-moves 28 8 (28 * w + 20 * s) 24 w file (λ i l. omega (arith, l)))
      (column-moves u32_at 4 u32-moves 28 16 (28 * w + 20 * s) 24 w file (λ i l. omega (arith, l)))
      (column-moves u32_at 4 u32-moves 28 20 (28 * w + 20 * s) 24 w file (λ i l. omega (arith, l)))
      (column-moves u32_at 4 u32-moves 28 24 (28 * w + 20 * s) 24 w file (λ i l. omega (arith, l)))

  pub spans-moved : spans_from bodies (28 * w) s ≡ spans_from file (24 + 28 * w) s
  unfolding spans_from
  spans-moved =
      let a : 24 + (28 * w + 8) ≡ 24 + 28 * w + 8 = omega arith in
      let b : 24 + (28 * w + 16) ≡ 24 + 28 * w + 16 = omega arith in
      spans-alike
      (column-moves f64_at 8 f64-moves 20 (28 * w) (28 * w + 20 * s) 24 s file (λ i l. omega (arith, l)))
      (rw a at (column-moves f64_at 8 f64-moves 20 (28 * w + 8) (28 * w + 20 * s) 24 s file (λ i l. omega (arith, l))))
      (rw b at (column-moves u32_at 4 u32-moves 20 (28 * w + 16) (28 * w + 20 * s) 24 s file (λ i l. omega (arith, l))))

-- ---- samples, one stretch after another
pub samples-append : (bs cs : List ℕ) (m n : ℕ) → length bs ≡ 4 * m → length cs ≡ 4 * n → samples_from (bs ++ cs) 0 (m + n) ≡ samples_from bs 0 m ++ samples_from cs 0 n
unfolding samples_from column f32_at
samples-append bs cs m n h k =
    table-after _ m n
    ∙ rw (
      table-alike (λ (i : ℕ). f32_at (bs ++ cs) (0 + 4 * i)) (λ (i : ℕ). f32_at bs (0 + 4 * i)) m 0
          (λ i l u. ap (λ (x : List ℕ). of_bits binary32 (whole x)) (first (0 + 4 * i) (omega (arith, u)))),
      table-alike (λ (i : ℕ). f32_at (bs ++ cs) (0 + 4 * (m + i))) (λ (i : ℕ). f32_at cs (0 + 4 * i)) n 0
          (λ i l u. ap (λ (x : List ℕ). of_bits binary32 (whole x)) (second i)),
    )
  where
    first : (at : ℕ) → at + 4 ≤ length bs → take 4 (drop at (bs ++ cs)) ≡ take 4 (drop at bs)
    first at l = ap (take 4) (drop-append-le at bs cs (omega arith)) ∙ take-append-le 4 (drop at bs) cs (let d = length-drop at bs in omega arith)

    second : (i : ℕ) → take 4 (drop (0 + 4 * (m + i)) (bs ++ cs)) ≡ take 4 (drop (0 + 4 * i) cs)
    second i = let e : 0 + 4 * (m + i) ≡ length bs + (0 + 4 * i) = omega arith in rw e (ap (take 4) (drop-append-add bs cs (0 + 4 * i)))
