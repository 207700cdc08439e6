-- The words left are given words: what holds of every number of a list holds of every number that is left of it. So words within the limits leave
-- words within the limits. Assumes nothing.
use Prim.Native.Nat.{ℕ, zero, suc, ◌+◌, ◌<◌, ◌≤◌}
use mathlib.Core.Path.{refl, sym, ◌∙◌, subst}
use mathlib.Core.List.{List, [], ◌∷◌, ◌++◌}
use native.Mathlib.Omega.{arith}
use lib.ListN.{length, take, drop, get_or}
use lib.Ieee.{Float, nan}
use Rattle.base.specs.Words.{Words, count}
use Rattle.base.proofs.Loops.{each_holds}
use Rattle.word_calls.specs.Within.{Within, WordsWithin}
use Rattle.loops.specs.Loops.{max_run, drained, drain, collapse_loops}
use Rattle.loops.specs.Parts.{goes_on, turn_words, pass_words, loop_words}
use Rattle.loops.proofs.Found.{loops-words, never-more}
use Rattle.loops.proofs.Whole.{left-even}

-- ---- P holds of every element
module _ {A : Type 0} (P : A → Type 0) where
  abbrev pub All : List A → Type 0
  All [] = Unit {0}
  All (x ∷ xs) = P x × All xs

  pub all_append : (xs ys : List A) → All xs → All ys → All (xs ++ ys)
  all_append [] ys h k = k
  all_append (x ∷ xs) ys h k = (h.0, all_append xs ys h.1 k)

  all_take : (n : ℕ) (xs : List A) → All xs → All (take n xs)
  all_take zero [] h = tt
  all_take zero (x ∷ xs) h = tt
  all_take (suc n) [] h = tt
  all_take (suc n) (x ∷ xs) h = (h.0, all_take n xs h.1)

  all_drop : (n : ℕ) (xs : List A) → All xs → All (drop n xs)
  all_drop zero [] h = h
  all_drop zero (x ∷ xs) h = h
  all_drop (suc n) [] h = tt
  all_drop (suc n) (x ∷ xs) h = all_drop n xs h.1

  all-drained : (a e : ℕ) (xs : List A) → All xs → All (drained a e xs)
  all-drained a e xs h = all_append (take a xs) (drop e xs) (all_take a xs h) (all_drop e xs h)

  -- by places
  pub all-at : (d : A) (xs : List A) → All xs → (i : ℕ) → i < length xs → P (get_or xs i d)
  all-at d [] h i l = absurd (omega arith)
  all-at d (x ∷ xs) h zero l = h.0
  all-at d (x ∷ xs) h (suc i) l = all-at d xs h.1 i (omega arith)

  pub at_all : (d : A) (xs : List A) → ((i : ℕ) → i < length xs → P (get_or xs i d)) → All xs
  at_all d [] h = tt
  at_all d (x ∷ xs) h = (h 0 (omega arith), at_all d xs (λ (i : ℕ) (l : i < length xs). h (suc i) (omega arith)))

-- ---- of every time, of every number of letters and of every number of units
module _ (P : Float → Type 0) (L U : ℕ → Type 0) where
  abbrev Numbers : Words → Type 0
  Numbers ws = All P ws.starts × (All P ws.ends × (All L ws.letters × All U ws.units))

  drain-numbers : (a e : ℕ) (ws : Words) → Numbers ws → Numbers (drain a e ws)
  drain-numbers a e ws h = (
    all-drained P a e ws.starts h.0,
    (all-drained P a e ws.ends h.1.0, (all-drained L a e ws.letters h.1.1.0, all-drained U a e ws.units h.1.1.1)),
  )

  pass-numbers : (n : ℕ) (ws : Words) → Numbers ws → Numbers (pass_words n ws)
  unfolding pass_words turn_words
  pass-numbers n ws h =
      each_holds (λ (i : ℕ) (ws : Words). Numbers ws) (turn_words n) (count ws) (λ (i : ℕ) (ws : Words) (l : i < _) (h : Numbers ws). drain-numbers (i + n) (goes_on n i ws) ws h)
      (count ws) 0 ws (omega arith) h

  left-numbers : (ws : Words) → Numbers ws → Numbers (collapse_loops ws).words
  unfolding loop_words
  left-numbers ws h =
      subst Numbers (sym (loops-words ws))
      (each_holds (λ (n : ℕ) (ws : Words). Numbers ws) pass_words 5 (λ (n : ℕ) (ws : Words) (l : n < 5) (h : Numbers ws). pass-numbers n ws h) max_run 1 ws (omega arith) h)

abbrev From : ℕ → ℕ → ℕ → Type 0
From a b n = (a ≤ n) × (n ≤ b)

-- ---- Words within the limits leave words within the limits.
pub left-within : (ws : Words) → WordsWithin ws → WordsWithin (collapse_loops ws).words
left-within ws w =
    let k = w.keys-as-long in
    let even = left-even ws (sym k, (w.ends-as-long ∙ sym k, (w.letters-as-long ∙ sym k, (w.units-as-long ∙ sym k, refl)))) in
    let numbers = left-numbers Within (From 1 1000) (From 1 10000) ws (at_all Within nan ws.starts w.starts-within, (at_all Within nan ws.ends w.ends-within, (at_all (From 1 1000) 0 ws.letters w.letters-from-1, at_all (From 1 10000) 0 ws.units w.units-from-1))) in
    let left = (collapse_loops ws).words in
    record {
      ends-as-long = even.1.0 ∙ sym even.0;
      letters-as-long = even.1.1.0 ∙ sym even.0;
      units-as-long = even.1.1.1.0 ∙ sym even.0;
      keys-as-long = sym even.0;
      few = omega (arith, even.0, never-more ws, k, w.few);
      starts-within = all-at Within nan left.starts numbers.0;
      ends-within = all-at Within nan left.ends numbers.1.0;
      letters-from-1 = all-at (From 1 1000) 0 left.letters numbers.1.1.0;
      units-from-1 = all-at (From 1 10000) 0 left.units numbers.1.1.1;
    }

-- ---- A limit on every number of letters holds of those that are left.
module _ (b : ℕ) where
  abbrev Most : ℕ → Type 0
  Most n = n ≤ b

  below : (xs : List ℕ) → All Most xs → (i : ℕ) → get_or xs i 0 ≤ b
  below [] h i = omega arith
  below (x ∷ xs) h zero = h.0
  below (x ∷ xs) h (suc i) = below xs h.1 i

  abbrev Any : {A : Type 0} → A → Type 0
  Any a = Unit {0}

  every : {A : Type 0} (xs : List A) → All Any xs
  every [] = tt
  every (x ∷ xs) = (tt, every xs)

  pub left-letters : (ws : Words) → ((i : ℕ) → get_or ws.letters i 0 ≤ b) → (i : ℕ) → get_or (collapse_loops ws).words.letters i 0 ≤ b
  left-letters ws h =
      below (collapse_loops ws).words.letters
      (left-numbers Any Most Any ws (every ws.starts, (every ws.ends, (at_all Most 0 ws.letters (λ i l. h i), every ws.units)))).1.1.0
