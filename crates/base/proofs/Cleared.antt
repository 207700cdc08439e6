-- The places behind the words made zero, list by list. Assumes nothing.
use Prim.Native.Nat.{ℕ, suc, ◌+◌, ◌-◌, ◌≤◌, ◌<◌}
use mathlib.Core.Path.{◌≡◌, sym, ◌∙◌}
use mathlib.Core.List.{List, [], ◌∷◌, ◌++◌, append-nil}
use native.Mathlib.Omega.{arith}
use native.Mathlib.Numerals.{add-one}
use lib.ListN.{length, take, drop, set, replicate, length-append, length-replicate, length-drop, drop_of_length-le}
use lib.Seq.{length-take-le, take-suc-set, append_snoc}
use lib.Ieee.{Float}
use Rattle.base.specs.Words.{Words, words, edges, count, in_places, zero_f, part, with_part, words_in_places}
use Rattle.base.specs.Parts.{OneLength, first_words}

pub words-alike : {a a' b b' : List Float} {d d' e e' f f' : List ℕ} → a ≡ a' → b ≡ b' → d ≡ d' → e ≡ e' → f ≡ f' → words a b d e f ≡ words a' b' d' e' f'
words-alike p q r s t = rw (p, q, r, s, t)

pub edges-alike : {a a' b b' : List Float} → a ≡ a' → b ≡ b' → edges a b ≡ edges a' b'
edges-alike p q = rw (p, q)

-- ---- so many places, however many of the words stay
pub places-kept : (m r : ℕ) (ws : Words) → r ≤ m → r ≤ count ws → count (words_in_places m (first_words r ws)) ≡ m
unfolding words_in_places first_words
places-kept m r ws h k =
    let n : length (take r ws.keys) ≡ r = length-take-le r ws.keys k in
    simp (length-append, length-replicate, n) (omega arith)

-- ---- a list whose places from c on were filled with zero
filled-places : {A : Type 0} (z : A) (m c : ℕ) (xs ys : List A) → length xs ≡ m → c ≤ m
    → ys ≡ replicate (length (part c (length xs) xs)) z → with_part c (length xs) xs ys ≡ in_places z m (take c xs)
filled-places z m c xs ys e h f =
    let n : length (take c xs) ≡ c = length-take-le c xs (omega arith) in
    let l : length (drop c xs) ≤ length xs - c = rw (length-drop c xs) (omega arith) in
    let k : length (take (length xs - c) (drop c xs)) ≡ m - c = length-take-le (length xs - c) (drop c xs) (omega (arith, length-drop c xs)) ∙ omega arith in
    rw (f, k, drop_of_length-le (drop c xs) l, append-nil, n)

module _ (m c : ℕ) (ws : Words) (even : OneLength m ws) (h : c ≤ m) where
  pub all_filled : {ss es : List Float} {ls us ks : List ℕ}
      → ss ≡ replicate (length (part c (length ws.starts) ws.starts)) zero_f → es ≡ replicate (length (part c (length ws.ends) ws.ends)) zero_f
      → ls ≡ replicate (length (part c (length ws.letters) ws.letters)) 0 → us ≡ replicate (length (part c (length ws.units) ws.units)) 0
      → ks ≡ replicate (length (part c (length ws.keys) ws.keys)) 0
      → words (with_part c (length ws.starts) ws.starts ss) (with_part c (length ws.ends) ws.ends es) (with_part c (length ws.letters) ws.letters ls)
      (with_part c (length ws.units) ws.units us) (with_part c (length ws.keys) ws.keys ks)
      ≡ words_in_places m (first_words c ws)
  unfolding words_in_places first_words
  all_filled s e l u k =
      words-alike (filled-places zero_f m c ws.starts _ even.0 h s) (filled-places zero_f m c ws.ends _ even.1.0 h e)
      (filled-places 0 m c ws.letters _ even.1.1.0 h l) (filled-places 0 m c ws.units _ even.1.1.1.0 h u)
      (filled-places 0 m c ws.keys _ even.1.1.1.1 h k)

-- ---- a list in its places, of which those from c on are zero: one place more
module _ {A : Type 0} where
  cleared-next : (z : A) (m c : ℕ) (xs : List A) → c < m → m ≡ length xs
      → in_places z m (take c xs) ≡ in_places z m (take (c + 1) (set xs c z))
  cleared-next z m c xs h e =
      let a : length (take c xs) ≡ c = length-take-le c xs (omega arith) in
      let b : length (take c xs ++ (z ∷ [])) ≡ suc c = rw (length-append, a) (omega arith) in
      let s : m - c ≡ suc (m - suc c) = omega arith in
      rw (add-one, take-suc-set xs c z (omega arith), a, b, s) (sym (append_snoc (take c xs) z (replicate (m - suc c) z)))

-- one word more made zero: its five lists in their places, with those from i + 1 on zero
module _ (m i : ℕ) (ws : Words) (even : OneLength m ws) where
  pub clear_next : i < m
      → words_in_places m (first_words i ws)
      ≡ words_in_places m (first_words (i + 1) (words (set ws.starts i zero_f) (set ws.ends i zero_f) (set ws.letters i 0) (set ws.units i 0) (set ws.keys i 0)))
  unfolding words_in_places first_words
  clear_next h =
      words-alike (cleared-next zero_f m i ws.starts h (sym even.0)) (cleared-next zero_f m i ws.ends h (sym even.1.0))
      (cleared-next 0 m i ws.letters h (sym even.1.1.0)) (cleared-next 0 m i ws.units h (sym even.1.1.1.0))
      (cleared-next 0 m i ws.keys h (sym even.1.1.1.1))
