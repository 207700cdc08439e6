-- A pass in place. Behind place i, the words are those before place i + n and those from place `rest` on; each turn of the pass reads these,
-- and the move of one word from `rest` to i + n keeps them. Assumes nothing.
use Prim.Native.Nat.{ℕ, zero, suc, ◌+◌, ◌-◌, ◌*◌, ◌≤◌, ◌<◌}
use mathlib.Core.Path.{◌≡◌, refl, sym, ap, subst, ◌∙◌}
use mathlib.Core.List.{List}
use native.Mathlib.Omega.{arith}
use native.Mathlib.Nat.{sub-zero}
use borrow.Author.Tests.{lt-leb}
use lib.ListN.{length, take, get_or, set, length-set, take-append-drop}
use lib.Seq.{length-take-le, take-take, take_all}
use lib.Ieee.{nan}
use Rattle.base.specs.Loop.{each}
use Rattle.base.specs.Words.{Words, count}
use Rattle.base.specs.Parts.{OneLength, first_words}
use Rattle.base.proofs.Loops.{each_next, each-done}
use Rattle.base.proofs.Cleared.{words-alike}
use Rattle.loops.specs.Loops.{max_run, min_copies, same, drained, drain, is_loop, copies_end}
use Rattle.loops.specs.Parts.{moved, held_keys, goes_on, turn_words, pass_words, loop_words}
use Rattle.loops.proofs.Drained.{drained-again, drained-rest, drained-move}

-- ---- nothing drained
pub drain-none : (p : ℕ) (ws : Words) → drain p p ws ≡ ws
drain-none p ws =
    words-alike (take-append-drop p ws.starts) (take-append-drop p ws.ends) (take-append-drop p ws.letters) (take-append-drop p ws.units)
    (take-append-drop p ws.keys)

-- ---- a move keeps the number of places
pub even-moved : (m : ℕ) (ws ws' : Words) (to from : ℕ) → ws' ≡ moved to from ws → OneLength m ws → OneLength m ws'
unfolding moved
even-moved m ws ws' to from e even =
    subst (OneLength m) (sym e)
    (simp length-set even.0, (simp length-set even.1.0, (simp length-set even.1.1.0, (simp length-set even.1.1.1.0, simp length-set even.1.1.1.1))))

-- ---- no room for three copies: nothing changes
module _ (n : ℕ) where
  turn-idle : (i : ℕ) (ws : Words) → count ws < i + min_copies * n → turn_words n i ws ≡ ws
  unfolding turn_words goes_on is_loop
  turn-idle i ws h = rw (lt-leb (i + min_copies * n) (count ws) h) (drain-none (i + n) ws)

  pub idle : (m i : ℕ) (ws : Words) → count ws < i + min_copies * n → each (turn_words n) m i ws ≡ ws
  unfolding each
  idle zero i ws h = refl
  idle (suc m) i ws h = rw (turn-idle i ws h) (idle m (suc i) ws (omega arith))

-- ---- What a pass gives that stands behind place i.
unfoldable pub after : ℕ → ℕ → ℕ → ℕ → Words → Words
after len n i rest ws = each (turn_words n) (len - (i + 1)) (i + 1) (drain (i + n) rest (first_words len ws))

-- ---- The first len places of a list of m.
module _ (m len : ℕ) (fits : len ≤ m) where
  module _ {A : Type 0} (xs : List A) (all : length xs ≡ m) where
    room : {p : ℕ} → p ≤ len → p ≤ length (take len xs)
    room h = omega (arith, length-take-le len xs (omega arith))

    again : (p rest r : ℕ) → p ≤ rest → rest ≤ r → r ≤ len → drained p (p + (r - rest)) (drained p rest (take len xs)) ≡ drained p r (take len xs)
    again p rest r h k l =
        let z : rest + (r - rest) ≡ r = omega arith in
        drained-again (take len xs) p rest (room (omega arith)) (r - rest) ∙ ap (λ (e : ℕ). drained p e (take len xs)) z

    rest-none : (p rest : ℕ) → p ≤ len → len ≤ rest → drained p rest (take len xs) ≡ take p xs
    rest-none p rest h k = drained-rest (take len xs) p rest (room h) (omega (arith, length-take-le len xs (omega arith))) ∙ take-take p len xs h

    one-moved : (p rest : ℕ) (d : A) → p ≤ rest → rest < len → drained p rest (take len xs) ≡ drained (p + 1) (rest + 1) (take len (set xs p (get_or xs rest d)))
    one-moved p rest d h k = drained-move xs len p rest d h k (omega arith)

  pub first_count : (ws : Words) → OneLength m ws → count (first_words len ws) ≡ len
  unfolding first_words
  first_count ws even = length-take-le len ws.keys (omega arith)

  -- keys alone say where the words go on
  goes-keys : (n i p rest : ℕ) (ws : Words) → goes_on n i (drain p rest (first_words len ws)) ≡ goes_on n i (held_keys p rest (take len ws.keys))
  unfolding goes_on is_loop same copies_end first_words held_keys
  goes-keys n i p rest ws = refl

  module _ (n : ℕ) where
    module _ (ws : Words) (even : OneLength m ws) where
      turn-made : (i rest r : ℕ) → i + n ≤ rest → rest ≤ r → r ≤ len → i + n + (r - rest) ≡ goes_on n i (held_keys (i + n) rest (take len ws.keys))
          → drain (i + n) r (first_words len ws) ≡ turn_words n i (drain (i + n) rest (first_words len ws))
      unfolding turn_words
      turn-made i rest r h k l g =
          sym (ap (λ (e : ℕ). drain (i + n) e (drain (i + n) rest (first_words len ws))) (goes-keys n i (i + n) rest ws ∙ sym g) ∙ unfold first_words in
          words-alike (again ws.starts even.0 (i + n) rest r h k l) (again ws.ends even.1.0 (i + n) rest r h k l)
          (again ws.letters even.1.1.0 (i + n) rest r h k l) (again ws.units even.1.1.1.0 (i + n) rest r h k l)
          (again ws.keys even.1.1.1.1 (i + n) rest r h k l))

      turn : (i rest r : ℕ) → i < len → i + n ≤ rest → rest ≤ r → r ≤ len → i + n + (r - rest) ≡ goes_on n i (held_keys (i + n) rest (take len ws.keys))
          → each (turn_words n) (len - i) i (drain (i + n) rest (first_words len ws)) ≡ after len n i r ws
      unfolding after
      turn i rest r b h k l g = each_next (turn_words n) len i b (turn-made i rest r h k l g)

      move-made : (p rest : ℕ) → p ≤ rest → rest < len → drain p rest (first_words len ws) ≡ drain (p + 1) (rest + 1) (first_words len (moved p rest ws))
      unfolding first_words moved
      move-made p rest h k =
          words-alike (one-moved ws.starts even.0 p rest nan h k) (one-moved ws.ends even.1.0 p rest nan h k)
          (one-moved ws.letters even.1.1.0 p rest 0 h k) (one-moved ws.units even.1.1.1.0 p rest 0 h k)
          (one-moved ws.keys even.1.1.1.1 p rest 0 h k)

      -- too few words for three copies stay
      pub pass-short : len < min_copies * n → first_words len ws ≡ pass_words n (first_words len ws)
      unfolding pass_words
      pass-short h = sym (idle n (count (first_words len ws)) 0 (first_words len ws) (omega (arith, first_count ws even)))

      pub after_first : (r : ℕ) → 0 < len → n ≤ r → r ≤ len → 0 + n + (r - n) ≡ goes_on n 0 (held_keys (0 + n) n (take len ws.keys))
          → pass_words n (first_words len ws) ≡ after len n 0 r ws
      unfolding pass_words
      after_first r b h k g =
          let z : 0 + n ≡ n = omega arith in
          rw (first_count ws even)
          (ap (each (turn_words n) len 0) (sym (drain-none n (first_words len ws)) ∙ ap (λ (p : ℕ). drain p n (first_words len ws)) (sym z))
          ∙ rw sub-zero at (turn 0 n r b (omega arith) h k g))

      pub after-done : (i rest : ℕ) → 0 < n → i + n ≤ len → len ≤ rest → after len n i rest ws ≡ first_words (i + n) ws
      unfolding after
      after-done i rest some h k =
          let gone : drain (i + n) rest (first_words len ws) ≡ first_words (i + n) ws = unfold first_words in
          words-alike (rest-none ws.starts even.0 (i + n) rest h k) (rest-none ws.ends even.1.0 (i + n) rest h k)
          (rest-none ws.letters even.1.1.0 (i + n) rest h k) (rest-none ws.units even.1.1.1.0 (i + n) rest h k)
          (rest-none ws.keys even.1.1.1.1 (i + n) rest h k) in
          let c : count (first_words (i + n) ws) ≡ i + n = unfold first_words in length-take-le (i + n) ws.keys (omega arith) in
          rw gone (idle n (len - (i + 1)) (i + 1) (first_words (i + n) ws) (omega arith))

    pub after_next : 0 < n → (ws ws' : Words) → OneLength m ws → OneLength m ws' → (i rest r : ℕ) → i + n ≤ rest → rest < len → ws' ≡ moved (i + n) rest ws → rest + 1 ≤ r → r ≤ len
        → i + 1 + n + (r - (rest + 1)) ≡ goes_on n (i + 1) (held_keys (i + 1 + n) (rest + 1) (take len ws'.keys)) → after len n i rest ws ≡ after len n (i + 1) r ws'
    unfolding after
    after_next some ws ws' even even' i rest r h k e l b g =
        let z : i + n + 1 ≡ i + 1 + n = omega arith in
        ap (each (turn_words n) (len - (i + 1)) (i + 1)) (move-made ws even (i + n) rest h k ∙ rw (z, e))
        ∙ turn ws' even' (i + 1) (rest + 1) r (omega arith) (omega arith) l b g

    -- a turn of the loop, which lends its lists to be moved as one value
    pub turned : {X mid ws' : Words} {rest r : ℕ} (ws : Words) (i : ℕ) → 0 < n → OneLength m ws → i + n ≤ rest → rest < len → mid ≡ moved (i + n) rest ws → ws' ≡ mid → rest + 1 ≤ r → r ≤ len
        → i + 1 + n + (r - (rest + 1)) ≡ goes_on n (i + 1) (held_keys (i + 1 + n) (rest + 1) (take len ws'.keys)) → X ≡ after len n i rest ws
        → OneLength m ws' × ((i + 1 + n ≤ r) × ((r ≤ len) × (X ≡ after len n (i + 1) r ws')))
    turned ws i some even h k e lent l b g x =
        let even' = even-moved m _ _ _ _ (lent ∙ e) even in
        (even', (omega arith, (b, x ∙ after_next some _ _ even even' _ _ _ h k (lent ∙ e) l b g)))

-- ---- The passes that are left, from runs of n words on.
unfoldable pub passes_from : ℕ → Words → Words
passes_from n ws = each pass_words (max_run + 1 - n) n ws

pub passes-first : (m : ℕ) (ws : Words) → OneLength m ws → loop_words ws ≡ passes_from 1 (first_words m ws)
unfolding loop_words passes_from first_words
passes-first m ws even =
    ap (each pass_words max_run 1)
    (sym (words-alike (take_all m ws.starts (omega arith)) (take_all m ws.ends (omega arith)) (take_all m ws.letters (omega arith)) (take_all m ws.units (omega arith)) (take_all m ws.keys (omega arith))))

pub passes-next : (n : ℕ) (ws ws' : Words) → n ≤ max_run → ws' ≡ pass_words n ws → passes_from n ws ≡ passes_from (n + 1) ws'
unfolding passes_from
passes-next n ws ws' h e = each_next pass_words (max_run + 1) n (omega arith) e

pub passes-done : (n : ℕ) (ws : Words) → max_run < n → passes_from n ws ≡ ws
unfolding passes_from
passes-done n ws h = each-done pass_words (max_run + 1) n ws (omega arith)
