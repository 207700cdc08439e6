-- Words stay whole: as every list of theirs loses the same places, the five lists of what is left have one length, and so the first places hold
-- just what is left. Assumes nothing.
use Prim.Native.Nat.{ℕ, ◌+◌, ◌-◌, ◌<◌, min}
use mathlib.Core.Path.{◌≡◌, refl, sym, ap, subst, ◌∙◌}
use mathlib.Core.List.{List}
use native.Mathlib.Omega.{arith}
use lib.ListN.{length, take, drop, replicate, length-append, length-take, length-drop}
use lib.Seq.{take_at}
use Rattle.base.specs.Words.{Words, count, in_places, zero_f, words_in_places}
use Rattle.base.specs.Parts.{OneLength, first_words}
use Rattle.base.proofs.Loops.{each_holds}
use Rattle.loops.specs.Loops.{max_run, drained, drain, collapse_loops}
use Rattle.loops.specs.Parts.{goes_on, turn_words, pass_words, loop_words}
use Rattle.base.proofs.Cleared.{words-alike}
use Rattle.loops.proofs.Found.{loops-words}

drained-size : {A : Type 0} (p e : ℕ) (xs : List A) → length (drained p e xs) ≡ min p (length xs) + (length xs - e)
drained-size p e xs = length-append (take p xs) (drop e xs) ∙ rw (length-take p xs, length-drop e xs)

drained-alike : {A B : Type 0} (p e : ℕ) (xs : List A) (ys : List B) → length xs ≡ length ys → length (drained p e xs) ≡ length (drained p e ys)
drained-alike p e xs ys h = drained-size p e xs ∙ ap (λ (m : ℕ). min p m + (m - e)) h ∙ sym (drained-size p e ys)

-- ---- the five lists of the words have one length
abbrev Even : Words → Type 0
Even ws = OneLength (count ws) ws

drain-even : (p e : ℕ) (ws : Words) → Even ws → Even (drain p e ws)
drain-even p e ws h = (
  drained-alike p e ws.starts ws.keys h.0,
  (
    drained-alike p e ws.ends ws.keys h.1.0,
    (drained-alike p e ws.letters ws.keys h.1.1.0, (drained-alike p e ws.units ws.keys h.1.1.1.0, refl)),
  ),
)

pass-even : (n : ℕ) (ws : Words) → Even ws → Even (pass_words n ws)
unfolding pass_words turn_words
pass-even n ws h =
    each_holds (λ (i : ℕ) (ws : Words). Even ws) (turn_words n) (count ws) (λ (i : ℕ) (ws : Words) (l : i < _) (h : Even ws). drain-even (i + n) (goes_on n i ws) ws h)
    (count ws) 0 ws (omega arith) h

pub left-even : (ws : Words) → OneLength (count ws) ws → OneLength (count (collapse_loops ws).words) (collapse_loops ws).words
unfolding loop_words
left-even ws h =
    subst Even (sym (loops-words ws))
    (each_holds (λ (n : ℕ) (ws : Words). Even ws) pass_words 5 (λ (n : ℕ) (ws : Words) (l : n < 5) (h : Even ws). pass-even n ws h) max_run 1 ws (omega arith) h)

pub first-places : (m n : ℕ) (ws : Words) → OneLength n ws → first_words n (words_in_places m ws) ≡ ws
unfolding first_words words_in_places
first-places m n ws h =
    words-alike (at zero_f ws.starts h.0) (at zero_f ws.ends h.1.0) (at 0 ws.letters h.1.1.0) (at 0 ws.units h.1.1.1.0) (at 0 ws.keys h.1.1.1.1) where
      at : {A : Type 0} (z : A) (xs : List A) → length xs ≡ n → take n (in_places z m xs) ≡ xs
      at z xs e = take_at xs (replicate (m - length xs) z) n e
