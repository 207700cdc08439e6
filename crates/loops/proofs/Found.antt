-- The definition, seen as words alone; and its yes, which is said exactly when there are fewer words than before. Assumes nothing.
use Prim.Native.Nat.{ℕ, ◌+◌, ◌*◌, ◌≤◌, ◌<◌}
use mathlib.Core.Path.{◌≡◌, refl, sym}
use mathlib.Core.Bool.{Bool, true, false, cond, ◌&&◌, true≢false}
use native.Mathlib.Omega.{arith}
use borrow.Author.Tests.{leb-true, lt-ltb, le-ltb}
use lib.Dec.{leb, ltb}
use Rattle.base.specs.Loop.{each}
use Rattle.base.specs.Words.{Words, count}
use Rattle.base.proofs.Loops.{each_seen, each_holds}
use Rattle.loops.specs.Loops.{max_run, min_copies, same, copies_end, drain, is_loop, Collapsed, loop_turn, pass, collapse_loops}
use Rattle.loops.specs.Parts.{goes_on, turn_words, pass_words, loop_words}
use Rattle.loops.proofs.Drained.{length-drained}
use Rattle.loops.proofs.Copies.{copies-beyond}
use Rattle.loops.proofs.InPlace.{drain-none}

-- ---- the words alone
turn-words : (n i : ℕ) (c : Collapsed) → (loop_turn n i c).words ≡ turn_words n i c.words
unfolding loop_turn turn_words goes_on
turn-words n i c = go (is_loop n i c.words) where
  go : (t : Bool)
      → (cond t (record { words = drain (i + n) (copies_end n c.words i) c.words; found = true }) c).words ≡ drain (i + n) (cond t (copies_end n c.words i) (i + n)) c.words
  go true = refl
  go false = sym (drain-none (i + n) c.words)

pass-words : (n : ℕ) (c : Collapsed) → (pass n c).words ≡ pass_words n c.words
unfolding pass pass_words
pass-words n c = each_seen (λ (c : Collapsed). c.words) (loop_turn n) (turn_words n) (turn-words n) (count c.words) 0 c

pub loops-words : (ws : Words) → (collapse_loops ws).words ≡ loop_words ws
unfolding collapse_loops loop_words
loops-words ws = each_seen (λ (c : Collapsed). c.words) pass pass_words pass-words max_run 1 (record { words = ws; found = false })

-- ---- a loop found makes the words fewer
loop-fewer : (n i : ℕ) (ws : Words) → 0 < n → is_loop n i ws ≡ true → count (drain (i + n) (copies_end n ws i) ws) < count ws
unfolding is_loop
loop-fewer n i ws some = go (leb (i + min_copies * n) (count ws)) (same n ws i (i + n)) refl refl where
  go : (a b : Bool) → leb (i + min_copies * n) (count ws) ≡ a → same n ws i (i + n) ≡ b → (a && (b && same n ws i (i + 2 * n))) ≡ true
      → count (drain (i + n) (copies_end n ws i) ws) < count ws
  go false b p q e = absurd (true≢false (sym e))
  go true false p q e = absurd (true≢false (sym e))
  go true true p q e =
      let room = leb-true (i + min_copies * n) (count ws) p in
      let far = copies-beyond n ws i some (omega arith) q in
      rw (length-drained ws.keys (i + n) (copies_end n ws i) (omega arith)) (omega arith)

module _ (before : ℕ) where
  -- the yes is said exactly when there are fewer words than before, and there are never more
  abbrev Said : Collapsed → Type 0
  Said c = (c.found ≡ ltb (count c.words) before) × (count c.words ≤ before)

  turn-said : (n i : ℕ) (c : Collapsed) → 0 < n → Said c → Said (loop_turn n i c)
  unfolding loop_turn
  turn-said n i c some s = go (is_loop n i c.words) refl where
    go : (t : Bool) → is_loop n i c.words ≡ t → Said (cond t (record { words = drain (i + n) (copies_end n c.words i) c.words; found = true }) c)
    go true e =
        let f = loop-fewer n i c.words some e in
        (sym (lt-ltb (count (drain (i + n) (copies_end n c.words i) c.words)) before (omega arith)), omega arith)
    go false e = s

  pass-said : (n : ℕ) (c : Collapsed) → 0 < n → Said c → Said (pass n c)
  unfolding pass
  pass-said n c some s =
      each_holds (λ (i : ℕ) (c : Collapsed). Said c) (loop_turn n) (count c.words) (λ (i : ℕ) (c : Collapsed) (h : i < _) (s : Said c). turn-said n i c some s)
      (count c.words) 0 c (omega arith) s

  all_said : (c : Collapsed) → Said c → Said (each pass max_run 1 c)
  all_said c s =
      (each_holds (λ (n : ℕ) (c : Collapsed). (0 < n) × Said c) pass 5 (λ (n : ℕ) (c : Collapsed) (h : n < 5) (s : (0 < n) × Said c). (omega arith, pass-said n c s.0 s.1))
      max_run 1 c (omega arith) (omega arith, s)).1

module _ (ws : Words) where
  said : Said (count ws) (collapse_loops ws)
  unfolding collapse_loops
  said = all_said (count ws) (record { words = ws; found = false }) (sym (le-ltb (count ws) (count ws) (omega arith)), omega arith)

  -- ---- "a yes exactly when it is smaller"
  pub found-fewer : (collapse_loops ws).found ≡ ltb (count (collapse_loops ws).words) (count ws)
  found-fewer = said.0

  -- ---- The count never grows.
  pub never-more : count (collapse_loops ws).words ≤ count ws
  never-more = said.1
