-- The end of a run's copies: the search stands at `end`, and as every turn goes on by a word or more, there are turns enough. Assumes nothing.
use Prim.Native.Nat.{ℕ, zero, suc, ◌+◌, ◌≤◌, ◌<◌}
use mathlib.Core.Path.{◌≡◌, refl, sym, ap, ◌∙◌}
use mathlib.Core.Bool.{Bool, true, false, ◌&&◌}
use native.Mathlib.Omega.{arith}
use borrow.Author.Tests.{le-leb, lt-leb}
use lib.IntN.{ℤ, pos, suc_ℤ}
use lib.Dec.{leb}
use Rattle.base.specs.Loop.{on, out, run}
use Rattle.base.specs.Words.{Words, count}
use Rattle.base.proofs.Loops.{run_out}
use Rattle.loops.specs.Loops.{same, copy_turn, copies_end}

module _ (n : ℕ) (ws : Words) (i : ℕ) where
  abbrev more : ℕ → Bool
  more end = leb (end + n) (count ws) && same n ws i end

  turn_on : (k : ℤ) (end : ℕ) → more end ≡ true → copy_turn n ws i k end ≡ on (end + n)
  turn_on k end h = rw h

  turn-out : (k : ℤ) (end : ℕ) → more end ≡ false → copy_turn n ws i k end ≡ out end
  turn-out k end h = rw h

  past : (end : ℕ) → count ws < end + n → more end ≡ false
  past end h = rw (lt-leb (end + n) (count ws) h)

  stay : (m : ℕ) (k : ℤ) (end : ℕ) → more end ≡ false → run (copy_turn n ws i) m k (on end) ≡ end
  unfolding run
  stay zero k end h = refl
  stay (suc m) k end h = rw (turn-out k end h) (run_out (copy_turn n ws i) m (suc_ℤ k) end)

  -- a search ends no earlier than it starts
  from_start : (m : ℕ) (k : ℤ) (end : ℕ) → end ≤ run (copy_turn n ws i) m k (on end)
  unfolding run
  from_start zero k end = omega arith
  from_start (suc m) k end = go (more end) refl (from_start m (suc_ℤ k) (end + n)) where
    go : (t : Bool) → more end ≡ t → end + n ≤ run (copy_turn n ws i) m (suc_ℤ k) (on (end + n)) → end ≤ run (copy_turn n ws i) m (suc_ℤ k) (copy_turn n ws i k end)
    go true e later = rw (turn_on k end e) (omega arith)
    go false e later = rw (turn-out k end e, run_out (copy_turn n ws i) m (suc_ℤ k) end) (omega arith)

  -- ---- The end of the copies, for a search that stands at `end`.
  unfoldable pub from : ℕ → ℕ
  from end = run (copy_turn n ws i) (count ws) (pos 0) (on end)

  pub from_first : copies_end n ws i ≡ from (i + n)
  unfolding from copies_end
  from_first = refl

  pub from-stop : (end : ℕ) → same n ws i end ≡ false → from end ≡ end
  unfolding from
  from-stop end e = stay (count ws) (pos 0) end (go (leb (end + n) (count ws))) where
    go : (t : Bool) → (t && same n ws i end) ≡ false
    go true = e
    go false = refl

  pub from_past : (end : ℕ) → count ws < end + n → from end ≡ end
  unfolding from
  from_past end h = stay (count ws) (pos 0) end (past end h)

  module _ (some : 0 < n) where
    -- with turns enough, more turns change nothing
    fuel : (a b : ℕ) (k l : ℤ) (end : ℕ) → count ws ≤ end + a → count ws ≤ end + b → run (copy_turn n ws i) a k (on end) ≡ run (copy_turn n ws i) b l (on end)
    unfolding run
    fuel zero b k l end p q = sym (stay b l end (past end (omega arith)))
    fuel (suc a) zero k l end p q = stay (suc a) k end (past end (omega arith))
    fuel (suc a) (suc b) k l end p q = go (more end) refl (fuel a b (suc_ℤ k) (suc_ℤ l) (end + n)) where
      go : (t : Bool) → more end ≡ t
          → (count ws ≤ end + n + a → count ws ≤ end + n + b → run (copy_turn n ws i) a (suc_ℤ k) (on (end + n)) ≡ run (copy_turn n ws i) b (suc_ℤ l) (on (end + n)))
          → run (copy_turn n ws i) a (suc_ℤ k) (copy_turn n ws i k end) ≡ run (copy_turn n ws i) b (suc_ℤ l) (copy_turn n ws i l end)
      go true e later = rw (turn_on k end e) (later (omega arith) (omega arith))
      go false e later = rw (turn-out k end e, run_out (copy_turn n ws i) a (suc_ℤ k) end, run_out (copy_turn n ws i) b (suc_ℤ l) end)

    pub from_next : (end : ℕ) → end + n ≤ count ws → same n ws i end ≡ true → from end ≡ from (end + n)
    unfolding from run
    from_next end h e =
        let t : more end ≡ true = rw (le-leb (end + n) (count ws) h, e) in
        fuel (count ws) (suc (count ws)) (pos 0) (pos 0) end (omega arith) (omega arith)
        ∙ ap (run (copy_turn n ws i) (count ws) (pos 1)) (turn_on (pos 0) end t)
        ∙ fuel (count ws) (count ws) (pos 1) (pos 0) (end + n) (omega arith) (omega arith)

    -- a loop has a second copy
    pub copies-beyond : i + n + n ≤ count ws → same n ws i (i + n) ≡ true → i + n < copies_end n ws i
    unfolding from
    copies-beyond h e = rw (from_first, from_next (i + n) h e) (omega (arith, from_start (count ws) (pos 0) (i + n + n)))
