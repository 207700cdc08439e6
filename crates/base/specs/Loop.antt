-- Rust's counting loops and searches as definitions. Each clause has one recursive call, so that they compute. Assumes nothing.
use Rattle.std.specs.Prelude.{ℕ, zero, suc, Bool, cond, List, [], ◌∷◌, ℤ, pos, ◌+ℤ◌, ◌-ℤ◌}
use Rattle.std.proofs.Math.IntN.{suc_ℤ, pred_ℤ}
use Rattle.base.specs.Whole.{to_nat}

-- ---- How a turn of a loop ends: `on` goes round again, `out` is a break.
pub data Turn (S : Type 0) : Type 0 where
  on : S → Turn S
  out : S → Turn S

module _ {S : Type 0} where
  -- ---- for i in i..i + n { f }
  unfoldable pub each : (ℕ → S → S) → ℕ → ℕ → S → S
  each f zero i s = s
  each f (suc n) i s = each f n (suc i) (f i s)

  -- ---- for a in list { s = f(s, a) }
  unfoldable pub fold : {A : Type 0} → (S → A → S) → S → List A → S
  fold f s [] = s
  fold f s (a ∷ l) = fold f (f s a) l

  -- ---- f(i), f(i + 1), .., of n numbers
  unfoldable pub table : (ℕ → S) → ℕ → ℕ → List S
  table f zero i = []
  table f (suc n) i = f i ∷ table f n (suc i)

  -- ---- At most n turns, at k, k + 1, ..
  unfoldable pub run : (ℤ → S → Turn S) → ℕ → ℤ → Turn S → S
  run f zero k (on s) = s
  run f zero k (out s) = s
  run f (suc n) k (out s) = s
  run f (suc n) k (on s) = run f n (suc_ℤ k) (f k s)

  -- ---- let mut k = a; while k < b { f; k += 1; }
  abbrev pub range : (ℤ → S → Turn S) → ℤ → ℤ → S → S
  range f a b s = run f (to_nat (b -ℤ a)) a (on s)

  -- ---- At most n turns, at k, k - 1, ..
  unfoldable pub run_back : (ℤ → S → Turn S) → ℕ → ℤ → Turn S → S
  run_back f zero k (on s) = s
  run_back f zero k (out s) = s
  run_back f (suc n) k (out s) = s
  run_back f (suc n) k (on s) = run_back f n (pred_ℤ k) (f k s)

  -- ---- let mut k = a; while k >= b { f; k -= 1; }
  abbrev pub range_back : (ℤ → S → Turn S) → ℤ → ℤ → S → S
  range_back f a b s = run_back f (to_nat (a +ℤ pos 1 -ℤ b)) a (on s)

-- ---- while a > 0 && p(a) { a -= 1; }
unfoldable pub down : (ℕ → Bool) → ℕ → ℕ
down p zero = zero
down p (suc a) = cond (p (suc a)) (down p a) (suc a)

-- ---- while p(b) { b += 1; }, n times at most
unfoldable pub up : (ℕ → Bool) → ℕ → ℕ → ℕ
up p zero b = b
up p (suc n) b = cond (p b) (up p n (suc b)) b
