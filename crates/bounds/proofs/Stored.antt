-- What holds of each time of a list holds after one of them is replaced by one of which it holds; and a loud frame lies in the
-- row. Assumes nothing.
use Prim.Native.Nat.{ℕ, ◌<◌}
use mathlib.Core.Bool.{Bool, true, false, true≢false}
use mathlib.Core.List.{List}
use mathlib.Core.Path.{◌≡◌, refl, sym, subst}
use native.Mathlib.Omega.{arith}
use borrow.Author.Tests.{eqb-true, eqb-false}
use lib.IntN.{ℤ, pos, negsuc, nat_abs}
use lib.Dec.{eqb}
use lib.ListN.{length, get_or, set, length-set}
use lib.Seq.{get_or-set_same, get_or-set_other}
use lib.Ieee.{Float, nan}
use Rattle.envelope.specs.Envelope.{loud}
use Rattle.envelope.proofs.Scan as scan
use Rattle.bounds.specs.Bounds.{UnderIn, AllUnder}

-- ---- of a list in which element i becomes v: P of each other element, and of v where there is an element i
pub set-each : (P : ℕ → Float → Type 0) (xs : List Float) (i : ℕ) (v : Float) → ((j : ℕ) → j < length xs → (j ≡ i → ⊥) → P j (get_or xs j nan)) → (i < length xs → P i v)
    → (j : ℕ) → j < length (set xs i v) → P j (get_or (set xs i v) j nan)
set-each P xs i v others one j h = go (eqb j i) refl
  where
    l : j < length xs
    l = omega (arith, length-set xs i v)

    go : (t : Bool) → eqb j i ≡ t → P j (get_or (set xs i v) j nan)
    go true t =
        let e : j ≡ i = eqb-true j i t in
        let k : i < length xs = omega (arith, l) in
        rw e (subst (P i) (sym (get_or-set_same xs i v nan k)) (one k))
    go false t = let n = eqb-false j i t in subst (P j) (sym (get_or-set_other xs i j v nan n)) (others j l n)

pub set-under : (d b : ℕ) (xs : List Float) (i : ℕ) (v : Float) → AllUnder d b xs → (i < length xs → UnderIn d b v) → AllUnder d b (set xs i v)
set-under d b xs i v h k = set-each (λ (j : ℕ) (x : Float). UnderIn d b x) xs i v (λ j l n. h j l) k

-- ---- a loud frame is one of the row's
pub loud-in : (row : List Bool) (k : ℤ) → loud row k ≡ true → nat_abs k < length row
loud-in row (pos j) h = scan.loud-in row j h
loud-in row (negsuc j) h = absurd (true≢false (sym h))
