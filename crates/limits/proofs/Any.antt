-- A search for an element of which a test holds is std's; and two tests, one after the other. Assumes nothing.
use mathlib.Core.Path.{◌≡◌, refl}
use mathlib.Core.Bool.{Bool, true, false, ◌||◌}
use mathlib.Core.List.{List, [], ◌∷◌}
use Prim.Native.Nat.{ℕ, ◌+◌, ◌<◌}
use native.Mathlib.Numerals.{add-one}
use lib.ListN.{length, drop, get_or}
use lib.Seq.{drop-cons}
use Rattle.std.specs.List.{list_any}
use Rattle.limits.specs.Limits.{any}

-- ---- some element passes
pub any-is : {A : Type 0} (p : A → Bool) (xs : List A) → list_any p xs ≡ any p xs
unfolding any
any-is p [] = refl
any-is p (x ∷ xs) = rw (any-is p xs)

-- where element i does not pass, those behind it decide
module _ {A : Type 0} (p : A → Bool) (xs : List A) where
  pub any_next : (i : ℕ) (d : A) → i < length xs → p (get_or xs i d) ≡ false → any p (drop i xs) ≡ any p (drop (i + 1) xs)
  unfolding any
  any_next i d h t = rw (add-one, drop-cons xs i d h, t)

-- ---- two tests, one after the other
pub or-first : {a : Bool} (b : Bool) → a ≡ true → true ≡ (a || b)
or-first b h = rw h

pub or-second : {a b r : Bool} → a ≡ false → r ≡ b → r ≡ (a || b)
or-second h e = rw h e
