-- Refusals, their numbers, and the first that applies, as document 01 has them; and what a call says in these terms. Assumes nothing.
use Rattle.std.specs.Prelude.{ℕ, ◌≡◌, Bool, true, false, cond, ◌↔◌, ◌⊎◌, List, [], ◌∷◌, ◌++◌, Result, Ok, Err}
use Rattle.base.specs.declared.Refusal.{Refusal}
use Rattle.base.specs.declared.Refusal.TheVariants.{Time, Letters, Lengths, Counts, Layout, Places, Levels, Cut}

-- ---- "Refused for the input" and "Refused for the state of what is lent": document 01's number of each refusal.
abbrev pub number : Refusal → ℕ
number Time = 1
number Letters = 2
number Lengths = 3
number Counts = 4
number Layout = 5
number Places = 6
number Levels = 7
number Cut = 8

-- ---- A test behind a refusal: whether the refusal applies.
pub record Test : Type 0 where
  pub applies : Bool
  pub refusal : Refusal

abbrev pub test : Bool → Refusal → Test
test b r = record { applies = b; refusal = r }

-- ---- What the tests of a call find: nothing, or the first refusal that applies. `Result<(), Refusal>`
abbrev pub Rule : Type 0
Rule = Result (Unit {0}) Refusal

-- ---- "Order: 3, 4, 1, 2, 7, 6, 8": the first refusal that applies, of tests in their order.
unfoldable pub first : List Test → Rule
first [] = Ok tt
first (t ∷ ts) = cond t.applies (Err t.refusal) (first ts)

-- ---- No test of the list applies.
abbrev pub NoneApplies : List Test → Type 0
NoneApplies [] = Unit {0}
NoneApplies (t ∷ ts) = (t.applies ≡ false) × NoneApplies ts

-- ---- n is the first of the numbers that apply: a test of the list applies, its refusal has the number n, and no test before it applies.
pub record First (n : ℕ) (ts : List Test) : Type 0 where
  pub before : List Test
  pub test : Test
  pub after : List Test
  pub split : ts ≡ before ++ test ∷ after
  pub none : NoneApplies before
  pub applies : test.applies ≡ true
  pub is : number test.refusal ≡ n

-- ======== What a call says.

-- ---- "A refusal returns its number only": what a call says is the values that it gives back, or the number of its refusal.
pub data Says (A : Type 0) : Type 0 where
  accepts : A → Says A
  refuses : ℕ → Says A

abbrev pub says : {A : Type 0} → Result A Refusal → Says A
says (Ok values) = accepts values
says (Err r) = refuses (number r)

-- ---- The same by what the tests find.
abbrev pub says_of : {A : Type 0} → A → Rule → Says A
says_of values (Ok u) = accepts values
says_of values (Err r) = refuses (number r)

-- ---- "what that space holds after acceptance is free"; a refusal leaves the work space as it was.
unfoldable pub Unchanged : {T A : Type 0} → Result T Refusal → List A → List A → Type 0
Unchanged (Ok values) before after = Unit
Unchanged (Err r) before after = after ≡ before

-- ---- n is one of the numbers listed.
abbrev pub Among : ℕ → List ℕ → Type 0
Among n [] = ⊥
Among n (m ∷ ms) = (n ≡ m) ⊎ Among n ms

-- ---- Each test of the list never applies, or its refusal is listed.
abbrev pub Listed : List ℕ → List Test → Type 0
Listed numbers [] = Unit {0}
Listed numbers (t ∷ ts) = ((t.applies ≡ false) ⊎ Among (number t.refusal) numbers) × Listed numbers ts

-- ---- No test of the list is for the refusal with this number.
abbrev pub Without : ℕ → List Test → Type 0
Without n [] = Unit {0}
Without n (t ∷ ts) = (number t.refusal ≡ n → ⊥) × Without n ts

-- ---- The promise of a call that has these tests, in their order: it accepts, with these values, exactly when all is within the limits;
-- it refuses with n exactly when n is the first of the numbers that apply; and it has no refusals but those listed.
pub record Judged {A : Type 0} (within : Type 0) (numbers : List ℕ) (tests : List Test) (values : A) (says : Says A) : Type 0 where
  pub accepted-exactly : within ↔ (says ≡ accepts values)
  pub refused-exactly : (n : ℕ) → First n tests ↔ (says ≡ refuses n)
  pub refused-among : (n : ℕ) → says ≡ refuses n → Among n numbers
