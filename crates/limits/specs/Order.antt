-- Document 01: "Order: 3, 4, 1, 2, 7, 6, 8"; which refusals apply, joined from what is tested. Assumes nothing.
use Rattle.std.specs.Prelude.{ℕ, Bool, ◌&&◌, ◌||◌, List, [], ◌∷◌, eqb}
use Rattle.base.specs.Refusals.{Test, test, first, number, Rule}
use Rattle.base.specs.declared.Refusal.{Refusal}
use Rattle.base.specs.declared.Refusal.TheVariants.{Time, Letters, Lengths, Counts, Places, Levels, Cut}
use Rattle.limits.specs.declared.Applies.{Applies}

-- ---- What applies where one test is made: its refusal, by its number, if the test says so; and no other. (5 is the program's alone: it has no field.)
unfoldable pub when : Bool → Refusal → Applies
when b why =
    let is : ℕ → Bool = λ n. eqb (number why) n && b in
    record { lengths = is 3; counts = is 4; times = is 1; letters = is 2; levels = is 7; places = is 6; cut = is 8 }

-- ---- What applies of one or of the other.
unfoldable pub also : Applies → Applies → Applies
also a b = record {
  lengths = a.lengths || b.lengths;
  counts = a.counts || b.counts;
  times = a.times || b.times;
  letters = a.letters || b.letters;
  levels = a.levels || b.levels;
  places = a.places || b.places;
  cut = a.cut || b.cut;
}

-- ---- The tests of a call, in their order.
unfoldable pub in_order : Applies → List Test
in_order a =
    test a.lengths Lengths
    ∷ test a.counts Counts
    ∷ test a.times Time
    ∷ test a.letters Letters
    ∷ test a.levels Levels
    ∷ test a.places Places
    ∷ test a.cut Cut
    ∷ []

-- ---- The first refusal that applies.
unfoldable pub chain : Applies → Rule
chain a = first (in_order a)
