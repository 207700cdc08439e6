-- What only the contracts of unchecked parts and the laws of their places cite; a reader of the public calls may skip it. Assumes nothing.
use Rattle.std.specs.Prelude.{ℕ, ◌≡◌, ◌≢◌, List, [], ◌∷◌, length, take, Float}
use Rattle.std.specs.Float.{nan}
use Rattle.base.specs.Words.{Edges}
use Rattle.fit_file.specs.FitFile.{picked, put_edges}

-- ---- The first n places of the work space hold the words of these members.
pub record Holds (members : List ℕ) (es : Edges) (weights : List ℕ) (n : ℕ) (work_starts work_ends : List Float) (work_letters : List ℕ) : Type 0 where
  pub many : n ≡ length members
  pub starts : take n work_starts ≡ picked nan members es.starts
  pub ends : take n work_ends ≡ picked nan members es.ends
  pub letters : take n work_letters ≡ picked 0 members weights

-- ---- So many words of a group were put back, those of these members.
pub record Put (members : List ℕ) (group es : Edges) (n : ℕ) (now : Edges) : Type 0 where
  pub many : n ≡ length members
  pub edges : now ≡ put_edges members group es

-- ---- P of every number of a list.
abbrev pub AllOf : (ℕ → Type 0) → List ℕ → Type 0
AllOf P [] = Unit
AllOf P (i ∷ is) = P i × AllOf P is

-- ---- No number stands twice in a list.
abbrev pub Distinct : List ℕ → Type 0
Distinct [] = Unit
Distinct (i ∷ is) = AllOf (λ (j : ℕ). i ≢ j) is × Distinct is
