-- DEMAND 3, both halves. The second recording is the first times 2 ^ k, of either polarity, sample by sample; and there is no frame, or both loudest levels are at
-- least 1e-9. Two accepted full runs then give and leave the same, and two accepted fits by phrase leave the same of a phrase that is given alike; so do two on one recording, whatever it holds. By citation of FullRun
-- and Phrases; `full_run` and `fit_file_call` are the definitions that the contracts of the two calls cite. Assumes nothing.
use Rattle.base.specs.declared.Refusal.{Refusal}
use Rattle.std.specs.Prelude.{Result}
use Prim.Native.Nat.{ℕ, ◌<◌}
use mathlib.Core.Bool.{Bool}
use mathlib.Core.List.{List}
use mathlib.Core.Path.{◌≡◌, refl}
use lib.IntN.{ℤ}
use lib.ListN.{length, get_or}
use lib.Ieee.{Float}
use Rattle.base.specs.Words.{Words, Spans}
use Rattle.base.specs.Refusals.{accepts, says, Rule}
use Rattle.word_calls.specs.Calls.{output}
use Rattle.fit_file.specs.FitFile.{fit_file_call}
use Rattle.full_run.specs.FullRun as run
use Rattle.full_run.specs.FullRun.{Input, full_run}
use Rattle.full_run.specs.declared.Report.{Report}
use Rattle.invariance.specs.Scaled.{Recorded, Loudest}
use Rattle.invariance.specs.Alike.{Own, word_at, GivenAlike}
use Rattle.invariance.specs.SameRun.{AlikeRuns, SameRun}
use Rattle.invariance.proofs.FullRun.{run-alike, two_runs}
use Rattle.invariance.proofs.Phrases.{phrase-alike, phrase-scaled, two-calls}

-- ---- Full run: "words, spans and phrase places are alike; what the other lent places hold, and how many of them exceed the need, may differ."
pub full-run : (k : ℤ) (reversed : Bool) (a b : Input) → Recorded k reversed a.samples b.samples → Loudest a.samples b.samples → AlikeRuns a b
    → (r r' : Report) → says (full_run a).answer ≡ accepts r → says (full_run b).answer ≡ accepts r'
    → SameRun r r' (full_run a) (full_run b)
full-run k reversed a b = run-alike k reversed a b

-- ---- Fit by phrase: each envelope is its recording's own, each place has the same phrase number in both calls, and phrase p is given alike.
pub fit-by-phrase : (k : ℤ) (reversed : Bool) (xs ys : List Float) → Recorded k reversed xs ys → Loudest xs ys
    → (ls ls' : List Float) (f f' : Float) (count count' : ℕ) → Own xs ls f count → Own ys ls' f' count'
    → (phrases : List ℕ) (p : ℕ) (ws ws' : Words) (spans spans' : Spans) (places places' : ℕ) → GivenAlike phrases p ws ws' spans spans'
    → says (fit_file_call ws phrases spans ls f count places).answer ≡ accepts tt → says (fit_file_call ws' phrases spans' ls' f' count' places').answer ≡ accepts tt
    → (i : ℕ) → i < length phrases → get_or phrases i 0 ≡ p
    → word_at (fit_file_call ws phrases spans ls f count places).words i ≡ word_at (fit_file_call ws' phrases spans' ls' f' count' places').words i
fit-by-phrase k reversed xs ys recorded loudest ls ls' f f' count count' own own' phrases p ws ws' spans spans' places places' alike h h' i l e =
    rw (own.levels-are, own.floor-is, own.count-is, own'.levels-are, own'.floor-is, own'.count-is)
    (phrase-scaled k reversed xs ys recorded loudest phrases p ws ws' spans spans' places places' alike
    (rw (own.levels-are, own.floor-is, own.count-is) at h) (rw (own'.levels-are, own'.floor-is, own'.count-is) at h') i l e)

-- ---- Fit by phrase on one recording, whatever it holds: levels, floor and sample count are any, and phrase p is given alike.
pub fit-by-phrase-same : (ls : List Float) (f : Float) (samples : ℕ)
    → (phrases : List ℕ) (p : ℕ) (ws ws' : Words) (spans spans' : Spans) (places places' : ℕ) → GivenAlike phrases p ws ws' spans spans'
    → says (fit_file_call ws phrases spans ls f samples places).answer ≡ accepts tt → says (fit_file_call ws' phrases spans' ls f samples places').answer ≡ accepts tt
    → (i : ℕ) → i < length phrases → get_or phrases i 0 ≡ p
    → word_at (fit_file_call ws phrases spans ls f samples places).words i ≡ word_at (fit_file_call ws' phrases spans' ls f samples places').words i
fit-by-phrase-same ls f samples phrases p ws ws' spans spans' places places' alike = phrase-alike phrases p ws ws' spans spans' ls ls f f samples places places' refl alike

-- ---- The same of two calls of the code, by the equations that their contracts ensure.
pub full-run-calls : (k : ℤ) (reversed : Bool) (a b : Input) → Recorded k reversed a.samples b.samples → Loudest a.samples b.samples → AlikeRuns a b
    → (answer answer' : Result Report Refusal) (ws ws' : Words) (phrases phrases' : List ℕ) (ls ls' : List Float) (s s' e e' : List ℕ)
    → run.output answer ws phrases ls s e ≡ full_run a → run.output answer' ws' phrases' ls' s' e' ≡ full_run b
    → (r r' : Report) → says answer ≡ accepts r → says answer' ≡ accepts r'
    → SameRun r r' (run.output answer ws phrases ls s e) (run.output answer' ws' phrases' ls' s' e')
full-run-calls k reversed a b recorded loudest alike answer answer' ws ws' phrases phrases' ls ls' s s' e e' = two_runs k reversed a b recorded loudest alike

pub fit-by-phrase-calls : (k : ℤ) (reversed : Bool) (xs ys : List Float) → Recorded k reversed xs ys → Loudest xs ys
    → (ls ls' : List Float) (f f' : Float) (count count' : ℕ) → Own xs ls f count → Own ys ls' f' count'
    → (phrases : List ℕ) (p : ℕ) (ws ws' : Words) (spans spans' : Spans) (places places' : ℕ) → GivenAlike phrases p ws ws' spans spans'
    → (answer answer' : Rule) (out out' : Words)
    → output answer out ≡ fit_file_call ws phrases spans ls f count places → output answer' out' ≡ fit_file_call ws' phrases spans' ls' f' count' places'
    → says answer ≡ accepts tt → says answer' ≡ accepts tt → (i : ℕ) → i < length phrases → get_or phrases i 0 ≡ p → word_at out i ≡ word_at out' i
fit-by-phrase-calls k reversed xs ys recorded loudest ls ls' f f' count count' own own' phrases p ws ws' spans spans' places places' alike answer answer' out out' c c' =
    two-calls k reversed xs ys recorded loudest phrases p ws ws' spans spans' places places' alike
    (rw (own.levels-are, own.floor-is, own.count-is) at c) (rw (own'.levels-are, own'.floor-is, own'.count-is) at c')
