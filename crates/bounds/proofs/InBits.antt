-- DEMAND 3 IN BITS, both halves. A time at exit is finite, so one pattern of bits alone stands for it: equal times have equal bits. Of a NaN
-- this is not so: many patterns are read as one. Assumes nothing.
use Prim.Native.Nat.{ℕ, ◌<◌}
use mathlib.Core.Bool.{Bool, not}
use mathlib.Core.List.{List}
use mathlib.Core.Logic.{◌↔◌}
use mathlib.Core.Path.{◌≡◌, refl, sym, ap, ◌∙◌, subst}
use native.Mathlib.Omega.{arith}
use lib.Dec.{T, lit<}
use lib.IntN.{ℤ}
use lib.ListN.{length, get_or}
use lib.Ieee.{Float, nan, inf, fin, binary64, is_nan, fits, of_bits, of_fields, to_bits}
use lib.Ieee.Bits.{of_bits-to_bits, to_bits-lt, to_bits-of_bits}
use Rattle.base.specs.Words.{Words, Spans, edges}
use Rattle.base.specs.Refusals.{accepts, says}
use Rattle.envelope.specs.Envelope.{loud_row}
use Rattle.fit_file.specs.FitFile.{duration_of, fit_file_call}
use Rattle.fit_file.proofs.Calls as file
use Rattle.full_run.specs.FullRun.{Input, full_run}
use Rattle.full_run.specs.declared.Report.{Report}
use Rattle.full_run.proofs.Promises.{accepted-answer}
use Rattle.invariance.specs.Scaled.{Recorded, Loudest}
use Rattle.invariance.specs.Alike.{Own, Word, word_at, GivenAlike}
use Rattle.invariance.specs.SameRun.{AlikeRuns}
use Rattle.invariance.proofs.Demand3.{full-run, fit-by-phrase, fit-by-phrase-same}
use Rattle.bounds.specs.Bounds.{Small, SmallTimes}
use Rattle.bounds.specs.Bits.{Stores, SameBits}
use Rattle.bounds.proofs.Phrasing.{file-long}
use Rattle.bounds.proofs.Small.{fit-file-small}
use Rattle.bounds.proofs.Running.{full-run-small}

-- ---- a finite number is no NaN
pub small-number : (x : Float) → Small x → T (not (is_nan x))
unfolding is_nan
small-number nan h = absurd h
small-number (inf s) h = absurd h
small-number (fin s m e) h = tt

-- ---- a finite number has one pattern: the number determines it, and it the number
pub one-pattern : (x : Float) → Small x → (bits : ℕ) → Stores bits x → bits ≡ to_bits binary64 x
one-pattern x h bits s = sym (to_bits-of_bits binary64 bits s.0 (subst (λ (y : Float). T (not (is_nan y))) (sym s.1) (small-number x h))) ∙ ap (to_bits binary64) s.1

-- ---- and a double has its pattern: so of two doubles that are finite and below 2^13, equal patterns are equal numbers, and the other way round
pub has-pattern : (x : Float) → T (fits binary64 x) → Stores (to_bits binary64 x) x
has-pattern x f = (to_bits-lt binary64 x f, of_bits-to_bits binary64 x f)

pub patterns-exactly : (bits bits' : ℕ) (x y : Float) → Small x → Small y → Stores bits x → Stores bits' y → (x ≡ y) ↔ (bits ≡ bits')
patterns-exactly bits bits' x y h k s t = (
  λ e. one-pattern x h bits s ∙ ap (to_bits binary64) e ∙ sym (one-pattern y k bits' t),
  λ e. sym s.1 ∙ ap (of_bits binary64) e ∙ t.1,
)

-- ---- without a bound it is not so: two patterns are read as a NaN
nan_patterns : Stores 0x7ff8_0000_0000_0000 nan × Stores 0x7ff8_0000_0000_0001 nan
unfolding of_bits of_fields
nan_patterns = ((lit< tt, refl), (lit< tt, refl))

same_bits : {x y : Float} → Small x → Small y → x ≡ y → SameBits x y
same_bits {x} {y} h k e = record { pattern = ap (to_bits binary64) e; first-only = one-pattern x h; second-only = one-pattern y k }

-- ---- Full run: every start and every end in every word's place has the same bits.
pub full-run-bits : (k : ℤ) (reversed : Bool) (a b : Input) → Recorded k reversed a.samples b.samples → Loudest a.samples b.samples → AlikeRuns a b
    → (r r' : Report) → says (full_run a).answer ≡ accepts r → says (full_run b).answer ≡ accepts r'
    → ((i : ℕ) → i < length (full_run a).words.starts → SameBits (get_or (full_run a).words.starts i nan) (get_or (full_run b).words.starts i nan))
    × ((i : ℕ) → i < length (full_run a).words.ends → SameBits (get_or (full_run a).words.ends i nan) (get_or (full_run b).words.ends i nan))
full-run-bits k reversed a b recorded loudest alike r r' h h' =
    let e : (full_run a).words ≡ (full_run b).words = (full-run k reversed a b recorded loudest alike r r' h h').word-places in
    let s : SmallTimes (full_run a).words = full-run-small a ((accepted-answer a).0 (r, h)) in
    let s' : SmallTimes (full_run b).words = full-run-small b ((accepted-answer b).0 (r', h')) in (
      λ i l. same_bits (s.starts i l) (s'.starts i (subst (λ (ws : Words). i < length ws.starts) e l)) (ap (λ (ws : Words). get_or ws.starts i nan) e),
      λ i l. same_bits (s.ends i l) (s'.ends i (subst (λ (ws : Words). i < length ws.ends) e l)) (ap (λ (ws : Words). get_or ws.ends i nan) e),
    )

-- ---- a place with a phrase number is one of the words' that an accepted fit by phrase leaves
module _ (ws : Words) (phrases : List ℕ) (spans : Spans) (ls : List Float) (f : Float) (samples places : ℕ) (h : says (fit_file_call ws phrases spans ls f samples places).answer ≡ accepts tt) where
  abbrev out : Words
  out = (fit_file_call ws phrases spans ls f samples places).words

  out-long : (length out.starts ≡ length phrases) × (length out.ends ≡ length phrases)
  out-long =
      let w = (file.accepted-exactly ws phrases spans ls f samples places).1 h in
      let e = file.accepted-words ws phrases spans ls f samples places h in
      let l = file-long (loud_row f ls) (duration_of samples) ws.letters phrases (edges spans.starts spans.ends) (edges ws.starts ws.ends) in (
        ap (λ (x : Words). length x.starts) e ∙ ap (λ (n : ℕ × ℕ). n.0) l ∙ sym w.1.0,
        ap (λ (x : Words). length x.ends) e ∙ ap (λ (n : ℕ × ℕ). n.1) l ∙ w.0.0.ends-as-long ∙ sym w.1.0,
      )

  out-small : (i : ℕ) → i < length phrases → Small (get_or out.starts i nan) × Small (get_or out.ends i nan)
  out-small i l =
      let s = fit-file-small ws phrases spans ls f samples places h in
      (s.starts i (omega (arith, l, out-long.0)), s.ends i (omega (arith, l, out-long.1)))

-- words that are alike, with small times
times-bits : (a b : Words) (i : ℕ) → word_at a i ≡ word_at b i → Small (get_or a.starts i nan) × Small (get_or a.ends i nan)
    → Small (get_or b.starts i nan) × Small (get_or b.ends i nan)
    → SameBits (get_or a.starts i nan) (get_or b.starts i nan) × SameBits (get_or a.ends i nan) (get_or b.ends i nan)
unfolding word_at
times-bits a b i w s s' = (same_bits s.0 s'.0 (ap (λ (x : Word). x.start) w), same_bits s.1 s'.1 (ap (λ (x : Word). x.end) w))

-- ---- Fit by phrase: both times of each word of a phrase that is given alike have the same bits.
pub fit-by-phrase-bits : (k : ℤ) (reversed : Bool) (xs ys : List Float) → Recorded k reversed xs ys → Loudest xs ys
    → (ls ls' : List Float) (f f' : Float) (count count' : ℕ) → Own xs ls f count → Own ys ls' f' count'
    → (phrases : List ℕ) (p : ℕ) (ws ws' : Words) (spans spans' : Spans) (places places' : ℕ) → GivenAlike phrases p ws ws' spans spans'
    → (h : says (fit_file_call ws phrases spans ls f count places).answer ≡ accepts tt)
    → (h' : says (fit_file_call ws' phrases spans' ls' f' count' places').answer ≡ accepts tt)
    → (i : ℕ) → i < length phrases → get_or phrases i 0 ≡ p
    → SameBits (get_or (fit_file_call ws phrases spans ls f count places).words.starts i nan)
    (get_or (fit_file_call ws' phrases spans' ls' f' count' places').words.starts i nan)
    × SameBits (get_or (fit_file_call ws phrases spans ls f count places).words.ends i nan)
    (get_or (fit_file_call ws' phrases spans' ls' f' count' places').words.ends i nan)
fit-by-phrase-bits k reversed xs ys recorded loudest ls ls' f f' count count' own own' phrases p ws ws' spans spans' places places' alike h h' i l e =
    times-bits _ _ i (fit-by-phrase k reversed xs ys recorded loudest ls ls' f f' count count' own own' phrases p ws ws' spans spans' places places' alike h h' i l e)
    (out-small ws phrases spans ls f count places h i l) (out-small ws' phrases spans' ls' f' count' places' h' i l)

-- ---- And on one recording, whatever it holds.
pub fit-by-phrase-same-bits : (ls : List Float) (f : Float) (samples : ℕ)
    → (phrases : List ℕ) (p : ℕ) (ws ws' : Words) (spans spans' : Spans) (places places' : ℕ) → GivenAlike phrases p ws ws' spans spans'
    → (h : says (fit_file_call ws phrases spans ls f samples places).answer ≡ accepts tt) → (h' : says (fit_file_call ws' phrases spans' ls f samples places').answer ≡ accepts tt)
    → (i : ℕ) → i < length phrases → get_or phrases i 0 ≡ p
    → SameBits (get_or (fit_file_call ws phrases spans ls f samples places).words.starts i nan) (get_or (fit_file_call ws' phrases spans' ls f samples places').words.starts i nan)
    × SameBits (get_or (fit_file_call ws phrases spans ls f samples places).words.ends i nan) (get_or (fit_file_call ws' phrases spans' ls f samples places').words.ends i nan)
fit-by-phrase-same-bits ls f samples phrases p ws ws' spans spans' places places' alike h h' i l e =
    times-bits _ _ i (fit-by-phrase-same ls f samples phrases p ws ws' spans spans' places places' alike h h' i l e) (out-small ws phrases spans ls f samples places h i l)
    (out-small ws' phrases spans' ls f samples places' h' i l)
