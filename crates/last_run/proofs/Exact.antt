-- The exact condition of document 01: no sound is given exactly when no loud frame is in the range, or last minus first frame of the run is under 3; and what
-- run is given else. The search is followed back frame by frame, with what it has seen; and a range has one last run at the most. Assumes nothing.
use Rattle.std.specs.Prelude.{Option, Some, None}
use Rattle.base.specs.declared.Times.{Times}
use Rattle.base.specs.Words.{times}
use Prim.Native.Nat.{ℕ, zero, suc, ◌+◌, ◌-◌, ◌<◌, ◌≤◌}
use mathlib.Core.Bool.{Bool, true, false, true≢false}
use mathlib.Core.List.{List}
use mathlib.Core.Logic.{◌↔◌, inl, inr}
use mathlib.Core.Path.{◌≡◌, refl, sym, ap, ◌∙◌, subst}
use native.Mathlib.Omega.{arith}
use borrow.Author.Tests.{ltb-true, ltb-false, le-ltb}
use lib.Dec.{ltb}
use lib.IntN.{pos, pred_ℤ}
use lib.Ieee.{Float}
use Rattle.base.specs.Loop.{on, out, run_back}
use Rattle.base.proofs.Loops.{back-next, back-stop, back_done}
use Rattle.frames.specs.Frames.{frame_seconds}
use Rattle.envelope.specs.Envelope.{loud}
use Rattle.envelope.proofs.Scan.{one_less}
use Rattle.last_run.specs.LastRun.{Ends, back_turn, ends_between, frames_of, frame_run, seconds_of, last_run, frames}
use Rattle.last_run.specs.Exact.{NoneLoud, RunIs, NoSound, SoundIs, first_frame, end_frame}
use Rattle.last_run.specs.declared.FrameRun.{FrameRun}
use Rattle.last_run.proofs.Steps.{nothing, met, minus-above, ends-nat, frames_of-none, frames_of-under, frames_of-from}
use Rattle.last_run.proofs.Between.{last_run-is, seconds-found}

never : {A : Type 0} {b : Bool} → b ≡ true → b ≡ false → A
never t f = absurd (true≢false (sym t ∙ f))

-- ---- a range has one last run at the most
last-not-before : {row : List Bool} {lo hi a b c d : ℕ} → RunIs row lo hi a b → RunIs row lo hi c d → b < d → ⊥
last-not-before {d = d} r s h = never s.last-loud (r.is_last d h s.to)

first-not-before : {row : List Bool} {lo hi a b c d : ℕ} → RunIs row lo hi a b → RunIs row lo hi c d → d ≤ b → a < c → ⊥
first-not-before {c = c} r s e h =
    let o = s.order in
    let f = r.from in
    let w = r.bridges c h (omega arith) s.first-loud in
    let p = w.1.0 in never w.1.1.1.1 (s.stops w.0 (omega arith) w.1.1.0 w.1.1.1.0)

one-run : {row : List Bool} {lo hi a b c d : ℕ} → RunIs row lo hi a b → RunIs row lo hi c d → (a ≡ c) × (b ≡ d)
one-run {a = a} {b = b} {c = c} {d = d} r s =
    let p : b < d → ⊥ = last-not-before r s in
    let q : d < b → ⊥ = last-not-before s r in
    let e : b ≡ d = omega arith in
    let u : a < c → ⊥ = first-not-before r s (omega arith) in
    let v : c < a → ⊥ = first-not-before s r (omega arith) in (omega arith, e)

module _ (row : List Bool) (lo hi : ℕ) where
  -- ---- a run that may go on, where the search stands above frame k
  record Grown (k first last : ℕ) : Type 0 where
    from : lo ≤ first
    above : k ≤ first
    near : first ≤ k + 15
    order : first ≤ last
    to : last < hi
    first-loud : loud row (pos first) ≡ true
    last-loud : loud row (pos last) ≡ true
    is_last : (j : ℕ) → last < j → j < hi → loud row (pos j) ≡ false
    bridges : (j : ℕ) → first < j → j ≤ last → loud row (pos j) ≡ true → (i : ℕ) × ((first ≤ i) × ((i < j) × ((j ≤ i + 16) × (loud row (pos i) ≡ true))))
    quiet : (i : ℕ) → k ≤ i → i < first → loud row (pos i) ≡ false

  -- what the search has seen above frame k, and what it found
  data Seen (k : ℕ) (s : Ends) : Type 0 where
    none : s ≡ nothing → NoneLoud row k hi → Seen k s
    some : (first last : ℕ) → s ≡ met first last → Grown k first last → Seen k s

  data Found (s : Ends) : Type 0 where
    none : s ≡ nothing → NoneLoud row lo hi → Found s
    some : (first last : ℕ) → s ≡ met first last → RunIs row lo hi first last → Found s

  -- a run that goes no further
  ended : {k first last : ℕ} → Grown k first last → ((i : ℕ) → lo ≤ i → i < first → first ≤ i + 16 → loud row (pos i) ≡ false) → RunIs row lo hi first last
  ended g stops = record {
    from = g.from;
    order = g.order;
    to = g.to;
    first-loud = g.first-loud;
    last-loud = g.last-loud;
    is_last = g.is_last;
    bridges = g.bridges;
    stops = stops;
  }

  -- ---- the turn at frame k - 1
  data Turned (k : ℕ) (s : Ends) : Type 0 where
    goes_on : (s' : Ends) → back_turn row (pos (k - 1)) s ≡ on s' → Seen (k - 1) s' → Turned k s
    breaks : back_turn row (pos (k - 1)) s ≡ out s → Found s → Turned k s

  module _ (k : ℕ) (more : lo < k) (less : k ≤ hi) where
    -- the first loud frame that is met
    begun : loud row (pos (k - 1)) ≡ true → NoneLoud row k hi → Grown (k - 1) (k - 1) (k - 1)
    begun t q = record {
      from = omega arith;
      above = omega arith;
      near = omega arith;
      order = omega arith;
      to = omega arith;
      first-loud = t;
      last-loud = t;
      is_last = λ (j : ℕ) (p : k - 1 < j) (h : j < hi). q j (omega arith) h;
      bridges = λ (j : ℕ) (p : k - 1 < j) (h : j ≤ k - 1) (e : loud row (pos j) ≡ true). absurd (omega arith);
      quiet = λ (i : ℕ) (p : k - 1 ≤ i) (h : i < k - 1). absurd (omega arith);
    }

    -- a loud frame more
    grown : {first last : ℕ} → loud row (pos (k - 1)) ≡ true → Grown k first last → Grown (k - 1) (k - 1) last
    grown {first} {last} t g =
        let a = g.above in
        let n = g.near in
        let o = g.order in
        record {
          from = omega arith;
          above = omega arith;
          near = omega arith;
          order = omega arith;
          to = g.to;
          first-loud = t;
          last-loud = g.last-loud;
          is_last = g.is_last;
          bridges = λ (j : ℕ) (p : k - 1 < j) (h : j ≤ last) (e : loud row (pos j) ≡ true). go j p h e (ltb j first) refl (ltb first j) refl;
          quiet = λ (i : ℕ) (p : k - 1 ≤ i) (h : i < k - 1). absurd (omega arith);
        }
      where
        go : (j : ℕ) → k - 1 < j → j ≤ last → loud row (pos j) ≡ true → (b : Bool) → ltb j first ≡ b → (d : Bool) → ltb first j ≡ d
            → (i : ℕ) × ((k - 1 ≤ i) × ((i < j) × ((j ≤ i + 16) × (loud row (pos i) ≡ true))))
        go j p h e true b d f = never e (g.quiet j (omega arith) (ltb-true j first b))
        go j p h e false b true f =
            let w = g.bridges j (ltb-true first j f) h e in
            let v = w.1.0 in
            let a = g.above in (w.0, (omega arith, w.1.1))
        go j p h e false b false f =
            let u = ltb-false j first b in
            let v = ltb-false first j f in
            let n = g.near in (k - 1, (omega arith, (p, (omega arith, t))))

    -- a quiet frame more
    paused : {first last : ℕ} → loud row (pos (k - 1)) ≡ false → first ≤ k - 1 + 15 → Grown k first last → Grown (k - 1) first last
    paused {first} t n g =
        let a = g.above in record {
          from = g.from;
          above = omega arith;
          near = n;
          order = g.order;
          to = g.to;
          first-loud = g.first-loud;
          last-loud = g.last-loud;
          is_last = g.is_last;
          bridges = g.bridges;
          quiet = one_less row first k (omega arith) g.quiet t;
        }

    -- the 16th
    over : {first last : ℕ} → loud row (pos (k - 1)) ≡ false → k - 1 + 15 < first → Grown k first last → RunIs row lo hi first last
    over {first} t n g = ended g (λ (i : ℕ) (p : lo ≤ i) (q : i < first) (h : first ≤ i + 16). one_less row first k (omega arith) g.quiet t i (omega arith) q)

    turned : (s : Ends) → Seen k s → Turned k s
    turned s (none e q) = go (loud row (pos (k - 1))) refl where
      go : (b : Bool) → loud row (pos (k - 1)) ≡ b → Turned k s
      go true t = goes_on (met (k - 1) (k - 1)) (rw (t, e)) (some (k - 1) (k - 1) refl (begun t q))
      go false t = goes_on nothing (rw (t, e)) (none refl (one_less row hi k (omega arith) q t))
    turned s (some first last e g) = go (loud row (pos (k - 1))) refl (ltb (k - 1 + 15) first) refl where
      go : (b : Bool) → loud row (pos (k - 1)) ≡ b → (d : Bool) → ltb (k - 1 + 15) first ≡ d → Turned k s
      go true t d f = goes_on (met (k - 1) last) (rw (t, e, le-ltb last 0 (omega arith))) (some (k - 1) last refl (grown t g))
      go false t true f = breaks (rw (t, e, minus-above first (k - 1), f)) (some first last e (over t (ltb-true (k - 1 + 15) first f) g))
      go false t false f = goes_on s (rw (t, e, minus-above first (k - 1), f)) (some first last e (paused t (ltb-false (k - 1 + 15) first f) g))

  -- ---- the turns, to the end
  done : (k : ℕ) (s : Ends) → k ≤ lo → Seen k s → Found s
  done k s h (none e q) = none e (λ (j : ℕ) (p : lo ≤ j) (l : j < hi). q j (omega arith) l)
  done k s h (some first last e g) = some first last e (ended g (λ (i : ℕ) (p : lo ≤ i) (q : i < first) (n : first ≤ i + 16). g.quiet i (omega arith) q))

  walked : (n k : ℕ) (s : Ends) → k ≤ n → k ≤ hi → Seen k s → Found (run_back (back_turn row) (k - lo) (pred_ℤ (pos k)) (on s))
  walked zero k s m h v = subst Found (sym (back_done (back_turn row) lo k s (omega arith))) (done k s (omega arith) v)
  walked (suc n) k s m h v = go (ltb lo k) refl (λ (s' : Ends) (w : Seen (k - 1) s'). walked n (k - 1) s' (omega arith) (omega arith) w)
    where
      by : lo < k → ((s' : Ends) → Seen (k - 1) s' → Found (run_back (back_turn row) (k - 1 - lo) (pred_ℤ (pos (k - 1))) (on s')))
          → Turned k s → Found (run_back (back_turn row) (k - lo) (pred_ℤ (pos k)) (on s))
      by l next (goes_on s' e w) = subst Found (sym (back-next (back_turn row) lo k l e)) (next s' w)
      by l next (breaks e w) = subst Found (sym (back-stop (back_turn row) lo k l e)) w

      go : (b : Bool) → ltb lo k ≡ b → ((s' : Ends) → Seen (k - 1) s' → Found (run_back (back_turn row) (k - 1 - lo) (pred_ℤ (pos (k - 1))) (on s')))
          → Found (run_back (back_turn row) (k - lo) (pred_ℤ (pos k)) (on s))
      go true t next = let l = ltb-true lo k t in by l next (turned k l h s v)
      go false t next = let l = ltb-false lo k t in subst Found (sym (back_done (back_turn row) lo k s l)) (done k s l v)

  found : Found (ends_between row (pos lo) (pos hi))
  found = subst Found (sym (ends-nat row hi (pos lo))) (walked hi hi nothing (omega arith) (omega arith) (none refl (λ (j : ℕ) (p : hi ≤ j) (h : j < hi). absurd (omega arith))))

  -- ---- the three outcomes, of which each rules out the others
  data Outcome : Type 0 where
    silent : NoneLoud row lo hi → frame_run row (pos lo) (pos hi) ≡ None → Outcome
    short : (first last : ℕ) → RunIs row lo hi first last → last - first < 3 → frame_run row (pos lo) (pos hi) ≡ None → Outcome
    long : (first last : ℕ) → RunIs row lo hi first last → 3 ≤ last - first → frame_run row (pos lo) (pos hi) ≡ Some (frames first last) → Outcome

  outcome : Outcome
  unfolding frame_run
  outcome = by found where
    by : Found (ends_between row (pos lo) (pos hi)) → Outcome
    by (none e q) = silent q (ap frames_of e ∙ frames_of-none)
    by (some first last e r) = go (ltb last (first + 3)) refl where
      go : (b : Bool) → ltb last (first + 3) ≡ b → Outcome
      go true t = let h = ltb-true last (first + 3) t in let o = r.order in short first last r (omega arith) (ap frames_of e ∙ frames_of-under first last h)
      go false t = let h = ltb-false last (first + 3) t in long first last r (omega arith) (ap frames_of e ∙ frames_of-from first last h)

  apart : {A : Type 0} {first last : ℕ} → frame_run row (pos lo) (pos hi) ≡ Some (frames first last) → frame_run row (pos lo) (pos hi) ≡ None → A
  apart p q = absurd (let z : ◌≡◌ {A = ℕ} 0 1 = cc in omega arith)

  -- ---- "no sound is given exactly when no loud frame is in the range or last minus first frame of the run is under 3"
  pub none-exactly : NoSound row lo hi ↔ (frame_run row (pos lo) (pos hi) ≡ None)
  none-exactly = (λ h. to h outcome, λ e. from e outcome)
    where
      to : NoSound row lo hi → Outcome → frame_run row (pos lo) (pos hi) ≡ None
      to h (silent q e) = e
      to h (short first last r l e) = e
      to (inl q) (long first last r l e) = let o = r.order in let t = r.to in never r.first-loud (q first r.from (omega arith))
      to (inr (a, (b, (s, m)))) (long first last r l e) = let w = one-run r s in absurd (omega (arith, w.0, w.1))

      from : frame_run row (pos lo) (pos hi) ≡ None → Outcome → NoSound row lo hi
      from e (silent q f) = inl q
      from e (short first last r l f) = inr (first, (last, (r, l)))
      from e (long first last r l f) = apart f e

  -- ---- and a run is given exactly when it is the last one, and that is not so
  pub found-exactly : (first last : ℕ) → (RunIs row lo hi first last × (3 ≤ last - first)) ↔ (frame_run row (pos lo) (pos hi) ≡ Some (frames first last))
  found-exactly first last = (λ h. to h outcome, λ e. from e outcome)
    where
      to : RunIs row lo hi first last × (3 ≤ last - first) → Outcome → frame_run row (pos lo) (pos hi) ≡ Some (frames first last)
      to (r, h) (silent q e) = let o = r.order in let t = r.to in never r.first-loud (q first r.from (omega arith))
      to (r, h) (short a b s m e) = let w = one-run r s in absurd (omega (arith, w.0, w.1))
      to (r, h) (long a b s m e) = let w = one-run s r in e ∙ rw (w.0, w.1)

      from : frame_run row (pos lo) (pos hi) ≡ Some (frames first last) → Outcome → RunIs row lo hi first last × (3 ≤ last - first)
      from e (silent q f) = apart e f
      from e (short a b s m f) = apart e f
      from e (long a b s m f) =
          let x = sym f ∙ e in
          let w : frames a b ≡ frames first last = cc in
          let p : a ≡ first = ap (λ (r : FrameRun). r.first) w in
          let q : b ≡ last = ap (λ (r : FrameRun). r.last) w in
          let v : RunIs row lo hi a b × (3 ≤ b - a) = (s, m) in
          rw (p, q) at v

-- ---- the same, between two times: no sound is given exactly when there is none, and a start and an end exactly when they are those of the last run
module _ (row : List Bool) (from to : Float) where
  pub nothing-exactly : NoSound row (first_frame from) (end_frame row to) ↔ (last_run row from to ≡ None)
  nothing-exactly = (
    λ h. last_run-is row from to ∙ ap seconds_of ((none-exactly row (first_frame from) (end_frame row to)).0 h),
    λ e. (none-exactly row (first_frame from) (end_frame row to)).1 (go (frame_run row (pos (first_frame from)) (pos (end_frame row to))) (sym (last_run-is row from to) ∙ e)),
  )
    where
      go : (r : Option FrameRun) → seconds_of r ≡ None → r ≡ None
      go (Some run) h = absurd (let z : ◌≡◌ {A = ℕ} 0 1 = cc in omega arith)
      go None h = refl

  pub sound-exactly : (start end : Float) → SoundIs row (first_frame from) (end_frame row to) start end ↔ (last_run row from to ≡ Some (times start end))
  sound-exactly start end = (there, λ e. back (frame_run row (pos (first_frame from)) (pos (end_frame row to))) refl (sym (last_run-is row from to) ∙ e))
    where
      there : SoundIs row (first_frame from) (end_frame row to) start end → last_run row from to ≡ Some (times start end)
      there (first, (last, (h, (p, q)))) = last_run-is row from to ∙ sym (seconds-found first last ((found-exactly row (first_frame from) (end_frame row to) first last).0 h) p q)

      back : (r : Option FrameRun) → frame_run row (pos (first_frame from)) (pos (end_frame row to)) ≡ r → seconds_of r ≡ Some (times start end) → SoundIs row (first_frame from) (end_frame row to) start end
      back (Some run) f e =
          let w : times (frame_seconds (pos run.first)) (frame_seconds (pos (run.last + 1))) ≡ times start end = cc in
          let p : start ≡ frame_seconds (pos run.first) = sym (ap (λ (t : Times). t.start) w) in
          let q : end ≡ frame_seconds (pos (run.last + 1)) = sym (ap (λ (t : Times). t.end) w) in
          (run.first, (run.last, ((found-exactly row (first_frame from) (end_frame row to) run.first run.last).1 f, (p, q))))
      back None f e = absurd (let z : ◌≡◌ {A = ℕ} 0 1 = cc in omega arith)
