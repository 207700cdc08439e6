-- NaN and infinity among the samples of a range: one NaN makes the largest magnitude NaN, and without one an infinity makes it +infinity;
-- and where the largest magnitude is so, a sample is. By what the turns keep, one induction for all. Assumes nothing.
use Rattle.std.proofs.Common.{◌≡◌, ℕ, zero, suc, ◌+◌, ◌-◌, ◌<◌, ◌≤◌, Bool, true, false, cond, ◌||◌, T, ltb, ◌⊎◌, List, get_or, ℤ, pos, negsuc, ◌≤ℤ◌, ◌<ℤ◌, sym, refl, ap, ◌∙◌, subst, inl, inr, ⊎_elim, true≢false, arith, le→leb, ltb→lt, lt→ltb, leb→le, ltb-false, ltb-true}
use lib.Signed.{lt_z, le_z_yes, lt_z_yes}
use lib.Ieee.{Float, nan, inf, fin, is_nan, lt, eq}
use lib.Ieee.Bits.{is_true}
use Rattle.base.specs.Whole.{to_nat}
use Rattle.base.specs.Loop.{on, run, range}
use Rattle.base.proofs.Loops.{lt_z-nat, range-end}
use Rattle.js.specs.Js.{under, js_max}
use Rattle.peak.specs.Peak.{magnitude, peak_turn}
use Rattle.peak.proofs.Ranges.{max-nan, nan-max, before, none}

is-nan : (x : Float) → is_nan x ≡ true → x ≡ nan
unfolding is_nan
is-nan nan h = refl
is-nan (inf s) h = absurd (true≢false (sym h))
is-nan (fin s m e) h = absurd (true≢false (sym h))

is_number : (x : Float) → (x ≡ nan → ⊥) → is_nan x ≡ false
unfolding is_nan
is_number nan h = absurd (h refl)
is_number (inf s) h = refl
is_number (fin s m e) h = refl

nan_is : {x : Float} → x ≡ nan → is_nan x ≡ true
unfolding is_nan
nan_is e = ap is_nan e

-- of the largest of two holds what holds of both and of NaN
max_of : (P : Float → Type 0) (x y : Float) → P nan → P x → P y → P (js_max x y)
unfolding js_max
max_of P x y n p q = go (is_nan x || is_nan y) (under x y)
  where
    go : (s t : Bool) → P (cond s nan (cond t y x))
    go true t = n
    go false true = q
    go false false = p

max-number : (x y : Float) → is_nan x ≡ false → is_nan y ≡ false → is_nan (js_max x y) ≡ false
unfolding js_max
max-number x y h k = rw (h, k) (go (under x y))
  where
    go : (t : Bool) → is_nan (cond t y x) ≡ false
    go true = k
    go false = h

max-top : (x : Float) → is_nan x ≡ false → js_max x (inf false) ≡ inf false
unfolding js_max under is_nan lt eq
max-top nan h = absurd (true≢false h)
max-top (inf true) h = refl
max-top (inf false) h = refl
max-top (fin s m e) h = refl

top-max : (x : Float) → is_nan x ≡ false → js_max (inf false) x ≡ inf false
unfolding js_max under is_nan lt eq
top-max nan h = absurd (true≢false h)
top-max (inf true) h = refl
top-max (inf false) h = refl
top-max (fin s m e) h = refl

unsigned-number : (x : Float) → is_nan (magnitude x) ≡ is_nan x
unfolding is_nan
unsigned-number nan = refl
unsigned-number (inf s) = refl
unsigned-number (fin s m e) = refl

not-nan : nan ≡ inf false → ⊥
not-nan e = let z : ◌≡◌ {A = ℕ} 0 1 = cc in omega arith

not-fin : {s : Bool} {m : ℕ} {d : ℤ} → fin s m d ≡ inf false → ⊥
not-fin e = let z : ◌≡◌ {A = ℕ} 0 1 = cc in omega arith

module _ (samples : List Float) where
  -- the running maximum after sample j
  abbrev next : ℕ → Float → Float
  next j x = js_max x (magnitude (get_or samples j nan))

  -- each sample from k to before e leads from R to R
  abbrev Steps : (ℕ → Float → Type 0) → ℕ → ℕ → Type 0
  Steps R k e = (j : ℕ) → k ≤ j → j < e → (x : Float) → R j x → R (suc j) (next j x)

  keeps : (R : ℕ → Float → Type 0) (n k : ℕ) {e : ℕ} → k + n ≡ e → Steps R k e → (p : Float) → R k p → R e (run (peak_turn samples) n (pos k) (on p))
  unfolding run
  keeps R zero k h step p r = subst (λ (j : ℕ). R j p) (omega arith) r
  keeps R (suc n) k h step p r = keeps R n (suc k) (omega arith) (λ j l u. step j (omega arith) u) (next k p) (step k (omega arith) (omega arith) p r)

  -- a sample from k to before e of which B holds
  record Some (B : Float → Type 0) (k e : ℕ) : Type 0 where
    pub i : ℕ
    pub low : k ≤ i
    pub high : i < e
    pub is : B (get_or samples i nan)

  -- what every sample keeps of which B does not hold, the range keeps, or B holds of a sample
  found : (B P : Float → Type 0) → ((x y : Float) → P x → B y ⊎ P (js_max x (magnitude y))) → (n k : ℕ) (p : Float) → P p → Some B k (k + n) ⊎ P (run (peak_turn samples) n (pos k) (on p))
  found B P turn n k p q = keeps (λ j x. Some B k j ⊎ P x) n k refl step p (inr q)
    where
      step : Steps (λ j x. Some B k j ⊎ P x) k (k + n)
      step j l u x (inl f) = inl (record { i = f.i; low = f.low; high = omega (arith, f.high); is = f.is })
      step j l u x (inr q) = ⊎_elim (λ b. inl (record { i = j; low = l; high = omega arith; is = b })) inr (turn x (get_or samples j nan) q)

  -- sample i leads from P to Q, and the others keep P and Q
  module _ (P Q : Float → Type 0) (n k i : ℕ) (low : k ≤ i) (high : i < k + n) (first : Steps (λ j x. P x) k (k + n)) (turn : (x : Float) → P x → Q (next i x)) (last : Steps (λ j x. Q x) k (k + n)) where
    -- before sample j
    abbrev Both : ℕ → Float → Type 0
    Both j x = (j ≤ i → P x) × (i < j → Q x)

    both : Steps Both k (k + n)
    both j l u x r = (λ h. first j l u x (r.0 (omega arith)), λ h. go h (ltb i j) refl)
      where
        go : i < suc j → (t : Bool) → ltb i j ≡ t → Q (next j x)
        go h true t = last j l u x (r.1 (ltb-true i j t))
        go h false t = subst (λ (m : ℕ). Q (next m x)) (omega (arith, ltb-false i j t)) (turn x (r.0 (omega (arith, ltb-false i j t))))

    met : (p : Float) → P p → Q (run (peak_turn samples) n (pos k) (on p))
    met p q = (keeps Both n k refl both p (λ h. q, λ h. absurd (omega arith))).1 high

  -- ---- a range that begins at k, as the numbers from k on
  module _ (k : ℕ) (b : ℤ) where
    nat-spanned : {i : ℕ} → (pos k ≤ℤ pos i) × (pos i <ℤ b) → (k ≤ i) × (i < k + (to_nat b - k))
    nat-spanned {i} h =
        let l = leb→le k i h.0.le in
        let u = ltb→lt i (to_nat b) (subst T (lt_z-nat i b) h.1.lt) in (l, omega arith)

    spanned-nat : {i : ℕ} → k ≤ i → i < k + (to_nat b - k) → (pos k ≤ℤ pos i) × (pos i <ℤ b)
    spanned-nat {i} l u = (le_z_yes (le→leb k i l), lt_z_yes (subst T (sym (lt_z-nat i b)) (lt→ltb i (to_nat b) (omega arith))))

  -- a sample of the range from a to before b of which B holds
  abbrev Among : (Float → Type 0) → ℤ → ℤ → Type 0
  Among B a b = (i : ℕ) × (((a ≤ℤ pos i) × (pos i <ℤ b)) × B (get_or samples i nan))

  among : {B : Float → Type 0} (k : ℕ) (b : ℤ) → Some B k (k + (to_nat b - k)) → Among B (pos k) b
  among k b f = (f.i, (spanned-nat k b f.low f.high, f.is))

  -- a maximum with sample j, of which all is known
  next-is : (j : ℕ) (x : Float) {y z r : Float} → x ≡ y → get_or samples j nan ≡ z → js_max y (magnitude z) ≡ r → next j x ≡ r
  next-is j x p q e = rw (p, q) e

  -- ---- NaN: the range begins before sample 0 and isn't empty, or a sample in it is NaN
  pub range-nan : (a b : ℤ) (p : Float) → ((a <ℤ pos 0) × (a <ℤ b)) ⊎ Among (λ x. x ≡ nan) a b → range (peak_turn samples) a b p ≡ nan
  range-nan a b p (inl h) = before samples a b p (is_true _ h.0.lt) (is_true _ h.1.lt)
  range-nan (pos k) b p (inr (i, (s, e))) =
      let h = nat-spanned k b s in
      range-end (peak_turn samples) k b p
      ∙ met (λ x. Unit {0}) (λ x. x ≡ nan) (to_nat b - k) k i h.0 h.1 (λ j l u x q. tt) (λ x q. next-is i x refl e (max-nan x)) (λ j l u x q. next-is j x q refl (nan-max _)) p tt
  range-nan (negsuc j) (pos m) p (inr w) = before samples (negsuc j) (pos m) p refl refl
  range-nan (negsuc j) (negsuc m) p (inr (i, (s, e))) = absurd s.1.lt

  nan-or-number : (x y : Float) → is_nan x ≡ false → (y ≡ nan) ⊎ (is_nan (js_max x (magnitude y)) ≡ false)
  nan-or-number x y h = go (is_nan y) refl
    where
      go : (t : Bool) → is_nan y ≡ t → (y ≡ nan) ⊎ (is_nan (js_max x (magnitude y)) ≡ false)
      go true t = inl (is-nan y t)
      go false t = inr (max-number x (magnitude y) h (unsigned-number y ∙ t))

  pub nan-range : (a b : ℤ) (p : Float) → is_nan p ≡ false → range (peak_turn samples) a b p ≡ nan → ((a <ℤ pos 0) × (a <ℤ b)) ⊎ Among (λ x. x ≡ nan) a b
  nan-range (pos k) b p h e =
      ⊎_elim (λ f. inr (among k b f)) (λ q. absurd (true≢false (sym (nan_is (sym (range-end (peak_turn samples) k b p) ∙ e)) ∙ q)))
      (found (λ x. x ≡ nan) (λ x. is_nan x ≡ false) nan-or-number (to_nat b - k) k p h)
  nan-range (negsuc j) b p h e = go (lt_z (negsuc j) b) refl
    where
      go : (t : Bool) → lt_z (negsuc j) b ≡ t → ((negsuc j <ℤ pos 0) × (negsuc j <ℤ b)) ⊎ Among (λ x. x ≡ nan) (negsuc j) b
      go true t = inl (lt_z_yes tt, lt_z_yes (subst T (sym t) tt))
      go false t = absurd (true≢false (sym (nan_is (sym (none samples (negsuc j) b p t) ∙ e)) ∙ h))

  -- ---- +infinity: the range begins at sample 0 or later, no sample in it is NaN, and one is an infinity
  abbrev Infinite : Float → Type 0
  Infinite x = (s : Bool) × (x ≡ inf s)

  abbrev Numbers : ℤ → ℤ → Type 0
  Numbers a b = (i : ℕ) → (a ≤ℤ pos i) × (pos i <ℤ b) → get_or samples i nan ≡ nan → ⊥

  pub range-top : (a b : ℤ) (p : Float) → is_nan p ≡ false → pos 0 ≤ℤ a → Numbers a b → Among Infinite a b → range (peak_turn samples) a b p ≡ inf false
  range-top (pos k) b p h z all (i, (s, (t, e))) =
      let u = nat-spanned k b s in
      range-end (peak_turn samples) k b p
      ∙ met (λ x. is_nan x ≡ false) (λ x. x ≡ inf false) (to_nat b - k) k i u.0 u.1
      (λ j l m x q. max-number x (magnitude (get_or samples j nan)) q (number j l m))
      (λ x q. next-is i x refl e (max-top x q))
      (λ j l m x q. next-is j x q refl (top-max (magnitude (get_or samples j nan)) (number j l m)))
      p h
    where
      number : (j : ℕ) → k ≤ j → j < k + (to_nat b - k) → is_nan (magnitude (get_or samples j nan)) ≡ false
      number j l m = unsigned-number (get_or samples j nan) ∙ is_number (get_or samples j nan) (all j (spanned-nat k b l m))
  range-top (negsuc j) b p h z all w = absurd z.le

  top-or-not : (x y : Float) → (x ≡ inf false → ⊥) → Infinite y ⊎ (js_max x (magnitude y) ≡ inf false → ⊥)
  top-or-not x nan h = inr (max_of (λ z. z ≡ inf false → ⊥) x nan not-nan h not-nan)
  top-or-not x (inf s) h = inl (s, refl)
  top-or-not x (fin s m d) h = inr (max_of (λ z. z ≡ inf false → ⊥) x (fin false m d) not-nan h not-fin)

  pub top-range : (a b : ℤ) (p : Float) → (p ≡ inf false → ⊥) → range (peak_turn samples) a b p ≡ inf false → (pos 0 ≤ℤ a) × (Numbers a b × Among Infinite a b)
  top-range (pos k) b p h e = (
    le_z_yes (le→leb 0 k (omega arith)),
    (
      λ i s q. not-nan (sym (range-nan (pos k) b p (inr (i, (s, q)))) ∙ e),
      ⊎_elim (among k b) (λ q. absurd (q (sym (range-end (peak_turn samples) k b p) ∙ e))) (found Infinite (λ x. x ≡ inf false → ⊥) top-or-not (to_nat b - k) k p h),
    ),
  )
  top-range (negsuc j) b p h e = absurd (go (lt_z (negsuc j) b) refl)
    where
      go : (t : Bool) → lt_z (negsuc j) b ≡ t → ⊥
      go true t = not-nan (sym (before samples (negsuc j) b p refl t) ∙ e)
      go false t = h (sym (none samples (negsuc j) b p t) ∙ e)
