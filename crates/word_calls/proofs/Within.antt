-- The limits of document 01 in plain words: no test applies exactly when all is within them. By reading each test. Assumes nothing.
use Rattle.std.specs.Prelude.{Result, Ok, Err, is_err}
use Prim.Native.Nat.{ℕ, zero, suc, ◌/◌, ◌≤◌, ◌<◌}
use mathlib.Core.Path.{◌≡◌, refl, sym, ap, ◌∙◌}
use mathlib.Core.Bool.{Bool, true, false, cond, not, ◌&&◌, ◌||◌, true≢false}
use mathlib.Core.Logic.{◌↔◌, inl, inr}
use mathlib.Core.List.{List, [], ◌∷◌}
use native.Mathlib.Omega.{arith}
use borrow.Author.Tests.{ltb-true, ltb-false, le-ltb, eqb-true, eq-eqb, not-false}
use lib.Dec.{eqb, ltb}
use lib.ListN.{length, get_or, get_or-eq_default}
use lib.Ieee.{Float, nan, inf, fin, le}
use Rattle.base.specs.Words.{Words, Spans, count}
use Rattle.base.specs.Parts.{OneLength}
use Rattle.base.specs.declared.Refusal.TheVariants.{Time, Letters, Lengths, Counts, Places, Levels}
use Rattle.base.specs.Refusals.{NoneApplies}
use Rattle.limits.specs.Limits.{least, most, time_of, limit_of, bad_time, bad_limit, any, outside}
use Rattle.limits.specs.Order.{in_order}
use Rattle.limits.proofs.Joined.{neither, both-not, when-exactly, also-exactly}
use Rattle.word_calls.specs.Within.{Within, LimitWithin, AllWithin, AllFrom, WordsWithin, SpansWithin}
use Rattle.word_calls.specs.Calls.{uneven, of_words, of_samples, of_levels, of_time, of_limit, uneven_spans, many_spans, of_spans, of_places, of_list}
use Rattle.limits.specs.declared.times.NoTime.{NoTime}
use Rattle.limits.specs.declared.times.NoTime.TheVariants.{Outside}
use Rattle.limits.proofs.Finite.{time-fine}

-- ---- a time within its range, and a limit for evening: such a time, or +infinity
pub within-fine : (t : Float) → Within t → bad_time t ≡ false
within-fine t h = ap (λ (x : Result (Unit {0}) NoTime). is_err x) (sym (time-fine t h.0 h.1))

pub fine-within : (t : Float) → bad_time t ≡ false → Within t
unfolding time_of
fine-within nan h = absurd (true≢false h)
fine-within (inf s) h = absurd (true≢false h)
fine-within (fin s m e) h = go (le least (fin s m e)) (le (fin s m e) most) h
  where
    go : (a b : Bool) → is_err (cond (a && b) (Ok (tt {0})) (Err Outside)) ≡ false → (a ≡ true) × (b ≡ true)
    go true true k = (refl, refl)
    go true false k = absurd (true≢false k)
    go false b k = absurd (true≢false k)

within-limit : (t : Float) → LimitWithin t → bad_limit t ≡ false
unfolding limit_of time_of
within-limit nan (inl h) = absurd (true≢false (within-fine nan h))
within-limit (inf s) (inl h) = absurd (true≢false (within-fine (inf s) h))
within-limit (fin s m e) (inl h) = within-fine (fin s m e) h
within-limit t (inr h) = rw h

limit-within : (t : Float) → bad_limit t ≡ false → LimitWithin t
unfolding limit_of
limit-within nan h = absurd (true≢false h)
limit-within (inf true) h = absurd (true≢false h)
limit-within (inf false) h = inr refl
limit-within (fin s m e) h = inl (fine-within (fin s m e) h)

-- ---- of no element a test holds
module _ {A : Type 0} (p : A → Bool) (d : A) where
  any_none : (xs : List A) → any p xs ≡ false → (i : ℕ) → i < length xs → p (get_or xs i d) ≡ false
  unfolding any
  any_none [] h i l = absurd (omega arith)
  any_none (x ∷ xs) h zero l = (neither (p x) (any p xs) h).0
  any_none (x ∷ xs) h (suc i) l = any_none xs (neither (p x) (any p xs) h).1 i (omega arith)

  none_any : (xs : List A) → ((i : ℕ) → i < length xs → p (get_or xs i d) ≡ false) → any p xs ≡ false
  unfolding any
  none_any [] h = refl
  none_any (x ∷ xs) h = both-not (h 0 (omega arith)) (none_any xs (λ (i : ℕ) (l : i < length xs). h (suc i) (omega arith)))

-- ---- numbers from a to b, and past the end of the list 0
all_most : {a b : ℕ} (ns : List ℕ) → AllFrom a b ns → (i : ℕ) → get_or ns i 0 ≤ b
all_most {a} {b} ns h i = go (ltb i (length ns)) refl where
  go : (t : Bool) → ltb i (length ns) ≡ t → get_or ns i 0 ≤ b
  go true t = (h i (ltb-true i (length ns) t)).1
  go false t = rw (get_or-eq_default ns 0 (ltb-false i (length ns) t)) (omega arith)

inside : (a b n : ℕ) → outside a b n ≡ false → (a ≤ n) × (n ≤ b)
inside a b n h = let t = neither (ltb n a) (ltb b n) h in (ltb-false n a t.0, ltb-false b n t.1)

-- all five lists are of one length
pub one-length : {ws : Words} → WordsWithin ws → OneLength (count ws) ws
one-length w = (sym w.keys-as-long, (w.ends-as-long ∙ sym w.keys-as-long, (w.letters-as-long ∙ sym w.keys-as-long, (w.units-as-long ∙ sym w.keys-as-long, refl))))

pub letters-most : {ws : Words} → WordsWithin ws → (i : ℕ) → get_or ws.letters i 0 ≤ 1000
letters-most {ws} w i = all_most ws.letters w.letters-from-1 i

-- two lengths that do not differ
alike : {a b : ℕ} → not (eqb a b) ≡ false → a ≡ b
alike {a} {b} h = eqb-true a b (not-false (eqb a b) h)

differ-no : {a b : ℕ} → a ≡ b → not (eqb a b) ≡ false
differ-no {a} {b} h = rw (eq-eqb a b h)

-- ---- one test, and what it says of the limits
differs-exactly : (a b : ℕ) → (a ≡ b) ↔ (not (eqb a b) ≡ false)
differs-exactly a b = (differ-no, alike)

most-exactly : (most n : ℕ) → (n ≤ most) ↔ (ltb most n ≡ false)
most-exactly most n = (le-ltb most n, ltb-false most n)

times-exactly : (starts ends : List Float) → (AllWithin starts × AllWithin ends) ↔ ((any bad_time starts || any bad_time ends) ≡ false)
times-exactly starts ends = (
  λ w. both-not (none_any bad_time nan starts (λ i l. within-fine _ (w.0 i l))) (none_any bad_time nan ends (λ i l. within-fine _ (w.1 i l))),
  λ h. let t = neither _ _ h in ((λ i l. fine-within _ (any_none bad_time nan starts t.0 i l)), (λ i l. fine-within _ (any_none bad_time nan ends t.1 i l))),
)

numbers-exactly : (a b : ℕ) (ns : List ℕ) → AllFrom a b ns ↔ (any (outside a b) ns ≡ false)
numbers-exactly a b ns = (
  λ w. none_any (outside a b) 0 ns (λ i l. let h = w i l in both-not (le-ltb _ _ h.0) (le-ltb _ _ h.1)),
  λ h i l. inside a b _ (any_none (outside a b) 0 ns h i l),
)

either-exactly : {P Q : Type 0} {a b : Bool} → P ↔ (a ≡ false) → Q ↔ (b ≡ false) → (P × Q) ↔ ((a || b) ≡ false)
either-exactly p q = (λ h. both-not (p.0 h.0) (q.0 h.1), λ h. let t = neither _ _ h in (p.1 t.0, q.1 t.1))

-- ---- a word list
words-tests : (ws : Words) → (((length ws.ends ≡ length ws.starts) × ((length ws.letters ≡ length ws.starts) × ((length ws.units ≡ length ws.starts) × (length ws.keys ≡ length ws.starts))))
    × ((length ws.starts ≤ 4096) × ((AllWithin ws.starts × AllWithin ws.ends) × (AllFrom 1 1000 ws.letters × AllFrom 1 10000 ws.units)))) ↔ NoneApplies (in_order (of_words ws))
unfolding of_words uneven
words-tests ws =
    let n = length ws.starts in
    also-exactly _ _
    (when-exactly Lengths (λ e. omega (arith, e)) (either-exactly (differs-exactly _ n) (either-exactly (differs-exactly _ n) (either-exactly (differs-exactly _ n) (differs-exactly _ n)))))
    (also-exactly _ _ (when-exactly Counts (λ e. omega (arith, e)) (most-exactly 4096 n))
    (also-exactly _ _ (when-exactly Time (λ e. omega (arith, e)) (times-exactly ws.starts ws.ends))
    (when-exactly Letters (λ e. omega (arith, e)) (either-exactly (numbers-exactly 1 1000 ws.letters) (numbers-exactly 1 10000 ws.units)))))

pub words-exactly : (ws : Words) → WordsWithin ws ↔ NoneApplies (in_order (of_words ws))
words-exactly ws = (to, from)
  where
    to : WordsWithin ws → NoneApplies (in_order (of_words ws))
    to w = (words-tests ws).0 (
      (w.ends-as-long, (w.letters-as-long, (w.units-as-long, w.keys-as-long))),
      (w.few, ((w.starts-within, w.ends-within), (w.letters-from-1, w.units-from-1))),
    )

    from : NoneApplies (in_order (of_words ws)) → WordsWithin ws
    from n =
        let t = (words-tests ws).1 n in
        record {
          ends-as-long = t.0.0;
          letters-as-long = t.0.1.0;
          units-as-long = t.0.1.1.0;
          keys-as-long = t.0.1.1.1;
          few = t.1.0;
          starts-within = t.1.1.0.0;
          ends-within = t.1.1.0.1;
          letters-from-1 = t.1.1.1.0;
          units-from-1 = t.1.1.1.1;
        }

-- ---- at most an hour of samples, and a level for each frame
pub samples-exactly : (samples : ℕ) → (samples ≤ 57600000) ↔ NoneApplies (in_order (of_samples samples))
unfolding of_samples
samples-exactly samples = when-exactly Counts (λ e. omega (arith, e)) (most-exactly 57600000 samples)

pub levels-exactly : (levels samples : ℕ) → ((samples ≤ 57600000) × (levels ≡ samples / 160)) ↔ NoneApplies (in_order (of_levels levels samples))
unfolding of_levels
levels-exactly levels samples = also-exactly _ _ (samples-exactly samples) (when-exactly Levels (λ e. omega (arith, e)) (differs-exactly levels (samples / 160)))

-- ---- a time that is no word's, and a limit for evening
pub time-exactly : (t : Float) → Within t ↔ NoneApplies (in_order (of_time t))
unfolding of_time
time-exactly t = when-exactly Time (λ e. omega (arith, e)) (within-fine t, fine-within t)

pub limit-exactly : (t : Float) → LimitWithin t ↔ NoneApplies (in_order (of_limit t))
unfolding of_limit
limit-exactly t = when-exactly Time (λ e. omega (arith, e)) (within-limit t, limit-within t)

-- ---- a list of spans
spans-tests : (sp : Spans) → (((length sp.ends ≡ length sp.starts) × (length sp.counts ≡ length sp.starts))
    × (((length sp.starts ≤ 4096) × AllFrom 0 4096 sp.counts) × (AllWithin sp.starts × AllWithin sp.ends))) ↔ NoneApplies (in_order (of_spans sp))
unfolding of_spans uneven_spans many_spans
spans-tests sp =
    let n = length sp.starts in
    also-exactly _ _ (when-exactly Lengths (λ e. omega (arith, e)) (either-exactly (differs-exactly _ n) (differs-exactly _ n)))
    (also-exactly _ _ (when-exactly Counts (λ e. omega (arith, e)) (either-exactly (most-exactly 4096 n) (numbers-exactly 0 4096 sp.counts)))
    (when-exactly Time (λ e. omega (arith, e)) (times-exactly sp.starts sp.ends)))

pub spans-exactly : (sp : Spans) → SpansWithin sp ↔ NoneApplies (in_order (of_spans sp))
spans-exactly sp = (to, from)
  where
    to : SpansWithin sp → NoneApplies (in_order (of_spans sp))
    to w = (spans-tests sp).0 ((w.ends-as-long, w.counts-as-long), ((w.few, w.counts-to-4096), (w.starts-within, w.ends-within)))

    from : NoneApplies (in_order (of_spans sp)) → SpansWithin sp
    from n =
        let t = (spans-tests sp).1 n in
        record {
          ends-as-long = t.0.0;
          counts-as-long = t.0.1;
          few = t.1.0.0;
          counts-to-4096 = t.1.0.1;
          starts-within = t.1.1.0;
          ends-within = t.1.1.1;
        }

-- ---- so many places, of which so many are needed
pub places-exactly : (places need : ℕ) → (need ≤ places) ↔ NoneApplies (in_order (of_places places need))
unfolding of_places
places-exactly places need = when-exactly Places (λ e. omega (arith, e)) (most-exactly places need)

-- ---- one list more that belongs to the words
pub list-exactly : (list words : ℕ) → (list ≡ words) ↔ NoneApplies (in_order (of_list list words))
unfolding of_list
list-exactly list words = when-exactly Lengths (λ e. omega (arith, e)) (differs-exactly list words)
