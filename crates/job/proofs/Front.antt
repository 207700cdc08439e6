-- How many bytes of a file decide what is printed for it: no byte behind them changes a line. By the table: one that is refused is refused whatever follows, and a file that is
-- longer than its table says is refused, however much longer. Assumes nothing.
use Prim.Native.Nat.{ℕ, ◌+◌, ◌-◌, ◌*◌, ◌≤◌}
use mathlib.Core.Bool.{Bool, true, false, cond}
use mathlib.Core.List.{List, [], ◌++◌, append-nil}
use mathlib.Core.Path.{◌≡◌, refl, sym, ap, ◌∙◌, subst}
use native.Mathlib.Omega.{arith}
use borrow.Author.Tests.{ltb-true, ltb-false}
use lib.Dec.{ltb}
use lib.ListN.{length, take, drop, length-append, take-append-drop}
use lib.Seq.{length-take-le, take_all, take_at, take-append-add}
use Rattle.base.specs.declared.Refusal.{Refusal}
use Rattle.base.specs.declared.Refusal.TheVariants.{Counts, Layout}
use Rattle.job_layout.specs.declared.Numbers.{Numbers}
use Rattle.job_layout.specs.Layout.{Contents, contents, too_many, gapless, file_size}
use Rattle.job_layout.specs.Parts.{plan_of}
use Rattle.std.specs.Prelude.{Result, Ok, Err}
use Rattle.job.specs.Printed.{printed}
use Rattle.job.specs.Came.{wanted}
use Rattle.job.proofs.Files.{contents-front, table-breaks, other_length, size_is}

pub wanted-table : (c : Contents) → 24 ≤ wanted c
unfolding wanted file_size
wanted-table c = go (too_many c) (gapless c)
  where
    go : (m g : Bool) → 24 ≤ cond m 24 (cond g (24 + 28 * c.words + 20 * c.spans + 4 * c.samples + 1) 24)
    go true g = omega arith
    go false true = omega arith
    go false false = omega arith

pub wanted-holds : (c : Contents) → too_many c ≡ false → gapless c ≡ true → wanted c ≡ file_size c + 1
unfolding wanted
wanted-holds c m g = rw (m, g)

pub wanted-breaks : (c : Contents) {why : Refusal} → plan_of c ≡ Err why → wanted c ≡ 24
unfolding plan_of wanted
wanted-breaks c {why} h = go (too_many c) (gapless c) h
  where
    go : (m g : Bool) → cond {A = Result Numbers Refusal} m (Err Counts) (cond g (Ok (record { words = c.words; spans = c.spans; samples = c.samples })) (Err Layout)) ≡ Err why
        → cond m 24 (cond g (file_size c + 1) 24) ≡ 24
    go true g e = refl
    go false true e = absurd cc
    go false false e = refl

module _ (t : List ℕ) (long : length t ≡ 24) where
  plan-many : too_many (contents t) ≡ true → plan_of (contents t) ≡ Err Counts
  unfolding plan_of
  plan-many m = rw m

  plan-gaps : too_many (contents t) ≡ false → gapless (contents t) ≡ false → plan_of (contents t) ≡ Err Layout
  unfolding plan_of
  plan-gaps m g = rw (m, g)

  plan-holds : too_many (contents t) ≡ false → gapless (contents t) ≡ true
      → plan_of (contents t) ≡ Ok (record { words = (contents t).words; spans = (contents t).spans; samples = (contents t).samples })
  unfolding plan_of
  plan-holds m g = rw (m, g)

  module _ (rest : List ℕ) where
    -- the table alone decides
    by-table : {why : Refusal} → plan_of (contents t) ≡ Err why → printed (take (wanted (contents t)) (t ++ rest)) ≡ printed (t ++ rest)
    by-table b =
        rw (wanted-breaks (contents t) b, first) (ap printed (sym (append-nil t)) ∙ table-breaks t long [] b ∙ sym (table-breaks t long rest b))
      where
        first : take 24 (t ++ rest) ≡ t
        first = take_at t rest 24 long

    -- the length decides
    by_length : too_many (contents t) ≡ false → gapless (contents t) ≡ true → (b : ℕ) → b ≡ file_size (contents t) + 1 → printed (take b (t ++ rest)) ≡ printed (t ++ rest)
    by_length m g b w = go (ltb b (length (t ++ rest))) refl
      where
        size : file_size (contents t) ≡ 24 + 28 * (contents t).words + 20 * (contents t).spans + 4 * (contents t).samples
        size = size_is t (contents t).words (contents t).spans (contents t).samples long (plan-holds m g)

        go : (longer : Bool) → ltb b (length (t ++ rest)) ≡ longer → printed (take b (t ++ rest)) ≡ printed (t ++ rest)
        go false e = ap printed (take_all b (t ++ rest) (ltb-false b (length (t ++ rest)) e))
        go true e =
            let l = length-append t rest in
            let k = ltb-true b (length (t ++ rest)) e in
            let a : b ≡ length t + (b - 24) = omega (arith, w, size, long) in
            let h = length-take-le (b - 24) rest (omega (arith, l, k, long)) in
            ap printed (ap (λ (x : ℕ). take x (t ++ rest)) a ∙ take-append-add t rest (b - 24))
            ∙ other_length t (contents t).words (contents t).spans (contents t).samples long (plan-holds m g) (take (b - 24) rest) (λ q. omega (arith, q, h, w, size))
            ∙ sym (other_length t (contents t).words (contents t).spans (contents t).samples long (plan-holds m g) rest (λ q. omega (arith, q, l, k, w, size, long)))

    pub front-decides : printed (take (wanted (contents t)) (t ++ rest)) ≡ printed (t ++ rest)
    front-decides = go (too_many (contents t)) (gapless (contents t)) refl refl
      where
        go : (m g : Bool) → too_many (contents t) ≡ m → gapless (contents t) ≡ g → printed (take (wanted (contents t)) (t ++ rest)) ≡ printed (t ++ rest)
        go true g p q = by-table (plan-many p)
        go false false p q = by-table (plan-gaps p q)
        go false true p q = by_length p q (wanted (contents t)) (wanted-holds (contents t) p q)

-- ---- What is printed for a file is what is printed for its first bytes, as many as its table wants.
pub front-printed : (file : List ℕ) → printed (take (wanted (contents file)) file) ≡ printed file
front-printed file = go (ltb (length file) 24) refl
  where
    go : (short : Bool) → ltb (length file) 24 ≡ short → printed (take (wanted (contents file)) file) ≡ printed file
    go true e = ap printed (take_all (wanted (contents file)) file (let l = ltb-true (length file) 24 e in let w = wanted-table (contents file) in omega (arith, l, w)))
    go false e =
        let long = length-take-le 24 file (ltb-false (length file) 24 e) in
        let whole : take 24 file ++ drop 24 file ≡ file = take-append-drop 24 file in
        subst (λ (x : List ℕ). printed (take (wanted (contents x)) x) ≡ printed x) whole
        (
        subst (λ (c : Contents). printed (take (wanted c) (take 24 file ++ drop 24 file)) ≡ printed (take 24 file ++ drop 24 file))
        (sym (contents-front (take 24 file) long (drop 24 file))) (front-decides (take 24 file) long (drop 24 file))
        )
