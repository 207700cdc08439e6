-- What document 01 prints for a file, by its table and by how long it is; and what a file holds that came as a table, bodies and samples. Assumes nothing.
use Prim.Native.Nat.{ℕ, ◌+◌, ◌-◌, ◌*◌, ◌/◌, ◌<◌, ◌≤◌}
use mathlib.Core.Bool.{Bool, true, false, cond, ◌&&◌}
use mathlib.Core.List.{List, ◌++◌, append_assoc}
use mathlib.Core.Path.{◌≡◌, sym, ap, ◌∙◌, subst}
use native.Mathlib.Omega.{arith}
use borrow.Author.Tests.{le-ltb, eqb-true, ne_eqb}
use lib.Dec.{eqb}
use lib.ListN.{length, take, drop, length-append, length-drop}
use lib.Seq.{length-take-le, drop-append-le, take-append-le, take-append-add, drop_at, take_at, drop-drop}
use lib.Ieee.{Float, binary32, of_bits}
use Rattle.base.specs.Refusals.{number}
use Rattle.base.specs.declared.Refusal.{Refusal}
use Rattle.base.specs.declared.Refusal.TheVariants.{Counts, Layout}
use Rattle.base.specs.Words.{part}
use Rattle.envelope.specs.Envelope.{levels}
use Rattle.job_text.specs.Text.{refused_line}
use Rattle.job_text.specs.declared.writer.Writer.{Writer}
use Rattle.job_text.specs.Parts.{Wrote}
use Rattle.job_layout.specs.Layout.{whole, u32_at, f32_at, column, contents, too_many, gapless, file_size, samples_from}
use Rattle.job_layout.specs.Parts.{plan_of}
use Rattle.job_layout.specs.declared.Numbers.{Numbers}
use Rattle.std.specs.Prelude.{Result, Ok, Err}
use Rattle.std.proofs.lemmas.Bool.{and_parts}
use Rattle.job_layout.proofs.Tables.{holds-within}
use Rattle.job_layout.proofs.Tabled.{table-alike}
use Rattle.job.specs.Printed.{job_run, output_text, printed}
use Rattle.job.specs.Came.{Came, body_size}
use Rattle.job.specs.Parts.{Holding}
use Rattle.job.proofs.Promises.{refused-table}

-- ---- a table and what follows it
module _ (t : List ℕ) (long : length t ≡ 24) (rest : List ℕ) where
  number_at : (at : ℕ) → at + 4 ≤ 24 → u32_at (t ++ rest) at ≡ u32_at t at
  unfolding u32_at
  number_at at h =
      ap whole (
      ap (take 4) (drop-append-le at t rest (omega arith))
      ∙ take-append-le 4 (drop at t) rest (let d = length-drop at t in omega arith)
      )

  pub contents-front : contents (t ++ rest) ≡ contents t
  unfolding contents
  contents-front =
      rw (number_at 0 (omega arith), number_at 4 (omega arith), number_at 8 (omega arith), number_at 12 (omega arith), number_at 16 (omega arith), number_at 20 (omega arith))

  -- ---- A table that says no, whatever follows.
  pub table-breaks : {why : Refusal} → plan_of (contents t) ≡ Err why → printed (t ++ rest) ≡ refused_line (number why)
  unfolding printed plan_of
  table-breaks {why} h =
      let l = length-append t rest in
      rw (contents-front, le-ltb (length (t ++ rest)) 24 (omega arith)) (go (too_many (contents t)) (gapless (contents t)) h)
    where
      held : Result Numbers Refusal
      held = Ok (record { words = (contents t).words; spans = (contents t).spans; samples = (contents t).samples })

      go : (m g : Bool) → cond m (Err Counts) (cond g held (Err Layout)) ≡ Err why
          → cond m (refused_line (number Counts)) (cond (g && eqb (length (t ++ rest)) (file_size (contents t))) (output_text (contents t).spans (job_run (t ++ rest))) (refused_line (number Layout))) ≡ refused_line (number why)
      go true g e = let s : Counts ≡ why = cc in ap (λ (r : Refusal). refused_line (number r)) s
      go false true e = absurd cc
      go false false e = let s : Layout ≡ why = cc in ap (λ (r : Refusal). refused_line (number r)) s

module _ (t : List ℕ) (w s n : ℕ) (long : length t ≡ 24) (holds : plan_of (contents t) ≡ Ok (record { words = w; spans = s; samples = n })) where
  pub says : (too_many (contents t) ≡ false) × ((gapless (contents t) ≡ true) × ((w ≡ (contents t).words) × ((s ≡ (contents t).spans) × (n ≡ (contents t).samples))))
  says = holds-within (contents t) (record { words = w; spans = s; samples = n }) holds

  pub size_is : file_size (contents t) ≡ 24 + 28 * w + 20 * s + 4 * n
  unfolding file_size
  size_is = rw (says.1.1.0, says.1.1.1.0, says.1.1.1.1)

  -- ---- A table that holds, and bodies that do not end where it says.
  pub other_length : (rest : List ℕ) → (length rest ≡ 28 * w + 20 * s + 4 * n → ⊥) → printed (t ++ rest) ≡ refused_line (number Layout)
  unfolding printed
  other_length rest h =
      let l = length-append t rest in
      let z = size_is in
      rw (
        contents-front t long rest,
        le-ltb (length (t ++ rest)) 24 (omega arith),
        says.0,
        says.1.0,
        ne_eqb (length (t ++ rest)) (file_size (contents t)) (λ e. h (omega (arith, e))),
      )

  samples-from : (contents t).samples_at ≡ 24 + 28 * w + 20 * s
  unfolding gapless
  samples-from =
      let c = contents t in
      let a = and_parts (eqb c.words_at 24) (eqb c.spans_at (24 + 28 * c.words) && eqb c.samples_at (24 + 28 * c.words + 20 * c.spans)) says.1.0 in
      let b = and_parts (eqb c.spans_at (24 + 28 * c.words)) (eqb c.samples_at (24 + 28 * c.words + 20 * c.spans)) a.1 in
      eqb-true c.samples_at (24 + 28 * c.words + 20 * c.spans) b.1 ∙ rw (says.1.1.0, says.1.1.1.0)

  -- ---- A table that holds, and bodies as long as it says: what the file holds.
  pub file-holds : (b heard : List ℕ) {ls : List Float} → length b ≡ 28 * w + 20 * s → length heard ≡ 4 * n → ls ≡ levels (samples_from heard 0 n) → Holding (t ++ (b ++ heard)) b ls w s n
  unfolding samples_from column f32_at
  file-holds b heard {ls} l k h = record {
    table = rw front holds;
    long = (let a = length-append t (b ++ heard) in let d = length-append b heard in let z = size_is in rw front (omega arith));
    bodies-are = sym (rw (drop_at t (b ++ heard) 24 long) (take_at b heard (28 * w + 20 * s) l));
    levels-are = h ∙ ap levels (sym (rw (front, samples-from, ← says.1.1.1.1) moved));
  }
    where
      file : List ℕ
      file = t ++ (b ++ heard)

      front : contents file ≡ contents t
      front = contents-front t long (b ++ heard)

      after : drop (24 + 28 * w + 20 * s) file ≡ heard
      after =
          let e : 24 + 28 * w + 20 * s ≡ 24 + (28 * w + 20 * s) = omega arith in
          rw (e, ← drop-drop (28 * w + 20 * s) 24 file, drop_at t (b ++ heard) 24 long) (drop_at b heard (28 * w + 20 * s) l)

      byte : (i : ℕ) → f32_at file (24 + 28 * w + 20 * s + 4 * i) ≡ f32_at heard (0 + 4 * i)
      byte i =
          let z : 0 + 4 * i ≡ 4 * i = omega arith in
          rw z (ap (λ (x : List ℕ). of_bits binary32 (whole (take 4 x))) (sym (drop-drop (4 * i) (24 + 28 * w + 20 * s) file) ∙ ap (drop (4 * i)) after))

      moved : samples_from file (24 + 28 * w + 20 * s) n ≡ samples_from heard 0 n
      moved = table-alike (λ (i : ℕ). f32_at file (24 + 28 * w + 20 * s + 4 * i)) (λ (i : ℕ). f32_at heard (0 + 4 * i)) n 0 (λ i a d. byte i)

-- ---- What is printed for what came.
module _ (came : ℕ) (t bodies : List ℕ) (ls : List Float) (file : List ℕ) (h : Came came t bodies ls file) where
  -- less than a table
  pub came-short : came < 24 → printed file ≡ refused_line (number Layout)
  came-short l = refused-table file (let k = h.long in omega arith)

  module _ (long : length t ≡ 24) (table : 24 ≤ came) where
    abbrev rest : List ℕ
    rest = take (came - 24) (take (body_size (contents t)) bodies ++ (h.samples ++ h.more))

    follows : file ≡ t ++ rest
    follows =
        let e : came ≡ length t + (came - 24) = omega arith in
        h.file-is
        ∙ ap (λ (k : ℕ). take k (t ++ (take (body_size (contents t)) bodies ++ (h.samples ++ h.more)))) e
        ∙ take-append-add t (take (body_size (contents t)) bodies ++ (h.samples ++ h.more)) (came - 24)

    -- a table that says no
    pub came-breaks : {why : Refusal} → plan_of (contents t) ≡ Err why → printed file ≡ refused_line (number why)
    came-breaks b = ap printed follows ∙ table-breaks t long rest b

    module _ (w s n : ℕ) (holds : plan_of (contents t) ≡ Ok (record { words = w; spans = s; samples = n })) where
      -- a table that holds, and another number of bytes
      pub came-other : (came ≡ 24 + (28 * w + 20 * s) + 4 * n → ⊥) → printed file ≡ refused_line (number Layout)
      came-other other =
          ap printed follows
          ∙ other_length t w s n long holds rest (
          λ e. (
          let a = ap length follows in
          let b = length-append t rest in
          let k = h.long in
          other (omega (arith, e, a, b, k))
          )
          )

      -- a table that holds, and all bytes
      pub came-all : came ≡ 24 + (28 * w + 20 * s) + 4 * n → 28 * w + 20 * s ≤ length bodies → Holding file (part 0 (28 * w + 20 * s) bodies) (part 0 (n / 160) ls) w s n
      came-all all fit =
          let a : 28 * w + 20 * s - 0 ≡ 28 * w + 20 * s = omega arith in
          let b : n / 160 - 0 ≡ n / 160 = omega arith in
          rw (a, b)
          (subst (λ (x : List ℕ). Holding x (take (28 * w + 20 * s) bodies) (take (n / 160) ls) w s n) (sym (follows ∙ ap (λ (x : List ℕ). t ++ x) exact))
          (file-holds t w s n long holds (take (28 * w + 20 * s) bodies) h.samples (length-take-le (28 * w + 20 * s) bodies fit) many heard))
        where
          told : (too_many (contents t) ≡ false) × ((gapless (contents t) ≡ true) × ((w ≡ (contents t).words) × ((s ≡ (contents t).spans) × (n ≡ (contents t).samples))))
          told = says t w s n long holds

          whole-file : file_size (contents t) ≤ came
          whole-file = let z = size_is t w s n long holds in omega arith

          many : length h.samples ≡ 4 * n
          many = rw told.1.1.1.1 (h.whole-samples whole-file)

          heard : take (n / 160) ls ≡ levels (samples_from h.samples 0 n)
          heard = rw told.1.1.1.1 (h.levels-are whole-file)

          size : body_size (contents t) ≡ 28 * w + 20 * s
          size = rw (told.1.1.0, told.1.1.1.0)

          exact : rest ≡ take (28 * w + 20 * s) bodies ++ h.samples
          exact =
              rw size (
              ap (take (came - 24)) (sym (append_assoc (take (28 * w + 20 * s) bodies) h.samples h.more))
              ∙ take_at (take (28 * w + 20 * s) bodies ++ h.samples) h.more (came - 24) (
              length-append (take (28 * w + 20 * s) bodies) h.samples
              ∙ (let k = length-take-le (28 * w + 20 * s) bodies fit in omega (arith, k, many))
              )
              )

-- ---- what was written is what is printed
pub refused-text : {n room : ℕ} {x z : Writer} {out : List ℕ} (why : Refusal) → 33088 ≤ room → n ≡ number why → x.at ≡ 0 → out ≡ z.bytes.now
    → Wrote (refused_line n) x z × (z.at ≤ x.at + 64) → (take z.at out ≡ refused_line (number why)) × (z.at ≤ room)
refused-text why fit is first left w = (rw left (rw first at w.0.here ∙ ap refused_line is), let l = w.1 in omega arith)
