-- What is written for an answer is what is printed for it. Assumes nothing.
use Rattle.std.specs.Prelude.{Ok, Err, Result}
use Prim.Native.Nat.{ℕ, zero, suc, ◌+◌, ◌*◌, ◌≤◌}
use mathlib.Core.Path.{◌≡◌, refl, ap, ◌∙◌, subst}
use mathlib.Core.List.{List, ◌∷◌, ◌++◌}
use native.Mathlib.Omega.{arith}
use lib.ListN.{length, take, replicate}
use lib.Ieee.{Float}
use Rattle.base.specs.Loop.{table}
use Rattle.base.specs.Refusals.{number}
use Rattle.base.specs.declared.Refusal.{Refusal}
use Rattle.job_text.specs.Text.{refused_line, piece_lines, word_lines}
use Rattle.job_text.specs.declared.writer.Writer.{Writer}
use Rattle.job_text.specs.Parts.{Wrote, NoNans}
use Rattle.full_run.specs.declared.Report.{Report}
use Rattle.job.specs.Printed.{answer_text}
use Rattle.job.specs.Parts.{Printable}

-- ---- places that all hold one value
pub table_same : {A : Type 0} (v : A) (n i : ℕ) → table (λ (k : ℕ). v) n i ≡ replicate n v
unfolding table
table_same v zero i = refl
table_same v (suc n) i = ap (λ (l : List _). v ∷ l) (table_same v n (suc i))

-- ---- what holds of the places written holds of the list that was lent for them
pub lent : {xs ys t : List ℕ} {at room : ℕ} → xs ≡ ys → (take at ys ≡ t) × (at ≤ room) → (take at xs ≡ t) × (at ≤ room)
lent e h = rw e h

-- ---- an answer
module _ (a : Result Report Refusal) (starts ends : List Float) (phrases firsts lasts : List ℕ) (room : ℕ) (ready : Printable a starts ends phrases firsts lasts room) where
  pub refused-fits : {why : Refusal} → a ≡ Err why → 64 ≤ room
  unfolding Printable
  refused-fits e = subst (λ (b : Result Report Refusal). Printable b starts ends phrases firsts lasts room) e ready

  accepted-fits : (report : Report) → a ≡ Ok report → Printable (Ok report) starts ends phrases firsts lasts room
  accepted-fits report e = subst (λ (b : Result Report Refusal). Printable b starts ends phrases firsts lasts room) e ready

  pub pieces-fit : (report : Report) → a ≡ Ok report → (report.pieces ≤ length firsts) × ((report.pieces ≤ length lasts) × (0 + 64 * report.pieces ≤ room))
  unfolding Printable
  pieces-fit report e = let f = accepted-fits report e in (f.0, (f.1.0, omega (arith, f.1.1.1.1.1.0)))

  pub words-fit : (report : Report) {next more : ℕ} → a ≡ Ok report → next ≤ 0 + 64 * report.pieces → more ≡ room
      → (report.words ≤ length starts) × ((report.words ≤ length ends) × ((report.words ≤ length phrases) × ((next + 64 * report.words ≤ more) × (NoNans report.words starts × NoNans report.words ends))))
  unfolding Printable
  words-fit report e l same =
      let f = accepted-fits report e in
      let g = f.1.1.1.1.1.0 in
      (f.1.1.0, (f.1.1.1.0, (f.1.1.1.1.0, (omega arith, f.1.1.1.1.1.1))))

  pub refused-written : (spans : ℕ) {why : Refusal} {n : ℕ} {x z : Writer} → a ≡ Err why → n ≡ number why → x.at ≡ 0 → Wrote (refused_line n) x z × (z.at ≤ x.at + 64)
      → (take z.at z.bytes.now ≡ answer_text spans a starts ends phrases firsts lasts) × (z.at ≤ room)
  unfolding answer_text
  refused-written spans e is first w =
      let f = refused-fits e in
      (rw first at w.0.here ∙ rw (e, is), let l = w.1 in omega arith)

  pub accepted-written : (spans : ℕ) (report : Report) {x y z : Writer} → a ≡ Ok report → x.at ≡ 0 → Wrote (piece_lines firsts lasts report.pieces) x y × (y.at ≤ x.at + 64 * report.pieces)
      → Wrote (word_lines spans starts ends phrases report.words) y z × (z.at ≤ y.at + 64 * report.words)
      → (take z.at z.bytes.now ≡ answer_text spans a starts ends phrases firsts lasts) × (z.at ≤ room)
  unfolding Printable answer_text
  accepted-written spans report e first p w =
      let f = accepted-fits report e in
      let g = f.1.1.1.1.1.0 in
      let k = p.1 in
      let l = w.1 in
      (w.0.here ∙ ap (λ (t : List ℕ). t ++ word_lines spans starts ends phrases report.words) (rw first at p.0.here) ∙ rw e, omega arith)
