use Prim.Native.Nat.{ℕ, ◌-◌}
use mathlib.Core.Path.{◌≡◌}
use lib.ListN.{length}
use Rattle.base.specs.Loop.{each}
use Rattle.base.specs.Words.{edges, times_at}
use Rattle.fit_file.specs.PhrasedWords.{edges_of, SameLists}
use Rattle.envelope.specs.Envelope.{loud_row}
use Rattle.fit_file.specs.FitFile.{fit_phrase, fit_file}
use Rattle.fit_file.proofs.each_phrase.fit_phrases.Given as goal

abbrev pub invariant-loop-p : goal.invariant-loop-p
invariant-loop-p l =
    SameLists l.initial.w l.w × ((length l.w.starts.now ≡ length l.initial.w.starts.now)
    × (fit_file (loud_row l.e.floor l.e.levels.now) l.duration l.initial.w.letters.now l.initial.w.phrases.now (edges l.span_starts l.span_ends) (edges_of l.initial.w)
    ≡ each (λ (q : ℕ). fit_phrase (loud_row l.e.floor l.e.levels.now) l.duration l.initial.w.letters.now l.initial.w.phrases.now (times_at (edges l.span_starts l.span_ends) q) q)
    (length l.span_starts - l.p) l.p (edges_of l.w)))
