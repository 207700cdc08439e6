-- What only the contracts of unchecked parts cite; a reader of the public call may skip it. Assumes nothing.
use Rattle.full_run.specs.declared.Report.{Report}
use Rattle.base.specs.declared.Refusal.{Refusal}
use Rattle.base.specs.Refusals.{Rule}
use Rattle.std.specs.Prelude.{ℕ, ◌/◌, ◌≡◌, List, Float, Ok, Err, Result}
use Rattle.base.specs.Words.{Words, Spans, count, words_in_places}
use Rattle.limits.specs.Order.{also}
use Rattle.limits.specs.declared.Applies.{Applies}
use Rattle.word_calls.specs.Calls.{of_words, of_samples, of_spans, of_places}
use Rattle.envelope.specs.Envelope.{hop}
use Rattle.pieces.specs.Pieces.{need}
use Rattle.pieces.specs.Parts.{starts_over, ends_over}
use Rattle.run_stages.specs.Stages.{Run}
use Rattle.full_run.specs.FullRun.{report_of}

-- ======== `rule`

-- ---- What applies, by the number of samples and of places. 7 has no test: the run makes its own levels, samples / 160 of them.
unfoldable pub applies_to : ℕ → Words → Spans → ℕ → ℕ → ℕ → ℕ → Applies
applies_to samples ws spans phrases levels pieces work =
    also (also (of_words ws) (also (of_spans spans) (of_samples samples)))
    (also (of_places levels (samples / hop)) (also (of_places pieces (need (samples / hop))) (also (of_places phrases (count ws)) (of_places work (count ws)))))

-- ======== `heard`

-- ---- What a run answers, by what the tests find; and, where it is accepted, what the lent places hold.
unfoldable pub Heard : Rule → Float → Run → Result Report Refusal → Words → Words → List ℕ → List ℕ → List ℕ → List ℕ → List ℕ → Type 0
Heard (Ok u) f run a given after numbers starts₀ ends₀ starts ends =
    (a ≡ Ok (report_of f run))
    × ((after ≡ words_in_places (count given) run.words)
    × ((numbers ≡ run.phrases)
    × ((starts ≡ starts_over run.pieces starts₀)
    × (ends ≡ ends_over run.pieces ends₀))))
Heard (Err why) f run a given after numbers starts₀ ends₀ starts ends = a ≡ Err why
