use Prim.Native.Nat.{◌-◌, ◌≤◌}
use mathlib.Core.Path.{◌≡◌}
use lib.ListN.{length}
use Rattle.base.specs.Loop.{each}
use Rattle.base.specs.SpanList.{spans_of}
use Rattle.base.specs.TimedWords.{SameLists}
use Rattle.phrase_align.specs.Parts.{held, held_turn, held_spans}
use Rattle.phrase_align.proofs.place.place_spans.Given as goal

abbrev pub invariant-loop-p : goal.invariant-loop-p
invariant-loop-p l = SameLists l.initial.w l.w × ((l.at ≤ length l.letters) × ((length l.w.starts.now ≡ length l.letters) × ((length l.phrases ≡ length l.initial.phrases)
    × (held_spans l.letters (spans_of l.spans) (held l.initial.w.starts.now l.initial.w.ends.now l.initial.phrases 0) ≡ each (held_turn l.letters (spans_of l.spans)) (length l.spans.counts.now - l.p) l.p (held l.w.starts.now l.w.ends.now l.phrases l.at)))))
