-- Calls on words: which refusals apply, and what a call answers and leaves that moves only times. Assumes nothing.
use Rattle.base.specs.Refusals.{Rule}
use Rattle.std.specs.Prelude.{ℕ, ◌≡◌, Bool, ◌||◌, length, Float, Ok, Err}
use Rattle.base.specs.Words.{Words, Spans, Edges, with_edges}
use Rattle.base.specs.declared.Refusal.TheVariants.{Time, Letters, Lengths, Counts, Places, Levels}
use Rattle.limits.specs.Limits.{differ, many, many_samples, few_places, other_levels, bad_time, bad_limit, bad_word_times, bad_span_times, bad_letters, bad_counts}
use Rattle.limits.specs.Order.{when, also, chain}
use Rattle.limits.specs.declared.Applies.{Applies}

-- ---- 3: of a word's five lists, one is not as long as the starts.
unfoldable pub uneven : ℕ → ℕ → ℕ → ℕ → ℕ → Bool
uneven starts ends letters units keys = differ ends starts || (differ letters starts || (differ units starts || differ keys starts))

-- ---- What applies of a word list: 3, 4, 1, 2.
unfoldable pub of_words : Words → Applies
of_words ws =
    also (when (uneven (length ws.starts) (length ws.ends) (length ws.letters) (length ws.units) (length ws.keys)) Lengths)
    (also (when (many (length ws.starts)) Counts)
    (also (when (bad_word_times ws.starts ws.ends) Time)
    (when (bad_letters ws.letters ws.units) Letters)))

-- ---- What applies of so many samples: 4.
unfoldable pub of_samples : ℕ → Applies
of_samples samples = when (many_samples samples) Counts

-- ---- What applies of so many levels, of a recording of so many samples: 4, 7.
unfoldable pub of_levels : ℕ → ℕ → Applies
of_levels levels samples = also (of_samples samples) (when (other_levels levels samples) Levels)

-- ---- What applies of a time that is no word's, as a duration: 1.
unfoldable pub of_time : Float → Applies
of_time t = when (bad_time t) Time

-- ---- What applies of a limit for evening: 1.
unfoldable pub of_limit : Float → Applies
of_limit t = when (bad_limit t) Time

-- ---- 3: of a span's three lists, one is not as long as the starts.
unfoldable pub uneven_spans : ℕ → ℕ → ℕ → Bool
uneven_spans starts ends counts = differ ends starts || differ counts starts

-- ---- 4: too many spans, or too large a span count.
unfoldable pub many_spans : Spans → Bool
many_spans sp = many (length sp.starts) || bad_counts sp.counts

-- ---- What applies of a list of spans: 3, 4, 1.
unfoldable pub of_spans : Spans → Applies
of_spans sp =
    also (when (uneven_spans (length sp.starts) (length sp.ends) (length sp.counts)) Lengths)
    (also (when (many_spans sp) Counts)
    (when (bad_span_times sp.starts sp.ends) Time))

-- ---- What applies of so many places, of which so many are needed: 6.
unfoldable pub of_places : ℕ → ℕ → Applies
of_places places need = when (few_places places need) Places

-- ---- What applies of one list more that belongs to so many words, as their phrase numbers: 3.
unfoldable pub of_list : ℕ → ℕ → Applies
of_list list words = when (differ list words) Lengths

-- ---- The tests of a stage on sound, and the first that applies: 3, 4, 1, 2, 7.
abbrev pub sound_applies : Words → ℕ → ℕ → Applies
sound_applies ws levels samples = also (of_words ws) (of_levels levels samples)

unfoldable pub sound_rule : Words → ℕ → ℕ → Rule
sound_rule ws levels samples = chain (sound_applies ws levels samples)

-- ---- The same, with a duration among the times.
abbrev pub timed_applies : Words → ℕ → ℕ → Float → Applies
timed_applies ws levels samples duration = also (sound_applies ws levels samples) (of_time duration)

unfoldable pub timed_rule : Words → ℕ → ℕ → Float → Rule
timed_rule ws levels samples duration = chain (timed_applies ws levels samples duration)

-- ---- Those of words and a limit for evening: 3, 4, 1, 2.
abbrev pub limit_applies : Words → Float → Applies
limit_applies ws limit = also (of_words ws) (of_limit limit)

unfoldable pub limit_rule : Words → Float → Rule
limit_rule ws limit = chain (limit_applies ws limit)

-- ---- Those of words, spans, and so many places where so many are needed: 3, 4, 1, 2, 6.
abbrev pub spans_applies : Words → Spans → ℕ → ℕ → Applies
spans_applies ws sp places need = also (of_words ws) (also (of_spans sp) (of_places places need))

unfoldable pub spans_rule : Words → Spans → ℕ → ℕ → Rule
spans_rule ws sp places need = chain (spans_applies ws sp places need)

-- ---- Those of words with so many phrase numbers, spans, levels and samples, and so many places where so many are needed: 3, 4, 1, 2, 7, 6.
abbrev pub phrases_applies : Words → ℕ → Spans → ℕ → ℕ → ℕ → ℕ → Applies
phrases_applies ws phrases sp levels samples places need =
    also (sound_applies ws levels samples) (also (of_list phrases (length ws.starts)) (also (of_spans sp) (of_places places need)))

unfoldable pub phrases_rule : Words → ℕ → Spans → ℕ → ℕ → ℕ → ℕ → Rule
phrases_rule ws phrases sp levels samples places need = chain (phrases_applies ws phrases sp levels samples places need)

-- ---- What a call gives back that moves the words' times, and what the words are afterwards.
pub record Output : Type 0 where
  pub answer : Rule
  pub words : Words

abbrev pub output : Rule → Words → Output
output a ws = record { answer = a; words = ws }

-- ---- By what its tests find: the words with their new edges, or the words as they are.
abbrev pub moved : Rule → Edges → Words → Output
moved (Ok u) es ws = output (Ok tt) (with_edges es ws)
moved (Err r) es ws = output (Err r) ws

-- ---- What no such call changes: letters, units and keys.
pub record Keeps (before after : Words) : Type 0 where
  pub letters : after.letters ≡ before.letters
  pub units : after.units ≡ before.units
  pub keys : after.keys ≡ before.keys
