-- phrase_align.rs, align_phrases after alignment, line by line, and document 01, "Placing in phrases". Assumes nothing.
use Rattle.base.specs.declared.Refusal.{Refusal}
use Rattle.std.specs.Prelude.{ℕ, ◌+◌, ◌≤◌, min, cond, List, [], ◌++◌, eqb, get_or, length, drop, replicate, Ok, Err, Result}
use Rattle.std.specs.Float.{nan}
use Rattle.base.specs.Loop.{each}
use Rattle.base.specs.Words.{Words, words, Spans, edges, with_edges, count, part, in_places, words_in_places}
use Rattle.base.specs.Refusals.{Rule}
use Rattle.spread.specs.Spread.{place_group}
use Rattle.word_calls.specs.Within.{WordsWithin, SpansWithin}
use Rattle.word_calls.specs.Calls.{spans_rule}

-- ======== phrase_align.rs: the part of `align_phrases` after alignment, line by line, and what document 01, "Placing in phrases", adds to it.

-- ---- struct PhraseWords: the words placed so far, the number of each one's phrase; and k, how many words the spans so far count.
pub record Placing : Type 0 where
  pub words : Words
  pub phrases : List ℕ
  pub k : ℕ

-- ---- all[a..e].to_vec()
unfoldable pub group_of : ℕ → ℕ → Words → Words
group_of a e all = words (part a e all.starts) (part a e all.ends) (part a e all.letters) (part a e all.units) (part a e all.keys)

-- ---- out.words.extend(group)
unfoldable pub extend : Words → Words → Words
extend out group =
    words (out.starts ++ group.starts) (out.ends ++ group.ends) (out.letters ++ group.letters) (out.units ++ group.units) (out.keys ++ group.keys)

-- ---- The group's words, placed in span number p.
unfoldable pub placed_in : Spans → ℕ → Words → Words
placed_in spans p group =
    with_edges (place_group group.letters (get_or spans.starts p nan) (get_or spans.ends p nan) (edges group.starts group.ends)) group

-- ---- for (pi, span) in phrases.iter().enumerate(): the span takes its count of words, and a span that gets none is left out.
unfoldable pub place_turn : Words → Spans → ℕ → Placing → Placing
place_turn all spans p out =
    let k = out.k + get_or spans.counts p 0 in
    let group = group_of (min out.k (count all)) (min k (count all)) all in
    cond (eqb (count group) 0) (record { words = out.words; phrases = out.phrases; k = k })
    (record { words = extend out.words (placed_in spans p group); phrases = out.phrases ++ replicate (count group) p; k = k })

-- ---- align_phrases
unfoldable pub align_phrases : Words → Spans → Placing
align_phrases all spans = each (place_turn all spans) (length spans.starts) 0 (record { words = words [] [] [] [] []; phrases = []; k = 0 })

-- ---- "Surplus words are dropped, and the places past the new count, up to the old one, become zero, phrase numbers too. Needs a phrase place for
-- every word given; further ones stay."
pub record Placed : Type 0 where
  pub words : Words
  pub phrases : List ℕ

unfoldable pub in_their_places : Placing → ℕ → List ℕ → Placed
in_their_places out places phrases =
    record { words = words_in_places places out.words; phrases = in_places 0 places out.phrases ++ drop places phrases }

-- ======== What the public call answers and leaves: "The new count is given back."

-- ---- "How much is taken", of placing: words and spans within the limits; "Needs a phrase place for every word given".
pub record PlacesWithin (ws : Words) (spans : Spans) (phrases : List ℕ) : Type 0 where
  pub words-within : WordsWithin ws
  pub spans-within : SpansWithin spans
  pub enough : count ws ≤ length phrases

pub record Output : Type 0 where
  pub answer : Result ℕ Refusal
  pub words : Words
  pub phrases : List ℕ

abbrev pub output : Result ℕ Refusal → Words → List ℕ → Output
output a ws phrases = record { answer = a; words = ws; phrases = phrases }

abbrev pub accepted : Placing → ℕ → List ℕ → Output
accepted out places phrases =
    let left = in_their_places out places phrases in output (Ok (count out.words)) left.words left.phrases

abbrev pub by_rule : Rule → Words → Spans → List ℕ → Output
by_rule (Ok u) ws spans phrases = accepted (align_phrases ws spans) (count ws) phrases
by_rule (Err r) ws spans phrases = output (Err r) ws phrases

-- ---- Refusals 3, 4, 1, 2, 6, in this order.
unfoldable pub align_call : Words → Spans → List ℕ → Output
align_call ws spans phrases = by_rule (spans_rule ws spans (length phrases) (count ws)) ws spans phrases
