-- The calls on words, by their tests: no test applies exactly when all is within the limits. A call that moves only the words' times keeps its promise (`Judged`, base/specs/Refusals.antt);
-- a refusal changes nothing, and letters, units and keys stay. By reading what the tests find. Assumes nothing.
use Rattle.std.specs.Prelude.{Ok, Err, IsErrAnd}
use Prim.Native.Nat.{ℕ, ◌/◌, ◌≤◌, ◌^◌}
use mathlib.Core.Path.{◌≡◌, refl, sym, ap}
use mathlib.Core.Logic.{◌↔◌, inl, inr}
use mathlib.Core.List.{List, [], ◌∷◌}
use native.Mathlib.Omega.{arith}
use native.Mathlib.Nat.{div-le_self}
use lib.ListN.{length}
use lib.Ieee.{Float}
use Rattle.base.specs.Words.{Words, words, Spans, Edges, edges, with_edges}
use Rattle.base.specs.Refusals.{NoneApplies, accepts, refuses, Judged, says_of, Listed, Rule, says}
use Rattle.base.specs.declared.Refusal.{Refusal}
use Rattle.base.proofs.First.{apart, fine-none, judged, refused}
use Rattle.limits.specs.Order.{when, also, in_order, chain}
use Rattle.limits.specs.declared.Applies.{Applies}
use Rattle.limits.proofs.Joined.{also-exactly}
use Rattle.word_calls.specs.Within.{Within, LimitWithin, WordsWithin, SpansWithin, SoundWithin, PhrasesWithin}
use Rattle.word_calls.specs.Calls.{
  of_words,
  of_samples,
  of_levels,
  of_time,
  of_limit,
  of_spans,
  of_places,
  of_list,
  sound_applies,
  timed_applies,
  limit_applies,
  spans_applies,
  phrases_applies,
  sound_rule,
  timed_rule,
  limit_rule,
  spans_rule,
  phrases_rule,
  output,
  moved,
  Keeps,
}
use Rattle.word_calls.proofs.Within.{words-exactly, levels-exactly, time-exactly, limit-exactly, spans-exactly, places-exactly, list-exactly}

-- ---- a call that moves only times, by what its tests find
module _ (es : Edges) (ws : Words) where
  moved-says : (r : Rule) → says (moved r es ws).answer ≡ says_of tt r
  moved-says (Ok u) = refl
  moved-says (Err q) = refl

  pub moved_keeps : (r : Rule) → Keeps ws (moved r es ws).words
  moved_keeps (Ok u) = record { letters = refl; units = refl; keys = refl }
  moved_keeps (Err q) = record { letters = refl; units = refl; keys = refl }

  pub refusal-keeps : (n : ℕ) (r : Rule) → says (moved r es ws).answer ≡ refuses n → (moved r es ws).words ≡ ws
  refusal-keeps n (Ok u) h = apart h
  refusal-keeps n (Err q) h = refl

  -- accepted, the words have their new edges
  pub accepted-words : (r : Rule) → says (moved r es ws).answer ≡ accepts tt → (moved r es ws).words ≡ with_edges es ws
  accepted-words (Ok u) h = refl
  accepted-words (Err q) h = apart (sym h)

  -- ---- the promise, once for all of them
  pub moved-judged : (a : Applies) {within : Type 0} {numbers : List ℕ} → within ↔ NoneApplies (in_order a) → Listed numbers (in_order a)
      → Judged within numbers (in_order a) tt (says (moved (chain a) es ws).answer)
  unfolding chain
  moved-judged a w l = judged tt w l (moved-says (chain a))

-- ---- which refusals the tests of each can give
module _ (ws : Words) where
  pub listed-sound : (levels samples : ℕ) → Listed (3 ∷ 4 ∷ 1 ∷ 2 ∷ 7 ∷ []) (in_order (sound_applies ws levels samples))
  unfolding in_order also when of_words of_levels of_samples
  listed-sound levels samples =
      (inr (inl refl), (inr (inr (inl refl)), (inr (inr (inr (inl refl))), (inr (inr (inr (inr (inl refl)))), (inr (inr (inr (inr (inr (inl refl))))), (inl refl, (inl refl, tt)))))))

  pub listed-timed : (levels samples : ℕ) (duration : Float) → Listed (3 ∷ 4 ∷ 1 ∷ 2 ∷ 7 ∷ []) (in_order (timed_applies ws levels samples duration))
  unfolding in_order also when of_words of_levels of_samples of_time
  listed-timed levels samples duration =
      (inr (inl refl), (inr (inr (inl refl)), (inr (inr (inr (inl refl))), (inr (inr (inr (inr (inl refl)))), (inr (inr (inr (inr (inr (inl refl))))), (inl refl, (inl refl, tt)))))))

  pub listed-limit : (limit : Float) → Listed (3 ∷ 4 ∷ 1 ∷ 2 ∷ []) (in_order (limit_applies ws limit))
  unfolding in_order also when of_words of_limit
  listed-limit limit = (inr (inl refl), (inr (inr (inl refl)), (inr (inr (inr (inl refl))), (inr (inr (inr (inr (inl refl)))), (inl refl, (inl refl, (inl refl, tt)))))))

  pub listed-spans : (sp : Spans) (places need : ℕ) → Listed (3 ∷ 4 ∷ 1 ∷ 2 ∷ 6 ∷ []) (in_order (spans_applies ws sp places need))
  unfolding in_order also when of_words of_spans of_places
  listed-spans sp places need =
      (inr (inl refl), (inr (inr (inl refl)), (inr (inr (inr (inl refl))), (inr (inr (inr (inr (inl refl)))), (inl refl, (inr (inr (inr (inr (inr (inl refl))))), (inl refl, tt)))))))

  pub listed-phrases : (phrases : ℕ) (sp : Spans) (levels samples places need : ℕ) → Listed (3 ∷ 4 ∷ 1 ∷ 2 ∷ 7 ∷ 6 ∷ []) (in_order (phrases_applies ws phrases sp levels samples places need))
  unfolding in_order also when of_words of_levels of_samples of_list of_spans of_places
  listed-phrases phrases sp levels samples places need = (
    inr (inl refl),
    (
      inr (inr (inl refl)),
      (
        inr (inr (inr (inl refl))),
        (inr (inr (inr (inr (inl refl)))), (inr (inr (inr (inr (inr (inl refl))))), (inr (inr (inr (inr (inr (inr (inl refl)))))), (inl refl, tt)))),
      ),
    ),
  )

-- ---- stages on sound
module _ (ws : Words) (levels samples : ℕ) where
  within-sound : SoundWithin ws levels samples ↔ NoneApplies (in_order (sound_applies ws levels samples))
  within-sound = also-exactly _ _ (words-exactly ws) (levels-exactly levels samples)

  within-timed : (duration : Float) → (SoundWithin ws levels samples × Within duration) ↔ NoneApplies (in_order (timed_applies ws levels samples duration))
  within-timed duration = also-exactly _ _ within-sound (time-exactly duration)

  module _ (es : Edges) where
    pub sound-judged : Judged (SoundWithin ws levels samples) (3 ∷ 4 ∷ 1 ∷ 2 ∷ 7 ∷ []) (in_order (sound_applies ws levels samples)) tt (says (moved (sound_rule ws levels samples) es ws).answer)
    unfolding sound_rule
    sound-judged = moved-judged es ws (sound_applies ws levels samples) within-sound (listed-sound ws levels samples)

    pub timed-judged : (duration : Float)
        → Judged (SoundWithin ws levels samples × Within duration) (3 ∷ 4 ∷ 1 ∷ 2 ∷ 7 ∷ []) (in_order (timed_applies ws levels samples duration)) tt (says (moved (timed_rule ws levels samples duration) es ws).answer)
    unfolding timed_rule
    timed-judged duration = moved-judged es ws (timed_applies ws levels samples duration) (within-timed duration) (listed-timed ws levels samples duration)

  -- ---- what the tests found, for the code
  pub sound-fine : sound_rule ws levels samples ≡ Ok tt → SoundWithin ws levels samples
  unfolding sound_rule chain
  sound-fine h = within-sound.1 (fine-none (in_order (sound_applies ws levels samples)) h)

  pub timed-fine : (duration : Float) → timed_rule ws levels samples duration ≡ Ok tt → SoundWithin ws levels samples
  unfolding timed_rule chain
  timed-fine duration h = ((within-timed duration).1 (fine-none (in_order (timed_applies ws levels samples duration)) h)).0

-- ---- words and a limit for evening
module _ (ws : Words) (limit : Float) where
  within-limit : (WordsWithin ws × LimitWithin limit) ↔ NoneApplies (in_order (limit_applies ws limit))
  within-limit = also-exactly _ _ (words-exactly ws) (limit-exactly limit)

  pub limit-judged : (es : Edges) → Judged (WordsWithin ws × LimitWithin limit) (3 ∷ 4 ∷ 1 ∷ 2 ∷ []) (in_order (limit_applies ws limit)) tt (says (moved (limit_rule ws limit) es ws).answer)
  unfolding limit_rule
  limit-judged es = moved-judged es ws (limit_applies ws limit) within-limit (listed-limit ws limit)

  pub limit-fine : limit_rule ws limit ≡ Ok tt → WordsWithin ws × LimitWithin limit
  unfolding limit_rule chain
  limit-fine h = within-limit.1 (fine-none (in_order (limit_applies ws limit)) h)

-- ---- words, spans, and so many places where so many are needed
module _ (ws : Words) (sp : Spans) (places need : ℕ) where
  pub within-spans : (WordsWithin ws × (SpansWithin sp × (need ≤ places))) ↔ NoneApplies (in_order (spans_applies ws sp places need))
  within-spans = also-exactly _ _ (words-exactly ws) (also-exactly _ _ (spans-exactly sp) (places-exactly places need))

  pub spans-fine : spans_rule ws sp places need ≡ Ok tt → WordsWithin ws × (SpansWithin sp × (need ≤ places))
  unfolding spans_rule chain
  spans-fine h = within-spans.1 (fine-none (in_order (spans_applies ws sp places need)) h)

-- ---- words with so many phrase numbers, spans, levels and samples, and so many places where so many are needed
module _ (ws : Words) (phrases : ℕ) (sp : Spans) (levels samples places need : ℕ) where
  pub within-phrases : PhrasesWithin ws phrases sp levels samples places need ↔ NoneApplies (in_order (phrases_applies ws phrases sp levels samples places need))
  within-phrases =
      also-exactly _ _ (within-sound ws levels samples)
      (also-exactly _ _ (list-exactly phrases (length ws.starts)) (also-exactly _ _ (spans-exactly sp) (places-exactly places need)))

  pub phrases-judged : (es : Edges)
      → Judged (PhrasesWithin ws phrases sp levels samples places need) (3 ∷ 4 ∷ 1 ∷ 2 ∷ 7 ∷ 6 ∷ []) (in_order (phrases_applies ws phrases sp levels samples places need)) tt
      (says (moved (phrases_rule ws phrases sp levels samples places need) es ws).answer)
  unfolding phrases_rule
  phrases-judged es = moved-judged es ws (phrases_applies ws phrases sp levels samples places need) within-phrases (listed-phrases ws phrases sp levels samples places need)

  pub phrases-fine : phrases_rule ws phrases sp levels samples places need ≡ Ok tt → PhrasesWithin ws phrases sp levels samples places need
  unfolding phrases_rule chain
  phrases-fine h = within-phrases.1 (fine-none (in_order (phrases_applies ws phrases sp levels samples places need)) h)

-- an hour has few levels
pub few-levels : {levels samples : ℕ} → (samples ≤ 57600000) × (levels ≡ samples / 160) → levels ≤ 2 ^ 40
few-levels {levels} {samples} h = let d = div-le_self samples 160 in omega (arith, h.0, h.1)

-- ---- the call, by what its tests found
module _ (rule : Rule) (es : Edges) (ws : Words) where
  pub refused-made : {out : Rule} {why : Refusal} → IsErrAnd out (λ (x : Refusal). x ≡ why) → Err why ≡ rule → output out ws ≡ moved rule es ws
  refused-made h f = rw (refused _ h, ← f) refl

  pub moved_made : (s e : List Float) → Ok tt ≡ rule → edges s e ≡ es → output (Ok tt) (words s e ws.letters ws.units ws.keys) ≡ moved rule es ws
  moved_made s e f m = rw (← f) (ap (λ (x : Edges). output (Ok tt) (with_edges x ws)) m)
