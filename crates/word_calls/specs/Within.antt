-- Document 01, "How much is taken": the limits in plain words. Assumes nothing.
use Rattle.std.specs.Prelude.{ℕ, ◌/◌, ◌≤◌, ◌<◌, ◌≡◌, true, false, ◌⊎◌, List, length, get_or, Float}
use Rattle.std.specs.Float.{nan, inf}
use Rattle.std.specs.Float.Ieee.{le}
use Rattle.base.specs.Words.{Words, Spans}
use Rattle.limits.specs.Limits.{least, most}

-- ---- "Times, spans, duration: finite, -7,200 to 7,200 inclusive": NaN and the infinities are not from the least to the most.
abbrev pub Within : Float → Type 0
Within t = (le least t ≡ true) × (le t most ≡ true)

-- ---- "a limit for evening may also be +infinity"
abbrev pub LimitWithin : Float → Type 0
LimitWithin t = Within t ⊎ (t ≡ inf false)

-- ---- Every time of a list is within its range; every number of a list is from the least to the most.
abbrev pub AllWithin : List Float → Type 0
AllWithin ts = (i : ℕ) → i < length ts → Within (get_or ts i nan)

abbrev pub AllFrom : ℕ → ℕ → List ℕ → Type 0
AllFrom a b ns = (i : ℕ) → i < length ns → (a ≤ get_or ns i 0) × (get_or ns i 0 ≤ b)

-- ---- Words: five lists of one length; "Words and spans: 0 to 4,096 each." "Letters 1 to 1,000, units 1 to 10,000, key any u32."
pub record WordsWithin (ws : Words) : Type 0 where
  pub ends-as-long : length ws.ends ≡ length ws.starts
  pub letters-as-long : length ws.letters ≡ length ws.starts
  pub units-as-long : length ws.units ≡ length ws.starts
  pub keys-as-long : length ws.keys ≡ length ws.starts
  pub few : length ws.starts ≤ 4096
  pub starts-within : AllWithin ws.starts
  pub ends-within : AllWithin ws.ends
  pub letters-from-1 : AllFrom 1 1000 ws.letters
  pub units-from-1 : AllFrom 1 10000 ws.units

-- ---- Spans: three lists of one length; "A span's word count: 0 to 4,096."
pub record SpansWithin (sp : Spans) : Type 0 where
  pub ends-as-long : length sp.ends ≡ length sp.starts
  pub counts-as-long : length sp.counts ≡ length sp.starts
  pub few : length sp.starts ≤ 4096
  pub counts-to-4096 : AllFrom 0 4096 sp.counts
  pub starts-within : AllWithin sp.starts
  pub ends-within : AllWithin sp.ends

-- ---- Words on sound: "Samples: 0 to 57,600,000", and as many levels as "samples / 160, rounded down".
abbrev pub SoundWithin : Words → ℕ → ℕ → Type 0
SoundWithin ws levels samples = WordsWithin ws × ((samples ≤ 57600000) × (levels ≡ samples / 160))

-- ---- The same with spans: a phrase number for each word, and no "too few places for the result or work space".
abbrev pub PhrasesWithin : Words → ℕ → Spans → ℕ → ℕ → ℕ → ℕ → Type 0
PhrasesWithin ws phrases sp levels samples places need =
    SoundWithin ws levels samples × ((phrases ≡ length ws.starts) × (SpansWithin sp × (need ≤ places)))
