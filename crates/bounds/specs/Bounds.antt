-- How large a time can be: what it says that a time is finite and below 2^13, and by how much each stage can raise a bound on times. Assumes nothing.
use Rattle.std.specs.Prelude.{ℕ, ◌+◌, ◌*◌, ◌≤◌, ◌<◌, ◌^◌, ◌≡◌, false, ◌⊎◌, List, length, get_or, Float}
use Rattle.std.specs.Float.{nan, inf, fin}
use Rattle.std.specs.Float.Ieee.{up, down}
use Rattle.base.specs.Words.{Edges, edges, Words}
use Rattle.base.specs.declared.Times.{Times}
use Rattle.envelope.specs.Envelope.{loud_row}
use Rattle.tails.specs.Tails.{hand_back_tails}
use Rattle.onsets.specs.Onsets.{snap_onsets}
use Rattle.ends.specs.Ends.{snap_ends}

-- ---- A finite number below 2^13 in size.
abbrev pub Small : Float → Type 0
Small nan = ⊥
Small (inf s) = ⊥
Small (fin s m e) = m * up e < 2 ^ 13 * down e

-- ---- Every start and every end is such a number.
pub record SmallTimes (ws : Words) : Type 0 where
  pub starts : (i : ℕ) → i < length ws.starts → Small (get_or ws.starts i nan)
  pub ends : (i : ℕ) → i < length ws.ends → Small (get_or ws.ends i nan)

-- ---- A finite number of at most b / d in size.
abbrev pub UnderIn : ℕ → ℕ → Float → Type 0
UnderIn d b nan = ⊥
UnderIn d b (inf s) = ⊥
UnderIn d b (fin s m e) = m * up e * d ≤ b * down e

-- ---- Every start and every end is such a number.
pub record EdgesUnderIn (d b : ℕ) (es : Edges) : Type 0 where
  pub starts : (i : ℕ) → i < length es.starts → UnderIn d b (get_or es.starts i nan)
  pub ends : (i : ℕ) → i < length es.ends → UnderIn d b (get_or es.ends i nan)

-- ---- In sixty-fourths of a second: the stages on sound.
abbrev pub Under : ℕ → Float → Type 0
Under b x = UnderIn 64 b x

abbrev pub EdgesUnder : ℕ → Edges → Type 0
EdgesUnder b es = EdgesUnderIn 64 b es

-- ======== By how much each stage can raise a bound.

-- ---- An hour, in sixty-fourths of a second: "Samples: 0 to 57,600,000".
abbrev pub hour : ℕ
hour = 230400

-- ---- How many sixty-fourths a turn of snap_ends can add: 8 for 0.12 s, 1 for the way there, 1 for the thousandths.
abbrev pub growth : ℕ
growth = 10

-- ---- The steps of a second, 2^-40 s each, and how many of them a share-out may add.
abbrev pub steps : ℕ
steps = 2 ^ 40

abbrev pub stray : ℕ
stray = 4104

-- ---- A word's slow pace: 120 s at most, in these steps.
abbrev pub slowest : ℕ
slowest = 120 * steps

-- ---- 0.02 s, and what fitting adds for each word.
abbrev pub apart : ℕ
apart = 21990232556

abbrev pub drift : ℕ
drift = apart + 2 * stray

-- ---- 0.04 s, and what the fit of a phrase adds for each word.
abbrev pub shortest : ℕ
shortest = 43980465112

abbrev pub haul : ℕ
haul = drift + stray

-- ---- What the stages before placing leave: 501,761 sixty-fourths of a second.
abbrev pub settling : ℕ
settling = 501761 * 2 ^ 34

-- ======== Times within such a bound.

-- ---- Every time of a list is within b / d.
abbrev pub AllUnder : ℕ → ℕ → List Float → Type 0
AllUnder d b xs = (i : ℕ) → i < length xs → UnderIn d b (get_or xs i nan)

-- ---- n words, each within c.
pub record Timed (n c : ℕ) (es : Edges) : Type 0 where
  pub starts-long : length es.starts ≡ n
  pub ends-long : length es.ends ≡ n
  pub small : EdgesUnderIn steps c es

-- ---- Both times of a word.
abbrev pub TimesUnder : ℕ → Times → Type 0
TimesUnder c w = UnderIn steps c w.start × UnderIn steps c w.end

-- ---- A limit for evening, for words within b: none, and `top` is a slow pace; or one within b + top.
abbrev pub Limit : ℕ → ℕ → Float → Type 0
Limit b top limit = ((limit ≡ inf false) × (slowest ≤ top)) ⊎ UnderIn steps (b + top) limit

-- ---- Tails, onsets and ends in a row, with nothing tested between them.
abbrev pub in_row : Words → List Float → Float → Float → Edges
in_row ws levels floor duration =
    let row = loud_row floor levels in
    snap_ends row duration ws.units (snap_onsets row (hand_back_tails row ws.letters (edges ws.starts ws.ends)))
