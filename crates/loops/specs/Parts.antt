-- What only the contracts of the unchecked core cite; a reader of the public call may skip it. Assumes nothing.
use Rattle.std.specs.Prelude.{ℕ, ◌+◌, cond, List, [], ◌≡◌, get_or, set}
use Rattle.std.specs.Float.{nan}
use Rattle.base.specs.Words.{Words, words, count, words_in_places}
use Rattle.loops.specs.Loops.{drained, is_loop, copies_end, max_run, drain, collapse_loops}
use Rattle.base.specs.Loop.{each}
use Rattle.loops.specs.declared.Left.{Left}

-- ======== `copy`

-- ---- The word at place `from`, at place `to` too.
unfoldable pub moved : ℕ → ℕ → Words → Words
moved to from ws =
    words (set ws.starts to (get_or ws.starts from nan)) (set ws.ends to (get_or ws.ends from nan))
    (set ws.letters to (get_or ws.letters from 0)) (set ws.units to (get_or ws.units from 0)) (set ws.keys to (get_or ws.keys from 0))

-- ---- Keys, as words of which nothing else is looked at.
abbrev pub only_keys : List ℕ → Words
only_keys keys = words [] [] [] [] keys

-- ---- Where a pass stands, the keys are those before place `to`, and those from place `from` on.
unfoldable pub held_keys : ℕ → ℕ → List ℕ → Words
held_keys to from keys = only_keys (drained to from keys)

-- ---- Where the words go on behind the first copy at place i: behind its other copies, if these are a loop.
unfoldable pub goes_on : ℕ → ℕ → Words → ℕ
goes_on n i ws = cond (is_loop n i ws) (copies_end n ws i) (i + n)

-- ======== `pass`

-- ---- A place, a pass and all passes, of the words alone.
unfoldable pub turn_words : ℕ → ℕ → Words → Words
turn_words n i ws = drain (i + n) (goes_on n i ws) ws

unfoldable pub pass_words : ℕ → Words → Words
pass_words n ws = each (turn_words n) (count ws) 0 ws

unfoldable pub loop_words : Words → Words
loop_words ws = each pass_words max_run 1 ws

-- ======== The call

-- ---- What the unchecked core leaves, and gives back: the words in their places, their count, and whether a loop was found.
pub record Collapsing (left : Left) (before after : Words) : Type 0 where
  pub words : after ≡ words_in_places (count before) (collapse_loops before).words
  pub count : left.count ≡ count (collapse_loops before).words
  pub found : left.found ≡ (collapse_loops before).found
