-- Where each recording is cut, by computing the search. Assumes nothing.
use mathlib.Core.Path.{◌≡◌, refl}
use Rattle.base.specs.Loop.{each}
use Rattle.pieces.specs.Pieces.{cut, searched, search_turn}
use Rattle.cases.specs.Table.{quiet_frames}

pub all_quiet : cut (quiet_frames 0 2001) 0 ≡ 1599
unfolding cut searched search_turn each
all_quiet = refl

pub none-quiet : cut (quiet_frames 0 0) 0 ≡ 2000
unfolding cut searched search_turn each
none-quiet = refl

pub first-quiet : cut (quiet_frames 1200 8) 0 ≡ 1203
unfolding cut searched search_turn each
first-quiet = refl

pub last-quiet : cut (quiet_frames 1992 8) 0 ≡ 1995
unfolding cut searched search_turn each
last-quiet = refl
