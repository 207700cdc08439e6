-- One word: what each test of the code decides, and what its times become. Assumes nothing.
use Rattle.std.specs.Prelude.{Option, Some, None}
use Prim.Native.Nat.{ℕ, ◌+◌, ◌<◌}
use mathlib.Core.Bool.{Bool, true, false, ◌&&◌}
use mathlib.Core.List.{List}
use mathlib.Core.Path.{◌≡◌, refl, sym, ap}
use borrow.Author.Tests.{ltb-true}
use lib.Dec.{ltb}
use lib.ListN.{length}
use lib.Ieee.{Float, lt}
use Rattle.base.specs.Floats.{◌⊕◌, ◌⊖◌}
use Rattle.base.specs.Words.{times}
use Rattle.base.specs.declared.Times.{Times}
use Rattle.js.specs.Js.{js_min, js_max}
use Rattle.ends.specs.Ends.{no_length, next_start, is_pair, trimmed, pair_start, pair_edge, pair_of}
use Rattle.ends.specs.Parts.{is_loose}

module _ (starts : List Float) (i : ℕ) where
  -- a pair has a next word
  pub pair-in : {next : Option Float} (w : Times) → next ≡ next_start starts i → is_pair next w ≡ true → i + 1 < length starts
  unfolding is_pair next_start
  pair-in w e p = ltb-true (i + 1) (length starts) (go (ltb (i + 1) (length starts)) refl) where
    never : (a : Bool) → (a && false) ≡ true → false ≡ true
    never true h = h
    never false h = h

    go : (t : Bool) → ltb (i + 1) (length starts) ≡ t → t ≡ true
    go true t = refl
    go false t = never (lt (w.end ⊖ w.start) no_length) (rw (e, t) at p)

-- ---- two words with no length: what the first becomes, by the start and the edge between them
pub pair_is : {s e : Float} (row : List Bool) (w : Times) (next_end : Float) (own other : ℕ) → s ≡ pair_start row w.start next_end → e ≡ pair_edge s next_end own other
    → times s e ≡ pair_of row w next_end own other
unfolding pair_of
pair_is row w next_end own other es ee = rw (ee, es)

-- ---- a word's end, cut back to its sound
module _ (sound : Float) (w : Times) where
  module _ (limit : Float) where
    pub trim-loose : {x y : Float} → is_loose sound w ≡ true → y ≡ js_min sound limit → x ≡ js_max (w.start ⊕ no_length) y → times w.start x ≡ trimmed (Some sound) limit w
    unfolding trimmed is_loose
    trim-loose t ey ex = rw (t, ex, ey)

    pub trim-tight : is_loose sound w ≡ false → w ≡ trimmed (Some sound) limit w
    unfolding trimmed is_loose
    trim-tight t = rw t

pub trim-none : {sound : Option Float} (limit : Float) (w : Times) → sound ≡ None → w ≡ trimmed sound limit w
unfolding trimmed
trim-none limit w e = rw e

pub trim-some : {sound : Option Float} {s : Float} {r : Times} (limit : Float) (w : Times) → sound ≡ Some s → r ≡ trimmed (Some s) limit w → r ≡ trimmed sound limit w
trim-some limit w e h = rw e h

-- ---- cutting back moves the end only
pub trim_start : (sound : Option Float) (limit : Float) (w : Times) → (trimmed sound limit w).start ≡ w.start
unfolding trimmed
trim_start None limit w = refl
trim_start (Some s) limit w = go (is_loose s w) refl where
  go : (t : Bool) → is_loose s w ≡ t → (trimmed (Some s) limit w).start ≡ w.start
  go true t = sym (ap (λ (v : Times). v.start) (trim-loose s w limit t refl refl))
  go false t = sym (ap (λ (v : Times). v.start) (trim-tight s w limit t))
