-- The first frame at which a sound starts: the code looks for it between indices. Assumes nothing.
use Rattle.std.specs.Prelude.{Option, Some, None}
use Prim.Native.Nat.{ℕ, ◌+◌, ◌-◌, ◌<◌, ◌≤◌, min}
use mathlib.Core.Bool.{Bool, true, false}
use mathlib.Core.List.{List}
use mathlib.Core.Path.{◌≡◌, refl, sym, ap, ◌∙◌}
use native.Mathlib.Omega.{arith}
use native.Mathlib.Numerals.{add-one}
use borrow.Author.Tests.{ltb-true, ltb-false, lt-ltb, le-ltb}
use lib.Dec.{ltb}
use lib.IntN.{ℤ, pos, negsuc, ◌-ℤ◌}
use lib.Signed.{lt_z}
use lib.ListN.{get_or, length}
use lib.Ieee.{Float}
use Rattle.base.specs.Whole.{to_nat, min_z, max_z}
use Rattle.base.specs.Loop.{on, run}
use Rattle.base.specs.Floats.{◌⊕◌, ◌⊖◌}
use Rattle.base.specs.declared.Times.{Times}
use Rattle.base.proofs.Loops.{sub-nat, sub-pos, lt_z-nat, range-pos, run-next, run-stop, run-done}
use Rattle.frames.specs.Frames.{frame_at, frame_from_zero, frame_seconds}
use Rattle.envelope.specs.Envelope.{loud_row}
use Rattle.envelope.proofs.Scan.{length-row}
use Rattle.fit_to_sound.specs.FitToSound.{search_ahead, before_next, is_loud_run, stop_before, stop_at, rise_turn, rise_frame, moved_to, rise_of}
use Rattle.fit_to_sound.specs.Parts.{stop_index, rise_from}

-- ---- the search stands at frame k
module _ (row : List Bool) (stop : ℕ) where
  pub rise-starts : (f : ℕ) → rise_frame row (pos f) (pos stop) ≡ run (rise_turn row) (stop - f) (pos f) (on (pos f))
  unfolding rise_frame
  rise-starts f = range-pos (rise_turn row) f stop (pos f)

  module _ {x : ℤ} (k : ℕ) (is : x ≡ run (rise_turn row) (stop - k) (pos k) (on (pos k))) where
    pub rise-next : k < stop → is_loud_run row (pos k) ≡ false → x ≡ run (rise_turn row) (stop - (k + 1)) (pos (k + 1)) (on (pos (k + 1)))
    rise-next h e = is ∙ run-next (rise_turn row) stop k h (rw (e, add-one))

    pub rise-stop : k < stop → is_loud_run row (pos k) ≡ true → pos k ≡ x
    rise-stop h e = sym (is ∙ run-stop (rise_turn row) stop k h (rw e))

    pub rise-done : stop ≤ k → pos k ≡ x
    rise-done h = sym (is ∙ run-done (rise_turn row) stop k (pos k) h)

-- ---- frames that are not negative
pub from_zero-pos : (t : Float) → frame_from_zero t ≡ pos (to_nat (frame_at t))
unfolding frame_from_zero
from_zero-pos t = go (frame_at t) where
  go : (z : ℤ) → max_z z (pos 0) ≡ pos (to_nat z)
  go (pos n) = rw (le-ltb n 0 (omega arith))
  go (negsuc n) = refl

min_z-pos : (a b : ℕ) → min_z (pos a) (pos b) ≡ pos (min a b)
min_z-pos a b = go (ltb b a) refl where
  go : (t : Bool) → ltb b a ≡ t → min_z (pos a) (pos b) ≡ pos (min a b)
  go true t = let l = ltb-true b a t in rw t (ap pos (omega arith))
  go false t = let l = ltb-false b a t in rw t (ap pos (omega arith))

stop_is : (n : ℕ) → 3 ≤ n → (next : Option Float) (start : Float) {last ahead before stop : ℕ} → last ≡ n - 3
    → ahead ≡ min last (to_nat (frame_at (start ⊕ search_ahead))) → before ≡ stop_index next last → stop ≡ min ahead before → stop_at (pos n) next start ≡ pos stop
unfolding stop_at stop_before stop_index
stop_is n l (Some s) start el ea eb es =
    rw (sub-pos n 3 l, from_zero-pos (start ⊕ search_ahead), from_zero-pos (s ⊖ before_next), min_z-pos, min_z-pos) (ap pos (omega arith))
stop_is n l None start el ea eb es =
    rw (sub-pos n 3 l, from_zero-pos (start ⊕ search_ahead), min_z-pos, min_z-pos) (ap pos (omega arith))

-- ---- a word in silence at frame f
module _ (floor : Float) (levels : List Float) (f : ℕ) (more : f + 3 < length levels) (next : Option Float) (w : Times)
    {last ahead before stop k : ℕ} (el : last ≡ length levels - 3) (ea : ahead ≡ min last (to_nat (frame_at (w.start ⊕ search_ahead))))
    (eb : before ≡ stop_index next last) (es : stop ≡ min ahead before) (ek : pos k ≡ rise_frame (loud_row floor levels) (pos f) (pos stop)) where
  stop-here : stop_at (pos (length (loud_row floor levels))) next w.start ≡ pos stop
  stop-here = rw (length-row floor levels) (stop_is (length levels) (omega arith) next w.start el ea eb es)

  pub rise-met : {s : Float} {r : Times} → k < stop → s ≡ frame_seconds (pos k) → r ≡ moved_to s w → r ≡ rise_from (loud_row floor levels) (pos f) next w
  unfolding rise_from
  rise-met h e er = er ∙ rw (e, stop-here, ← ek, lt-ltb k stop h)

  pub rise-none : stop ≤ k → w ≡ rise_from (loud_row floor levels) (pos f) next w
  unfolding rise_from
  rise-none h = rw (stop-here, ← ek, le-ltb k stop h)

-- ---- a word's start, by the frame it lies in
module _ (floor : Float) (levels : List Float) (next : Option Float) (w : Times) (f : ℕ) (is : f ≡ to_nat (frame_at w.start)) where
  abbrev row : List Bool
  row = loud_row floor levels

  pub start-past : length levels ≤ f + 3 → w ≡ rise_of (loud_row floor levels) next w
  unfolding rise_of
  start-past h = rw (from_zero-pos w.start, length-row floor levels, lt_z-nat, sub-nat (length levels) 3, le-ltb (to_nat (frame_at w.start)) (length levels - 3) (omega arith))

  module _ (more : f + 3 < length levels) where
    there : frame_from_zero w.start ≡ pos f
    there = from_zero-pos w.start ∙ ap pos (omega arith)

    before : lt_z (pos f) (pos (length row) -ℤ pos 3) ≡ true
    before = rw (length-row floor levels, lt_z-nat, sub-nat (length levels) 3) (lt-ltb f (length levels - 3) (omega arith))

    pub start-loud : get_or (loud_row floor levels) f false ≡ true → w ≡ rise_of (loud_row floor levels) next w
    unfolding rise_of
    start-loud e = rw (there, before, e)

    pub start-quiet : {r : Times} → get_or (loud_row floor levels) f false ≡ false → r ≡ rise_from (loud_row floor levels) (pos f) next w → r ≡ rise_of (loud_row floor levels) next w
    unfolding rise_of rise_from
    start-quiet e er = rw (there, before, e) er
