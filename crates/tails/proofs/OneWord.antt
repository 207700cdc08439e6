-- One word of hand_back_tails, return by return of the code: a start that lands on a tail is in the recording, so its frame is the one that the
-- code has. Assumes nothing.
use Prim.Native.Nat.{ℕ, ◌+◌, ◌-◌, ◌<◌, ◌≤◌, min, max}
use mathlib.Core.Bool.{Bool, true, false, cond, not, ◌&&◌, ◌||◌}
use mathlib.Core.List.{List}
use mathlib.Core.Path.{◌≡◌, refl, sym, ap, ◌∙◌, subst}
use native.Mathlib.Omega.{arith}
use borrow.Author.Tests.{eqb-false, lt-ltb, le-ltb}
use lib.Dec.{ltb, eqb}
use lib.IntN.{ℤ, pos, negsuc, ◌-ℤ◌}
use lib.ListN.{length}
use lib.Ieee.{Float, le}
use Rattle.base.specs.Whole.{to_nat}
use Rattle.base.specs.Floats.{◌⊖◌, ◌⊗◌, num}
use Rattle.base.specs.Words.{times, edge_quiet, loose}
use Rattle.base.proofs.Loops.{sub-pos}
use Rattle.js.specs.Js.{js_max}
use Rattle.frames.specs.Frames.{frame_at, frame_seconds}
use Rattle.envelope.specs.Envelope.{loud, loud_row}
use Rattle.envelope.specs.Parts.{Throughout, IsFirst}
use Rattle.envelope.proofs.Scan.{loud-in, length-row}
use Rattle.tails.specs.Tails.{min_letter, past_loud, past_quiet, own_sound, neighbours, hand_back}
use Rattle.tails.specs.Parts.{across, lands, three}
use Rattle.tails.specs.declared.one_word.Neighbours.{Neighbours}
use Rattle.tails.proofs.Long.{long-anyway}
use Rattle.tails.proofs.Searches.{across-is, Stops, stops-near, stops-on, met_some, past_loud-is, past_quiet-is, past_quiet-none, own_sound-is, own_sound-none}

test-no : (a x y : Bool) → cond a false (x && y) ≡ false → (a || (not x || not y)) ≡ true
test-no true x y h = refl
test-no false true true h = sym h
test-no false true false h = refl
test-no false false y h = refl

test-go : (a x y : Bool) → cond a false (x && y) ≡ true → (a || (not x || not y)) ≡ false
test-go true x y h = sym h
test-go false true true h = refl
test-go false true false h = sym h
test-go false false y h = sym h

right-one : (a : Bool) → (a || true) ≡ true
right-one true = refl
right-one false = refl

nat-pos : (z : ℤ) (n : ℕ) → to_nat z ≡ n → 0 < n → z ≡ pos n
nat-pos (pos m) n e h = ap pos e
nat-pos (negsuc m) n e h = absurd (omega arith)

clash : {A : Type 0} {b : Bool} → b ≡ true → b ≡ false → A
clash p q = absurd (let z : ◌≡◌ {A = ℕ} 0 1 = cc in omega arith)

two : (a b c : Bool) → cond a false (cond b c false) ≡ true → (a ≡ false) × (c ≡ true)
two true b c h = clash h refl
two false true c h = (refl, h)
two false false c h = clash h refl

second : (a b : Bool) → cond a false b ≡ true → b ≡ true
second true b h = clash h refl
second false b h = h

-- a search that went 5,001 frames on ended before hi
far-inside : (f hi t : ℕ) → t ≤ max f (min hi (f + 5001)) → 5001 ≤ t - f → t ≤ hi
far-inside f hi t h l = omega arith

up_to : (t hi : ℕ) → t ≤ hi → t + (hi - t) ≡ hi
up_to t hi h = omega arith

-- the frames of a sound that goes on beyond that
frames-far : (f t r : ℕ) → 5001 ≤ t - f → t ≤ r → 5001 ≤ r - f
frames-far f t r l a = omega arith

-- what hand_back does once the start has landed
unfoldable hand_from : List Bool → ℤ → ℤ → Neighbours → ℕ → Neighbours
hand_from row f bound p letters =
    let tail_end = past_loud row f bound in
    cond (le (min_letter ⊗ num letters) (frame_seconds (tail_end -ℤ f))) p
    (let q = past_quiet row tail_end bound in
    cond (ltb q.quiet edge_quiet || not (own_sound row q.k bound)) p
    (neighbours (times p.prev.start (js_max p.prev.end (frame_seconds tail_end))) (times (frame_seconds q.k) p.w.end)))

-- ---- f is the frame of the start, and hi that of the end, among the frames that exist
module _ (floor : Float) (levels : List Float) (p : Neighbours) (letters f : ℕ) (isf : f ≡ to_nat (frame_at p.w.start)) where
  row : List Bool
  row = loud_row floor levels

  len : length row ≡ length levels
  unfolding row
  len = length-row floor levels

  apart : Bool
  apart = le loose (p.w.start ⊖ p.prev.end)

  lands-is : lands row p.prev.end p.w.start f ≡ cond apart false (loud row (frame_at p.w.start -ℤ pos 1) && loud row (frame_at p.w.start))
  unfolding lands apart
  lands-is = rw (across-is row (frame_at p.w.start) f isf)

  pub tail-early : lands (loud_row floor levels) p.prev.end p.w.start f ≡ false → p ≡ hand_back (loud_row floor levels) p letters
  unfolding hand_back row apart
  tail-early h = rw (test-no apart (loud row (frame_at p.w.start -ℤ pos 1)) (loud row (frame_at p.w.start)) (sym lands-is ∙ h))

  -- a start that lands on a tail is in the recording
  place : lands row p.prev.end p.w.start f ≡ true → frame_at p.w.start ≡ pos f
  unfolding lands across apart
  place h =
      let t = two (eqb f 0) (loud row (pos (f - 1))) (loud row (pos f)) (second apart (across row f) h) in
      nat-pos (frame_at p.w.start) f (sym isf) (omega (arith, eqb-false f 0 t.0))

  pub lands-in : lands (loud_row floor levels) p.prev.end p.w.start f ≡ true → f < length levels
  unfolding lands across apart row
  lands-in h =
      let t = two (eqb f 0) (loud row (pos (f - 1))) (loud row (pos f)) (second apart (across row f) h) in
      let l = loud-in row f t.1 in omega (arith, len)

  landed : lands row p.prev.end p.w.start f ≡ true → hand_back row p letters ≡ hand_from row (pos f) (frame_at p.w.end) p letters
  unfolding hand_back hand_from apart
  landed h = rw (test-go apart (loud row (frame_at p.w.start -ℤ pos 1)) (loud row (frame_at p.w.start)) (sym lands-is ∙ h), place h)

  -- the search for the tail's end may be cut short, 5,001 frames from f
  module _ (hi far t : ℕ) (ishi : hi ≡ min (length levels) (to_nat (frame_at p.w.end))) (isfar : far ≡ min hi (f + 5001))
      (h : lands (loud_row floor levels) p.prev.end p.w.start f ≡ true) (cut_short : Stops (loud_row floor levels) false f far t) where
    bound : ℤ
    bound = frame_at p.w.end

    cut : hi ≡ min (length row) (to_nat bound)
    unfolding bound
    cut = omega (arith, len)

    short-stop : Stops row false f (min hi (f + 5001)) t
    unfolding row
    short-stop = subst (λ (n : ℕ). Stops (loud_row floor levels) false f n t) isfar cut_short

    -- a sound that goes on for 5,001 frames is long for any word
    pub tail-far : letters ≤ 1000 → 5001 ≤ t - f → p ≡ hand_back (loud_row floor levels) p letters
    unfolding row hand_from bound
    tail-far few l =
        let inside = far-inside f hi t short-stop.to l in
        let s = met_some row false (hi - t) t in
        let m = stops-on row false f hi (f + 5001) t short-stop (subst (λ (n : ℕ). Stops row false t n s.0) (up_to t hi inside) s.1) in
        rw (landed h, past_loud-is row bound hi cut f s.0 m, sub-pos s.0 f m.from, long-anyway letters (s.0 - f) few (frames-far f t s.0 l s.1.from))

    module _ (near : t - f < 5001) where
      m : Stops row false f hi t
      m = stops-near row false f hi (f + 5001) t short-stop (let a = short-stop.from in omega arith)

      tail_end-is : past_loud row (pos f) bound ≡ pos t
      unfolding row
      tail_end-is = past_loud-is row bound hi cut f t m

      pub tail-long : le (min_letter ⊗ num letters) (frame_seconds (pos (t - f))) ≡ true → p ≡ hand_back (loud_row floor levels) p letters
      unfolding row hand_from bound
      tail-long l = rw (landed h, tail_end-is, sub-pos t f m.from, l)

      module _ (l : le (min_letter ⊗ num letters) (frame_seconds (pos (t - f))) ≡ false) where
        -- the last test of the definition: `continue` or not
        rejects : Bool
        rejects = ltb (past_quiet row (pos t) bound).quiet edge_quiet || not (own_sound row (past_quiet row (pos t) bound).k bound)

        keeps : rejects ≡ true → p ≡ hand_back row p letters
        unfolding row hand_from rejects bound
        keeps r = rw (landed h, tail_end-is, sub-pos t f m.from, l, r)

        pub tail-last : Throughout (loud_row floor levels) false t hi → p ≡ hand_back (loud_row floor levels) p letters
        unfolding row rejects
        tail-last quiet =
            let n : own_sound row (past_quiet row (pos t) bound).k bound ≡ false =
            rw (past_quiet-none row bound hi cut t quiet) (own_sound-none row bound hi cut (max t (to_nat bound)) (omega arith)) in
            keeps (rw n (right-one (ltb (past_quiet row (pos t) bound).quiet edge_quiet)))

        module _ (k : ℕ) (v : IsFirst (loud_row floor levels) true t hi k) where
          some_is : rejects ≡ (ltb (k - t) edge_quiet || not (three row hi k))
          unfolding rejects row
          some_is = rw (past_quiet-is row bound hi cut t k v, own_sound-is row bound hi cut k)

          pub tail-close : k - t < 8 → p ≡ hand_back (loud_row floor levels) p letters
          unfolding row
          tail-close s = keeps (some_is ∙ rw (lt-ltb (k - t) 8 s))

          pub tail-thin : three (loud_row floor levels) hi k ≡ false → p ≡ hand_back (loud_row floor levels) p letters
          unfolding row
          tail-thin s = keeps (some_is ∙ rw s (right-one (ltb (k - t) edge_quiet)))

          pub tail-hands : {a x b : Float} → 8 ≤ k - t → three (loud_row floor levels) hi k ≡ true → a ≡ js_max p.prev.end x → x ≡ frame_seconds (pos t) → b ≡ frame_seconds (pos k)
              → neighbours (times p.prev.start a) (times b p.w.end) ≡ hand_back (loud_row floor levels) p letters
          unfolding row hand_from rejects bound
          tail-hands n s ea ex eb =
              let r : rejects ≡ false = some_is ∙ rw (s, le-ltb (k - t) 8 n) in
              rw (landed h, tail_end-is, sub-pos t f m.from, l, r, past_quiet-is row bound hi cut t k v, ea, ex, eb)
