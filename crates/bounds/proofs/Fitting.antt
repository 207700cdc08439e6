-- fit_to_sound lets a time grow by 0.02 s for each word, for a start may be put so long after the one before it; once by the last word's slow pace, 120 s, where words are evened with
-- no limit; and twice by what evening adds for each run. Else a word starts at a frame of the row, and ends half a second later or at a time that is there already. Assumes nothing.
use Rattle.std.specs.Prelude.{Option, Some, None}
use Prim.Native.Nat.{ℕ, suc, ◌+◌, ◌-◌, ◌*◌, ◌<◌, ◌≤◌, ◌^◌}
use mathlib.Core.Bool.{Bool, true, false, cond, not, ◌&&◌, ◌||◌, true≢false}
use mathlib.Core.List.{List}
use mathlib.Core.Logic.{inl, inr}
use mathlib.Core.Path.{◌≡◌, refl, sym, ◌∙◌}
use native.Mathlib.Nat.{le_refl, mul-pos, mul-le-mul_right}
use native.Mathlib.Omega.{arith}
use borrow.Author.Tests.{ltb-true, le-ltb, not-false}
use lib.IntN.{ℤ, pos, negsuc, suc_ℤ, nat_abs, ◌-ℤ◌}
use lib.Dec.{ltb, lit<, lit≤}
use lib.Signed.{lt_z}
use lib.ListN.{length, get_or, length-set}
use lib.Ieee.{Float, nan, inf, fin, binary64, up, down, round, sum, add, sub, neg, of_bits, lt, le, is_nan}
use lib.Ieee.Fits.{down_pos}
use Rattle.base.specs.Whole.{to_nat, min_z, max_z}
use Rattle.base.specs.Loop.{on, out}
use Rattle.base.specs.Floats.{◌⊕◌, ◌⊖◌, ◌⊗◌, num, Most}
use Rattle.base.specs.Words.{Edges, times, times_at, set_times, loose, end_silence}
use Rattle.base.specs.declared.Times.{Times}
use Rattle.base.proofs.Loops.{Holds, run_holds, each_holds, lt_z-nat, sub-nat}
use Rattle.js.specs.Js.{js_min, js_max}
use Rattle.frames.specs.Frames.{frame_at, frame_from_zero, frame_seconds}
use Rattle.envelope.specs.Envelope.{loud}
use Rattle.word_calls.specs.Within.{AllFrom}
use Rattle.ends.specs.Ends.{last_loud, sound_end, next_start, or_duration}
use Rattle.even.specs.Even.{even_out}
use Rattle.fit_to_sound.specs.FitToSound.{min_step, search_ahead, max_keep, loud_run, step_start, in_order, order_turn, put_in_order, is_loud_run, stop_before, stop_at, rise_turn, rise_frame, moved_to, rise_of, rise_turn_of, move_to_rise, clipped, clip_turn, clip, max_need, letter_time, sound_end_in, quiet_run, cut_back, lasts_to, ended_by, end_of, end_turn, settle_ends, fit_to_sound}
use Rattle.bounds.specs.Bounds.{UnderIn, steps, stray, slowest, apart, drift, Timed, TimesUnder}
use Rattle.share.specs.Drifts.{farthest}
use Rattle.bounds.proofs.Rounding.{under_more, under-finer, under-number, round-signed, round_under, add-under, max-under, min-under}
use Rattle.bounds.proofs.Seconds.{hour-under}
use Rattle.bounds.proofs.Stored.{set-under}
use Rattle.bounds.proofs.Sides.{Side, under-side, side-more, min-side, above-under}
use Rattle.bounds.proofs.Ending.{SoundUnder, last-heard, sound-under}
use Rattle.bounds.proofs.Sharing.{timed-more}
use Rattle.bounds.proofs.Evening.{coarse, even-under}

step-under : UnderIn steps apart min_step
unfolding of_bits
step-under = lit≤ tt

-- ---- half a second
keep-under : UnderIn steps (2 ^ 39) max_keep
unfolding of_bits
keep-under = lit≤ tt

keep-whole : UnderIn 1 16384 max_keep
unfolding of_bits
keep-whole = lit≤ tt

-- ---- the time of a frame of an hour
pub frame-under : (c : ℕ) (k : ℤ) → 3600 * steps ≤ c → nat_abs k ≤ 360000 → UnderIn steps c (frame_seconds k)
frame-under c k l h = under_more steps (3600 * steps) c (frame_seconds k) l (under-finer 64 (2 ^ 34) 230400 (frame_seconds k) (hour-under 230400 k (le_refl 230400) h))

either : (c : ℕ) (t : Bool) (v w : Times) → (t ≡ true → TimesUnder c v) → (t ≡ false → TimesUnder c w) → TimesUnder c (cond t v w)
either c true v w h k = h refl
either c false v w h k = k refl

pub at-timed : (n c i : ℕ) (es : Edges) → i < n → Timed n c es → TimesUnder c (times_at es i)
at-timed n c i es l t = (t.small.starts i (omega (arith, t.starts-long)), t.small.ends i (omega (arith, t.ends-long)))

pub set-timed : (n c i : ℕ) (es : Edges) (w : Times) → Timed n c es → TimesUnder c w → Timed n c (set_times es i w)
set-timed n c i es w t u = record {
  starts-long = length-set es.starts i w.start ∙ t.starts-long;
  ends-long = length-set es.ends i w.end ∙ t.ends-long;
  small = record { starts = set-under steps c es.starts i w.start t.small.starts (λ l. u.0); ends = set-under steps c es.ends i w.end t.small.ends (λ l. u.1) };
}

-- ---- put in order: each turn adds 0.02 s
module _ (duration : Float) (n : ℕ) where
  order-turn : (c i : ℕ) (es : Edges) → c + apart < 2 ^ 53 → UnderIn steps c duration → i < n → Timed n c es → Timed n (c + apart) (order_turn duration i es)
  unfolding order_turn in_order
  order-turn c i es C d l t =
      set-timed n (c + apart) i es (in_order duration (times (step_start es.starts i) end)) (timed-more n c (c + apart) es (omega arith) t)
      (first, min-under steps (c + apart) duration (js_max end (step_start es.starts i)) (more duration d) (max-under steps (c + apart) end (step_start es.starts i) (more end (at-timed n c i es l t).1) first))
    where
      end : Float
      end = get_or es.ends i nan

      more : (x : Float) → UnderIn steps c x → UnderIn steps (c + apart) x
      more x h = under_more steps c (c + apart) x (omega arith) h

      first : UnderIn steps (c + apart) (step_start es.starts i)
      first = unfold step_start in go (ltb 0 i)
        where
          own : UnderIn steps (c + apart) (get_or es.starts i nan)
          own = more (get_or es.starts i nan) (at-timed n c i es l t).0

          go : (b : Bool) → UnderIn steps (c + apart) (cond b (js_max (get_or es.starts i nan) (get_or es.starts (i - 1) nan ⊕ min_step)) (get_or es.starts i nan))
          go true =
              max-under steps (c + apart) (get_or es.starts i nan) (get_or es.starts (i - 1) nan ⊕ min_step) own
              (add-under 40 (lit≤ tt) c apart (get_or es.starts (i - 1) nan) min_step C (at-timed n c (i - 1) es (omega arith) t).0 step-under)
          go false = own

  order-under : (b : ℕ) (es : Edges) → b + apart * n < 2 ^ 53 → UnderIn steps b duration → Timed n b es → Timed n (b + apart * n) (put_in_order duration es)
  unfolding put_in_order
  order-under b es B d t =
      each_holds (λ (i : ℕ) (s : Edges). Timed n (b + apart * i) s) (order_turn duration) n
      (λ i s l p. timed-more n (b + apart * i + apart) (b + apart * suc i) (order_turn duration i s) (omega arith)
      (order-turn (b + apart * i) i s (omega arith) (under_more steps b (b + apart * i) duration (omega arith) d) l p))
      (length es.starts) 0 es (omega (arith, t.starts-long)) (timed-more n b (b + apart * 0) es (omega arith) t)

-- ---- a sum is no further above zero than its parts are
neg-under : (d b : ℕ) (x : Float) → UnderIn d b x → UnderIn d b (neg x)
unfolding neg
neg-under d b nan h = h
neg-under d b (inf s) h = h
neg-under d b (fin s m e) h = h

pub sub-under : (k : ℕ) → k ≤ 1074 → (a b : ℕ) (x y : Float) → a + b < 2 ^ 53 → UnderIn (2 ^ k) a x → UnderIn (2 ^ k) b y → UnderIn (2 ^ k) (a + b) (x ⊖ y)
unfolding sub
sub-under k K a b x y l h i = add-under k K a b x (neg y) l h (neg-under (2 ^ k) b y i)

below-side : (d n b : ℕ) (x : Float) → Most true n 1 x → Side d false b x
below-side d n b nan h = absurd h
below-side d n b (inf t) h = absurd h
below-side d n b (fin t m e) h = λ z. absurd (true≢false (sym h.0 ∙ z))

add-above : (a b : ℕ) (x y : Float) → a + b < 2 ^ 53 → UnderIn steps a x → UnderIn 1 8192 x → UnderIn 1 16384 y → Side steps false b y → Side steps false (a + b) (x ⊕ y)
unfolding add sum
add-above a b nan y l h u v q = absurd h
add-above a b (inf s) y l h u v q = absurd h
add-above a b (fin s m e) nan l h u v q = absurd v
add-above a b (fin s m e) (inf t) l h u v q = absurd v
add-above a b (fin s m e) (fin false n g) l h u v q = under-side steps false (a + b) (fin s m e ⊕ fin false n g) (add-under 40 (lit≤ tt) a b (fin s m e) (fin false n g) l h (q refl))
add-above a b (fin s m e) (fin true n g) l h u v q = signs s
  where
    A : ℕ
    A = m * up e * down g

    B : ℕ
    B = n * up g * down e

    C : ℕ
    C = down e * down g

    C-pos : 0 < C
    C-pos = mul-pos (down_pos e) (down_pos g)

    both : (X E Y G : ℕ) → X * 1 ≤ 8192 * E → Y * 1 ≤ 16384 * G → (X * G + Y * E) * 1 ≤ 24576 * (E * G)
    both X E Y G h i =
        let p : X * 1 * G ≤ 8192 * E * G = mul-le-mul_right G h in
        let q : Y * 1 * E ≤ 16384 * G * E = mul-le-mul_right E i in omega arith

    one : (X E Y G : ℕ) → X * steps ≤ a * E → (X * G - Y * E) * steps ≤ (a + b) * (E * G)
    one X E Y G h =
        let p : X * steps * G ≤ a * E * G = mul-le-mul_right G h in
        let q : (X * G - Y * E) * steps ≤ X * G * steps = mul-le-mul_right steps (omega arith) in omega arith

    less : (A B N : ℕ) → (A + B) * 1 ≤ N → (B - A) * 1 ≤ N
    less A B N h = omega arith

    all : (A + B) * 1 ≤ 24576 * C
    all = both (m * up e) (down e) (n * up g) (down g) u v

    low : (k : ℕ) → k * 1 ≤ 24576 * C → Side steps false (a + b) (round binary64 true k C)
    low k r = below-side steps 24576 (a + b) (round binary64 true k C) (round-signed 0 (lit≤ tt) true k C 24576 C-pos (lit< tt) r)

    signs : (s : Bool) → Side steps false (a + b) (sum binary64 s A true B C)
    signs true = low (A + B) all
    signs false = go (ltb A B)
      where
        go : (r : Bool) → Side steps false (a + b) (cond r (round binary64 true (B - A) C) (round binary64 false (A - B) C))
        go true = low (B - A) (less A B (24576 * C) all)
        go false = under-side steps false (a + b) (round binary64 false (A - B) C) (round_under 40 (lit≤ tt) false (A - B) C (a + b) C-pos l (one (m * up e) (down e) (n * up g) (down g) h))

-- ---- a frame from zero on, and below where the search stops
abbrev FromZero : ℤ → Type 0
FromZero (pos j) = Unit {0}
FromZero (negsuc j) = ⊥

from_zero : (t : Float) → FromZero (frame_from_zero t)
unfolding frame_from_zero
from_zero t = go (frame_at t)
  where
    go : (z : ℤ) → FromZero (max_z z (pos 0))
    go (pos n) = rw (le-ltb n 0 (omega arith)) tt
    go (negsuc n) = tt

after-zero : (k : ℤ) → FromZero k → FromZero (suc_ℤ k)
after-zero (pos j) h = tt
after-zero (negsuc j) h = absurd h

rise-zero : (row : List Bool) (f stop : ℤ) → FromZero f → FromZero (rise_frame row f stop)
unfolding rise_frame
rise-zero row f stop h = run_holds (rise_turn row) FromZero FromZero turn after-zero (to_nat (stop -ℤ f)) f (on f) h h
  where
    turn : (k s : ℤ) → FromZero k → FromZero s → Holds FromZero (rise_turn row k s)
    turn k s q p = go (is_loud_run row k)
      where
        go : (t : Bool) → Holds FromZero (cond t (out k) (on (suc_ℤ k)))
        go true = q
        go false = after-zero k q

min-low : (x y : ℤ) → to_nat (min_z x y) ≤ to_nat x
min-low x y = go (lt_z y x) refl
  where
    lower : (x y : ℤ) → lt_z y x ≡ true → to_nat y ≤ to_nat x
    lower (pos a) (pos b) h = omega (arith, ltb-true b a h)
    lower (pos a) (negsuc b) h = omega arith
    lower (negsuc a) (pos b) h = absurd (true≢false (sym h))
    lower (negsuc a) (negsuc b) h = omega arith

    go : (t : Bool) → lt_z y x ≡ t → to_nat (cond t y x) ≤ to_nat x
    go true t = lower x y t
    go false t = omega arith

stop-in : (n : ℕ) (next : Option Float) (start : Float) (k : ℤ) → FromZero k → lt_z k (stop_at (pos n) next start) ≡ true → nat_abs k ≤ n
unfolding stop_at
stop-in n next start (negsuc j) z h = absurd z
stop-in n next start (pos j) z h = omega (arith, l, min-low inner last, min-low (pos n -ℤ pos loud_run) ahead, sub-nat n loud_run)
  where
    ahead : ℤ
    ahead = frame_from_zero (start ⊕ search_ahead)

    inner : ℤ
    inner = min_z (pos n -ℤ pos loud_run) ahead

    last : ℤ
    last = stop_before (pos n) next

    l : j < to_nat (min_z inner last)
    l = ltb-true j (to_nat (min_z inner last)) (sym (lt_z-nat j (min_z inner last)) ∙ h)

module _ (row : List Bool) (short : length row ≤ 360000) (c : ℕ) (large : 3601 * steps ≤ c) (C : c ≤ farthest) where
  -- ---- moved to its sound: it lasts half a second from there at the most, or to its old end
  moved-under : (k : ℤ) (w : Times) → nat_abs k ≤ 360000 → TimesUnder c w → TimesUnder c (moved_to (frame_seconds k) w)
  unfolding moved_to
  moved-under k w h u = (frame-under c k (omega arith) h, above-under steps c w.end (start ⊕ keep) u.1 above number)
    where
      start : Float
      start = frame_seconds k

      lasts : Float
      lasts = w.end ⊖ w.start

      keep : Float
      keep = js_min max_keep lasts

      lasts-whole : UnderIn 1 16384 lasts
      lasts-whole = sub-under 0 (lit≤ tt) 8192 8192 w.end w.start (lit< tt) (coarse c w.end C u.1) (coarse c w.start C u.0)

      whole : UnderIn 1 16384 keep
      whole = min-under 1 16384 max_keep lasts keep-whole lasts-whole

      start-whole : UnderIn 1 8192 start
      start-whole = coarse c start C (frame-under c k (omega arith) h)

      above : Side steps false c (start ⊕ keep)
      above =
          side-more steps false (3600 * steps + 2 ^ 39) c (start ⊕ keep) (omega arith)
          (add-above (3600 * steps) (2 ^ 39) start keep (lit< tt) (frame-under (3600 * steps) k (le_refl (3600 * steps)) h) start-whole whole
          (min-side steps (2 ^ 39) max_keep lasts (under-number 1 16384 lasts lasts-whole) (under-side steps false (2 ^ 39) max_keep keep-under)))

      number : is_nan (start ⊕ keep) ≡ false
      number = under-number 1 24576 (start ⊕ keep) (add-under 0 (lit≤ tt) 8192 16384 start keep (lit< tt) start-whole whole)

  rise_one : (next : Option Float) (w : Times) → TimesUnder c w → TimesUnder c (rise_of row next w)
  unfolding rise_of
  rise_one next w u =
      let frames : ℤ = pos (length row) in
      let f : ℤ = frame_from_zero w.start in
      let stop : ℤ = stop_at frames next w.start in
      let k : ℤ = rise_frame row f stop in
      either c (not (lt_z f (frames -ℤ pos loud_run)) || loud row f) w (cond (not (lt_z k stop)) w (moved_to (frame_seconds k) w)) (λ t. u) (λ t.
      either c (not (lt_z k stop)) w (moved_to (frame_seconds k) w) (λ t. u) (λ t.
      moved-under k w (omega (arith, stop-in (length row) next w.start k (rise-zero row f stop (from_zero w.start)) (not-false (lt_z k stop) t))) u))

  rise-under : (n : ℕ) (es : Edges) → Timed n c es → Timed n c (move_to_rise row es)
  unfolding move_to_rise rise_turn_of
  rise-under n es t =
      each_holds (λ (i : ℕ) (s : Edges). Timed n c s) (rise_turn_of row) n
      (λ i s l p. set-timed n c i s (rise_of row (next_start s.starts i) (times_at s i)) p (rise_one (next_start s.starts i) (times_at s i) (at-timed n c i s l p)))
      (length es.starts) 0 es (omega (arith, t.starts-long)) t

-- ---- clipped to the next start
clip-under : (n c : ℕ) (es : Edges) → Timed n c es → Timed n c (clip es)
unfolding clip clip_turn clipped
clip-under n c es t =
    each_holds (λ (i : ℕ) (s : Edges). Timed n c s) clip_turn (length es.starts - 1)
    (λ i s l p. set-timed n c i s (clipped (get_or s.starts (i + 1) nan) (times_at s i)) p (one i s (omega (arith, l, t.starts-long)) p))
    (length es.starts - 1) 0 es (omega arith) t
  where
    one : (i : ℕ) (s : Edges) → i + 1 < n → Timed n c s → TimesUnder c (clipped (get_or s.starts (i + 1) nan) (times_at s i))
    one i s l p =
        let w : Times = times_at s i in
        let u : TimesUnder c w = at-timed n c i s (omega arith) p in
        let next : Float = get_or s.starts (i + 1) nan in
        either c (lt next w.end) (times w.start (js_max w.start next)) w
        (λ h. (u.0, max-under steps c w.start next u.0 (at-timed n c (i + 1) s l p).0)) (λ h. u)

-- ---- ends settled: at the sound's end, or at the next start
module _ (row : List Bool) (short : length row ≤ 360000) (c : ℕ) (large : 3600 * steps ≤ c) where
  abbrev SoundIn : Option Float → Type 0
  SoundIn None = Unit {0}
  SoundIn (Some s) = UnderIn steps c s

  abbrev NextIn : Option Float → Type 0
  NextIn (Some s) = UnderIn steps c s
  NextIn None = Unit {0}

  sound-in : (from to : Float) → SoundIn (sound_end_in row from to)
  unfolding sound_end_in
  sound-in from to = go (sound_end last) (sound-under row 230400 short (le_refl 230400) (lit< tt) last (last-heard row 230400 short (le_refl 230400) (lit< tt) end_silence (frame_from_zero from) bound))
    where
      bound : ℤ
      bound = min_z (pos (length row)) (frame_from_zero to)

      last : ℤ
      last = last_loud end_silence row (frame_from_zero from) bound

      go : (x : Option Float) → SoundUnder row 230400 short (le_refl 230400) (lit< tt) x → SoundIn x
      go None h = tt
      go (Some s) h = under_more steps (3600 * steps) c s large (under-finer 64 (2 ^ 34) 230400 s h)

  next-in : (n i : ℕ) (es : Edges) → Timed n c es → NextIn (next_start es.starts i)
  unfolding next_start
  next-in n i es t = go (ltb (i + 1) (length es.starts)) refl
    where
      go : (b : Bool) → ltb (i + 1) (length es.starts) ≡ b → NextIn (cond b (Some (get_or es.starts (i + 1) nan)) None)
      go true b = t.small.starts (i + 1) (ltb-true (i + 1) (length es.starts) b)
      go false b = tt

  lasts-under : (next : Option Float) (end : Float) (w : Times) → NextIn next → UnderIn steps c end → TimesUnder c w → TimesUnder c (lasts_to row next end w)
  unfolding lasts_to
  lasts-under (Some s) end w h e u = either c (lt w.end s && not (quiet_run row w.end s)) (times w.start s) w (λ t. (u.0, h)) (λ t. u)
  lasts-under None end w h e u = either c (lt w.end end) (times w.start end) w (λ t. (u.0, e)) (λ t. u)

  cut-under : (letters : ℕ) (end : Float) (w : Times) → UnderIn steps c end → TimesUnder c w → TimesUnder c (cut_back letters end w)
  unfolding cut_back
  cut-under letters end w e u =
      either c (lt (end ⊕ loose) w.end && le (js_min max_need (letter_time ⊗ num letters)) (end ⊖ w.start)) (times w.start end) w (λ t. (u.0, e)) (λ t. u)

  ended-under : (next : Option Float) (letters : ℕ) (x : Option Float) (w : Times) → NextIn next → SoundIn x → TimesUnder c w → TimesUnder c (ended_by row next letters x w)
  unfolding ended_by
  ended-under next letters None w h s u = u
  ended-under next letters (Some end) w h s u = lasts-under next end (cut_back letters end w) h s (cut-under letters end w s u)

  settle-under : (duration : Float) (letters : List ℕ) (n : ℕ) (es : Edges) → Timed n c es → Timed n c (settle_ends row duration letters es)
  unfolding settle_ends end_turn end_of
  settle-under duration letters n es t =
      each_holds (λ (i : ℕ) (s : Edges). Timed n c s) (end_turn row duration letters) n
      (λ i s l p.
      let next : Option Float = next_start s.starts i in
      let w : Times = times_at s i in
      set-timed n c i s (end_of row duration next (get_or letters i 0) w) p
      (ended-under next (get_or letters i 0) (sound_end_in row w.start (or_duration next duration)) w (next-in n i s p) (sound-in w.start (or_duration next duration)) (at-timed n c i s l p)))
      (length es.starts) 0 es (omega (arith, t.starts-long)) t

module _ (letters : List ℕ) (ls : AllFrom 1 1000 letters) (few : length letters ≤ 4096) (row : List Bool) (short : length row ≤ 360000) (duration : Float) (b : ℕ) (large : 3601 * steps ≤ b)
    (wide : b + 2 * slowest + drift * length letters ≤ farthest) (d : UnderIn steps b duration) where
  pub fit-under : (es : Edges) → Timed (length letters) b es → Timed (length letters) (b + slowest + drift * length letters) (fit_to_sound row duration letters es)
  unfolding fit_to_sound
  fit-under es t =
      let n : ℕ = length letters in
      let c : ℕ = b + apart * n in
      let ordered : Edges = put_in_order duration es in
      let risen : Edges = move_to_rise row ordered in
      let placed : Edges = clip risen in
      let evened : Edges = even_out letters (inf false) placed in
      let settled : Edges = settle_ends row duration letters evened in
      let c' : ℕ = c + slowest + stray * n in
      let t₁ : Timed n c ordered = order-under duration n b es (omega arith) d t in
      let t₂ : Timed n c risen = rise-under row short c (omega arith) (omega arith) n ordered t₁ in
      let t₃ : Timed n c placed = clip-under n c risen t₂ in
      let t₄ : Timed n c' evened = even-under letters ls few (inf false) c slowest (inl (refl, le_refl slowest)) (omega arith) (omega arith) placed t₃ in
      let t₅ : Timed n c' settled = settle-under row short c' (omega arith) duration letters n evened t₄ in
      timed-more n (c' + 0 + stray * n) (b + slowest + drift * n) (even_out letters duration settled) (omega arith)
      (even-under letters ls few duration c' 0 (inr (under_more steps b (c' + 0) duration (omega arith) d)) (omega arith) (omega arith) settled t₅)
