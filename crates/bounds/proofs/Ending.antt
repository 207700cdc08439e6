-- snap_ends lets the times grow by ten sixty-fourths a word at most. Of two words with no length the shared edge lies part of the way between two
-- times, of which the later may be 0.12 s later than any before, and is rounded to a thousandth; any other word ends 0.06 s after its start, or at a time that is
-- there already, or at a frame of the row. Assumes nothing.
use Rattle.std.specs.Prelude.{Option, Some, None}
use Prim.Native.Nat.{ℕ, suc, ◌+◌, ◌*◌, ◌<◌, ◌≤◌, ◌^◌}
use mathlib.Core.Bool.{Bool, true, false, cond, ◌&&◌, ◌||◌}
use mathlib.Core.List.{List}
use mathlib.Core.Path.{◌≡◌, refl, sym, ap, ◌∙◌, subst}
use native.Mathlib.Nat.{le_of_mul-le-mul_right}
use native.Mathlib.Omega.{arith}
use borrow.Author.Tests.{ltb-true}
use lib.IntN.{ℤ, pos, negsuc, nat_abs, ◌-ℤ◌}
use lib.Dec.{leb, ltb, lit<, lit≤}
use lib.Signed.{non_neg}
use lib.ListN.{length, get_or, set, length-set}
use lib.Ieee.{Float, nan, inf, fin, binary64, up, down, round, of_bits, lt}
use lib.Ieee.Fits.{down_pos}
use Rattle.base.specs.Whole.{to_nat, min_z}
use Rattle.base.specs.Loop.{on, out}
use Rattle.base.specs.Floats.{◌⊕◌, ◌⊖◌, ◌⊗◌, ◌⊘◌, num, Most}
use Rattle.base.specs.Words.{Edges, edges, times, times_at, set_times, edge_quiet, loose}
use Rattle.base.specs.declared.Times.{Times}
use Rattle.base.proofs.Loops.{Holds, run_holds, each_holds, each_keeps}
use Rattle.base.proofs.Most.{round-most, held}
use Rattle.base.proofs.Values.{whole-int, add-whole, div-whole}
use Rattle.js.specs.Js.{js_min, js_max, nearest_up, js_to_fixed}
use Rattle.js.proofs.ToFixed.{nearest_up-bounds}
use Rattle.frames.specs.Frames.{frame_at, frame_seconds}
use Rattle.envelope.specs.Envelope.{loud}
use Rattle.word_calls.specs.Within.{AllFrom}
use Rattle.ends.specs.Ends.{Last, last_turn, last_loud, sound_end, no_length, pair_span, next_start, is_pair, find_turn, pair_start, pair_edge, pair_of, reach, or_duration, trimmed, end_of, end_turn, snap_ends, set_pair}
use Rattle.ends.proofs.OneWord.{pair-in}
use Rattle.bounds.specs.Bounds.{Under, EdgesUnder, growth, AllUnder, hour}
use Rattle.bounds.proofs.Rounding.{under_more, round_under, add-under, max-under, min-under}
use Rattle.bounds.proofs.Seconds.{hour-under}
use Rattle.bounds.proofs.PartWay.{part-way}
use Rattle.bounds.proofs.Stored.{set-under, loud-in}

-- ---- the constants: 0.12 s is at most 8 sixty-fourths, 0.06 s at most 4
span-under : Under 8 pair_span
unfolding of_bits
span-under = lit≤ tt

length-under : Under 4 no_length
unfolding of_bits
length-under = lit≤ tt

-- ---- three decimals: at most a thousandth more
fixed-under : (b : ℕ) (x : Float) → b < 2 ^ 50 → Under b x → Under (b + 1) (js_to_fixed x)
unfolding js_to_fixed
fixed-under b nan B h = absurd h
fixed-under b (inf s) B h = absurd h
fixed-under b (fin s m e) B h = go (leb (10 ^ 21 * down e) (m * up e))
  where
    cross : (X E n : ℕ) → 0 < E → X * 64 ≤ b * E → n * E * 2 ≤ X * 1000 * 2 + E → n * 64 ≤ (b + 1) * 1000
    cross X E n P h k = le_of_mul-le-mul_right {k = E} (omega arith) P

    go : (t : Bool) → Under (b + 1) (cond t (fin s m e) (round binary64 (s && ltb 0 m) (nearest_up (m * up e * 1000) (down e)) 1000))
    go true = under_more 64 b (b + 1) (fin s m e) (omega arith) h
    go false =
        round_under 6 (lit≤ tt) (s && ltb 0 m) (nearest_up (m * up e * 1000) (down e)) 1000 (b + 1) (lit< tt) (omega arith)
        (cross (m * up e) (down e) (nearest_up (m * up e * 1000) (down e)) (down_pos e) h (nearest_up-bounds (m * up e * 1000) (down e) (down_pos e)).0)

-- ---- a word's share of a pair is between 0 and 1
share_part : (own other : ℕ) → 1 ≤ own → own ≤ 10000 → other ≤ 10000 → Most false 1 1 (num own ⊘ (num own ⊕ num other))
share_part own other l h k =
    subst (Most false 1 1) (sym is)
    (round-most binary64 own (own + other) 1 1 (omega arith) (lit< tt) (held binary64 1 0 (lit< tt) (lit≤ tt)) (omega arith) false)
  where
    is : num own ⊘ (num own ⊕ num other) ≡ round binary64 false own (own + other)
    is =
        ap (λ (x : Float). num own ⊘ x) (add-whole binary64 (whole-int binary64 own (omega arith)) (whole-int binary64 other (omega arith)))
        ∙ div-whole binary64 (whole-int binary64 own (omega arith)) (whole-int binary64 (own + other) (omega arith)) (omega arith)

-- ---- two words with no length
edge-under : (b : ℕ) (start next_end : Float) (own other : ℕ) → b < 2 ^ 40 → Under b start → Under b next_end → 1 ≤ own → own ≤ 10000 → other ≤ 10000 → Under (b + growth) (pair_edge start next_end own other)
unfolding pair_edge
edge-under b start next_end own other B h k l m n =
    under_more 64 (b + 8 + 1 + 1) (b + growth) (pair_edge start next_end own other) (omega arith)
    (fixed-under (b + 8 + 1) (start ⊕ (last ⊖ start) ⊗ (num own ⊘ (num own ⊕ num other))) (omega arith)
    (part-way (b + 8) start last (num own ⊘ (num own ⊕ num other)) (omega arith) (wider start h) last_under (share_part own other l m n)))
  where
    last : Float
    last = js_max next_end (start ⊕ pair_span)

    wider : (x : Float) → Under b x → Under (b + 8) x
    wider x u = under_more 64 b (b + 8) x (omega arith) u

    last_under : Under (b + 8) last
    last_under = max-under 64 (b + 8) next_end (start ⊕ pair_span) (wider next_end k) (add-under 6 (lit≤ tt) b 8 start pair_span (omega arith) h span-under)

module _ (row : List Bool) (b : ℕ) (short : length row ≤ 360000) (large : hour ≤ b) (B : b < 2 ^ 40) where
  find-turn : (k : ℤ) (s : Float) → Unit {0} → Under b s → Holds (Under b) (find_turn row k s)
  find-turn k s u h = go (loud row k) refl
    where
      go : (t : Bool) → loud row k ≡ t → Holds (Under b) (cond t (out (js_max s (frame_seconds k))) (on s))
      go true t = max-under 64 b s (frame_seconds k) h (hour-under b k large (let l = loud-in row k t in omega arith))
      go false t = h

  start_under : (start next_end : Float) → Under b start → Under b (pair_start row start next_end)
  unfolding pair_start
  start_under start next_end h = run_holds (find_turn row) (Under b) (λ k. Unit {0}) find-turn (λ k u. tt) (to_nat (frame_at next_end -ℤ frame_at start)) (frame_at start) (on start) tt h

  -- ---- where the sound ends
  abbrev pub Heard : ℤ → Type 0
  Heard (pos j) = j < length row
  Heard (negsuc j) = Unit {0}

  last_turn-holds : (edge : ℕ) (k : ℤ) (s : Last) → Unit {0} → Heard s.last → Holds (λ (s : Last). Heard s.last) (last_turn edge row k s)
  last_turn-holds edge k s u h = go (loud row k) refl (leb edge (s.quiet + 1) && non_neg s.last)
    where
      heard : (k : ℤ) → nat_abs k < length row → Heard k
      heard (pos j) l = l
      heard (negsuc j) l = tt

      go : (t : Bool) → loud row k ≡ t → (v : Bool)
          → Holds (λ (s : Last). Heard s.last) (cond t (on (record { last = k; quiet = 0 })) (cond v (out (record { last = s.last; quiet = s.quiet + 1 })) (on (record { last = s.last; quiet = s.quiet + 1 }))))
      go true t v = heard k (loud-in row k t)
      go false t true = h
      go false t false = h

  pub last-heard : (edge : ℕ) (a bound : ℤ) → Heard (last_loud edge row a bound)
  unfolding last_loud
  last-heard edge a bound =
      run_holds (last_turn edge row) (λ (s : Last). Heard s.last) (λ k. Unit {0}) (last_turn-holds edge) (λ k u. tt) (to_nat (bound -ℤ a)) a (on (record { last = negsuc 0; quiet = 0 })) tt tt

  abbrev pub SoundUnder : Option Float → Type 0
  SoundUnder None = Unit {0}
  SoundUnder (Some s) = Under b s

  pub sound-under : (last : ℤ) → Heard last → SoundUnder (sound_end last)
  unfolding sound_end
  sound-under (negsuc j) h = tt
  sound-under (pos j) h = go (ltb j 0)
    where
      go : (t : Bool) → SoundUnder (cond t None (Some (frame_seconds (pos (j + 1)))))
      go true = tt
      go false = hour-under b (pos (j + 1)) large (omega arith)

  -- ---- any other word
  abbrev NextUnder : Option Float → Type 0
  NextUnder (Some s) = Under b s
  NextUnder None = Unit {0}

  limit-under : (next : Option Float) (duration : Float) → NextUnder next → Under b duration → Under b (or_duration next duration)
  unfolding or_duration
  limit-under (Some s) duration h d = h
  limit-under None duration h d = d

  trim-under : (sound : Option Float) (limit : Float) (w : Times) → SoundUnder sound → Under b limit → Under b w.start → Under b w.end
      → Under (b + growth) (trimmed sound limit w).start × Under (b + growth) (trimmed sound limit w).end
  unfolding trimmed
  trim-under None limit w h l s e = (under_more 64 b (b + growth) w.start (omega arith) s, under_more 64 b (b + growth) w.end (omega arith) e)
  trim-under (Some sound) limit w h l s e = go (lt (sound ⊕ loose) w.end || lt (w.end ⊖ w.start) no_length)
    where
      cut : Float
      cut = js_max (w.start ⊕ no_length) (js_min sound limit)

      cut-under : Under (b + growth) cut
      cut-under =
          max-under 64 (b + growth) (w.start ⊕ no_length) (js_min sound limit)
          (under_more 64 (b + 4) (b + growth) (w.start ⊕ no_length) (omega arith) (add-under 6 (lit≤ tt) b 4 w.start no_length (omega arith) s length-under))
          (under_more 64 b (b + growth) (js_min sound limit) (omega arith) (min-under 64 b sound limit h l))

      go : (t : Bool) → Under (b + growth) (cond t (times w.start cut) w).start × Under (b + growth) (cond t (times w.start cut) w).end
      go true = (under_more 64 b (b + growth) w.start (omega arith) s, cut-under)
      go false = (under_more 64 b (b + growth) w.start (omega arith) s, under_more 64 b (b + growth) w.end (omega arith) e)

  module _ (duration : Float) (d : Under b duration) where
    end-under : (next : Option Float) (w : Times) → NextUnder next → Under b w.start → Under b w.end
        → Under (b + growth) (end_of row duration next w).start × Under (b + growth) (end_of row duration next w).end
    unfolding end_of
    end-under next w h s e =
        trim-under (sound_end last) (or_duration next duration) w (sound-under last (last-heard edge_quiet (frame_at w.start) bound)) (limit-under next duration h d) s e
      where
        bound : ℤ
        bound = min_z (pos (length row)) (frame_at (reach next duration w.start))

        last : ℤ
        last = last_loud edge_quiet row (frame_at w.start) bound

    next_under : (starts : List Float) (i : ℕ) → AllUnder 64 b starts → NextUnder (next_start starts i)
    unfolding next_start
    next_under starts i h = go (ltb (i + 1) (length starts)) refl
      where
        go : (t : Bool) → ltb (i + 1) (length starts) ≡ t → NextUnder (cond t (Some (get_or starts (i + 1) nan)) None)
        go true t = h (i + 1) (ltb-true (i + 1) (length starts) t)
        go false t = tt

    -- ---- one turn
    module _ (units : List ℕ) (us : AllFrom 1 10000 units) (i : ℕ) (es : Edges) (same : length es.ends ≡ length es.starts) (as_long : length units ≡ length es.starts) (l : i < length es.starts)
        (u : EdgesUnder b es) where
      w : Times
      w = times_at es i

      more : (xs : List Float) → AllUnder 64 b xs → AllUnder 64 (b + growth) xs
      more xs h j k = under_more 64 b (b + growth) (get_or xs j nan) (omega arith) (h j k)

      turn-under : EdgesUnder (b + growth) (end_turn row duration units i es)
      unfolding end_turn set_pair w
      turn-under = go (is_pair (next_start es.starts i) w) refl
        where
          ws : Under b (get_or es.starts i nan)
          ws = u.starts i l

          we : Under b (get_or es.ends i nan)
          we = u.ends i (omega arith)

          t : Times
          t = pair_of row w (get_or es.ends (i + 1) nan) (get_or units i 0) (get_or units (i + 1) 0)

          s-under : Under b t.start
          s-under = unfold pair_of in start_under (get_or es.starts i nan) (get_or es.ends (i + 1) nan) ws

          e-under : i + 1 < length es.starts → Under (b + growth) t.end
          e-under k =
              unfold pair_of in
              edge-under b (pair_start row (get_or es.starts i nan) (get_or es.ends (i + 1) nan)) (get_or es.ends (i + 1) nan) (get_or units i 0) (get_or units (i + 1) 0) B s-under
              (u.ends (i + 1) (omega arith)) (us i (omega arith)).0 (us i (omega arith)).1 (us (i + 1) (omega arith)).1

          v : Times
          v = end_of row duration (next_start es.starts i) w

          v-under : Under (b + growth) v.start × Under (b + growth) v.end
          v-under = end-under (next_start es.starts i) w (next_under es.starts i u.starts) ws we

          go : (p : Bool) → is_pair (next_start es.starts i) w ≡ p
              → EdgesUnder (b + growth) (cond p (edges (set (set es.starts i t.start) (i + 1) t.end) (set es.ends i t.end)) (set_times es i v))
          go true p =
              let k = pair-in es.starts i w refl p in
              record {
                starts =
                    set-under 64 (b + growth) (set es.starts i t.start) (i + 1) t.end
                    (set-under 64 (b + growth) es.starts i t.start (more es.starts u.starts) (λ j. under_more 64 b (b + growth) t.start (omega arith) s-under))
                    (λ j. e-under k);
                ends = set-under 64 (b + growth) es.ends i t.end (more es.ends u.ends) (λ j. e-under k);
              }
          go false p = record {
            starts = set-under 64 (b + growth) es.starts i v.start (more es.starts u.starts) (λ j. v-under.0);
            ends = set-under 64 (b + growth) es.ends i v.end (more es.ends u.ends) (λ j. v-under.1);
          }

-- ---- a turn keeps both lists as long as they are
turn-long : (row : List Bool) (duration : Float) (units : List ℕ) (i : ℕ) (es : Edges)
    → (length (end_turn row duration units i es).starts ≡ length es.starts) × (length (end_turn row duration units i es).ends ≡ length es.ends)
unfolding end_turn set_pair
turn-long row duration units i es = go (is_pair (next_start es.starts i) (times_at es i)) _ _
  where
    go : (p : Bool) (t v : Times)
        → (length (cond p (edges (set (set es.starts i t.start) (i + 1) t.end) (set es.ends i t.end)) (set_times es i v)).starts ≡ length es.starts)
        × (length (cond p (edges (set (set es.starts i t.start) (i + 1) t.end) (set es.ends i t.end)) (set_times es i v)).ends ≡ length es.ends)
    go true t v = (length-set (set es.starts i t.start) (i + 1) t.end ∙ length-set es.starts i t.start, length-set es.ends i t.end)
    go false t v = (length-set es.starts i v.start, length-set es.ends i v.end)

pub ends-long : (row : List Bool) (duration : Float) (units : List ℕ) (es : Edges) → (length (snap_ends row duration units es).starts ≡ length es.starts) × (length (snap_ends row duration units es).ends ≡ length es.ends)
unfolding snap_ends
ends-long row duration units es = (
  each_keeps (λ (s : Edges). length s.starts) (end_turn row duration units) (λ i s. (turn-long row duration units i s).0) (length es.starts) 0 es,
  each_keeps (λ (s : Edges). length s.ends) (end_turn row duration units) (λ i s. (turn-long row duration units i s).1) (length es.starts) 0 es,
)

-- ---- all words: before turn i each time is within b + i × growth sixty-fourths
record Before (b n i : ℕ) (es : Edges) : Type 0 where
  starts-long : length es.starts ≡ n
  ends-long : length es.ends ≡ n
  small : EdgesUnder (b + growth * i) es

pub ends-under : (row : List Bool) (b : ℕ) (duration : Float) (units : List ℕ) (es : Edges) → length row ≤ 360000 → hour ≤ b → b + growth * length es.starts < 2 ^ 40 → Under b duration
    → AllFrom 1 10000 units → length es.ends ≡ length es.starts → length units ≡ length es.starts → EdgesUnder b es → EdgesUnder (b + growth * length es.starts) (snap_ends row duration units es)
unfolding snap_ends
ends-under row b duration units es short large B d us same as_long u =
    (each_holds (Before b (length es.starts)) (end_turn row duration units) (length es.starts) turn (length es.starts) 0 es (omega arith)
    (record { starts-long = refl; ends-long = same; small = let z : b + growth * 0 ≡ b = omega arith in rw z u })
    ).small
  where
    turn : (i : ℕ) (s : Edges) → i < length es.starts → Before b (length es.starts) i s → Before b (length es.starts) (suc i) (end_turn row duration units i s)
    turn i s l h =
        let g = turn-long row duration units i s in
        let z : b + growth * i + growth ≡ b + growth * suc i = omega arith in
        record {
          starts-long = g.0 ∙ h.starts-long;
          ends-long = g.1 ∙ h.ends-long;
          small =
              subst (λ (n : ℕ). EdgesUnder n (end_turn row duration units i s)) z
              (turn-under row (b + growth * i) short (omega arith) (omega arith) duration (under_more 64 b (b + growth * i) duration (omega arith) d) units us i s (h.ends-long ∙ sym h.starts-long)
              (as_long ∙ sym h.starts-long) (omega (arith, h.starts-long)) h.small);
        }
