-- Every time stays finite and below 2^13 in size, through each of collapse_loops, hand_back_tails, snap_onsets and snap_ends, through them in a row, and through each of
-- align_phrases, even_out, fit_to_sound and the fit by phrase. Times start within 7,200 s. Loops raise none, onsets add 1 sixty-fourth, and ends 10 for each of 4,096 words:
-- 501,761 of 524,288. Placing adds less than 2^-27 s, and evening 120 s and less than 2^-15 s. Fitting to sound adds less than 202 s, as one or by phrase. Assumes nothing.
use Prim.Native.Nat.{ℕ, zero, suc, ◌+◌, ◌-◌, ◌*◌, ◌/◌, ◌<◌, ◌≤◌, ◌^◌}
use mathlib.Core.Bool.{Bool, true, false, ◌&&◌, ◌||◌, true≢false}
use mathlib.Core.List.{List}
use mathlib.Core.Logic.{inl, inr}
use mathlib.Core.Path.{◌≡◌, refl, sym, ap, ◌∙◌, subst}
use native.Mathlib.Nat.{le_refl, one-mul, mul-le-mul_right, lt_of_mul-lt-mul_right}
use native.Mathlib.Omega.{arith}
use borrow.Author.Tests.{ltb-true, eqb-true}
use lib.Dec.{ltb, eqb, lit<, lit≤}
use lib.ListN.{length, get_or, replicate}
use lib.Ieee.{Float, nan, inf, fin, up, down, lt, le, eq, of_bits}
use lib.Ieee.Fits.{down_pos}
use Rattle.base.specs.Words.{Words, Spans, Edges, edges, with_edges, count, in_places, zero_f, words_in_places}
use Rattle.base.specs.Refusals.{accepts, says}
use Rattle.word_calls.specs.Within.{Within, LimitWithin, WordsWithin, SoundWithin}
use Rattle.envelope.specs.Envelope.{loud_row}
use Rattle.envelope.proofs.Scan.{length-row}
use Rattle.loops.specs.Loops.{collapse_loops, Output, collapse_call}
use Rattle.loops.proofs.Kept.{All, all_append, all-at, at_all, left-within}
use Rattle.loops.proofs.Promises as loops
use Rattle.tails.specs.Tails.{hand_back_tails, tails_call}
use Rattle.tails.proofs.Calls as tails
use Rattle.onsets.specs.Onsets.{snap_onsets, onsets_call}
use Rattle.onsets.proofs.Calls as onsets
use Rattle.ends.specs.Ends.{snap_ends, ends_call}
use Rattle.ends.proofs.Calls as ends
use Rattle.phrase_align.specs.PhraseAlign.{align_phrases, in_their_places, align_call}
use Rattle.phrase_align.specs.PhraseAlign as placings
use Rattle.phrase_align.proofs.Calls as placing
use Rattle.even.specs.Even.{even_out, even_call}
use Rattle.even.proofs.Calls as even
use Rattle.fit_to_sound.specs.FitToSound.{fit_to_sound, fit_call}
use Rattle.fit_to_sound.proofs.Calls as fit
use Rattle.fit_file.specs.FitFile.{fit_file, duration_of, fit_file_call}
use Rattle.fit_file.proofs.Calls as file
use Rattle.bounds.specs.Bounds.{Small, SmallTimes, UnderIn, EdgesUnderIn, Under, EdgesUnder, steps, stray, slowest, drift, shortest, haul, growth, Timed, Limit, in_row, hour}
use Rattle.bounds.proofs.Rounding.{under_more, under-finer}
use Rattle.bounds.proofs.Seconds.{plus-under}
use Rattle.bounds.proofs.Tailing.{tails-under, tails-long}
use Rattle.bounds.proofs.Onsetting.{onsets-under, onsets-long}
use Rattle.bounds.proofs.Ending.{ends-long, ends-under}
use Rattle.bounds.proofs.Parted.{Each, edges_more}
use Rattle.bounds.proofs.Placing.{align-under}
use Rattle.bounds.proofs.Evening.{even-under}
use Rattle.bounds.proofs.Fitting.{fit-under}
use Rattle.bounds.proofs.Phrasing.{file-under}

-- ---- below 2^13 seconds are 2^13 × d of the d-ths
pub small-under : (d b : ℕ) (x : Float) → b < 2 ^ 13 * d → UnderIn d b x → Small x
small-under d b nan l h = h
small-under d b (inf s) l h = h
small-under d b (fin s m e) l h = below (m * up e) (down e) (down_pos e) h
  where
    below : (X E : ℕ) → 0 < E → X * d ≤ b * E → X < 2 ^ 13 * E
    below X E p h = lt_of_mul-lt-mul_right d (let r : suc b * E ≤ 2 ^ 13 * d * E = mul-le-mul_right E l in omega arith)

pub edges-small : (d b : ℕ) (es : Edges) (ws : Words) → b < 2 ^ 13 * d → EdgesUnderIn d b es → SmallTimes (with_edges es ws)
edges-small d b es ws l u = record {
  starts = λ i h. small-under d b (get_or es.starts i nan) l (u.starts i h);
  ends = λ i h. small-under d b (get_or es.ends i nan) l (u.ends i h);
}

-- ---- a time from -7,200 to 7,200 s is within 7,200 × d of the d-ths
hours : (X E : ℕ) (a c : Bool) → (a ≡ true → X ≤ 7200 * E) → (c ≡ true → X ≤ 7200 * E) → (a || (c && true)) ≡ true → X * 1 ≤ 7200 * E
hours X E true c f g h = let l = f refl in omega arith
hours X E false true f g h = let l = g refl in omega arith
hours X E false false f g h = absurd (true≢false (sym h))

within-hours : (t : Float) → Within t → UnderIn 1 7200 t
unfolding le lt eq of_bits
within-hours nan h = absurd (true≢false (sym h.0))
within-hours (inf true) h = absurd (true≢false (sym h.0))
within-hours (inf false) h = absurd (true≢false (sym h.1))
within-hours (fin false m e) h =
    let X = m * up e * 1 in
    let Y = 225 * 2 ^ 5 * down e in
    hours (m * up e) (down e) (ltb X Y) (eqb X Y) (λ t. let l = ltb-true X Y t in omega arith) (λ t. let l = eqb-true X Y t in omega arith) h.1
within-hours (fin true m e) h =
    let X = m * up e * 1 in
    let Y = 225 * 2 ^ 5 * down e in
    hours (m * up e) (down e) (ltb X Y) (eqb Y X) (λ t. let l = ltb-true X Y t in omega arith) (λ t. let l = eqb-true Y X t in omega arith) h.0

pub within-under : (d : ℕ) (t : Float) → Within t → UnderIn d (7200 * d) t
within-under d t h = subst (λ (n : ℕ). UnderIn n (7200 * d) t) (one-mul d) (under-finer 1 d 7200 t (within-hours t h))

pub words-under : (d : ℕ) (ws : Words) → WordsWithin ws → EdgesUnderIn d (7200 * d) (edges ws.starts ws.ends)
words-under d ws w = record {
  starts = λ i h. within-under d (get_or ws.starts i nan) (w.starts-within i h);
  ends = λ i h. within-under d (get_or ws.ends i nan) (w.ends-within i h);
}

pub words-timed : (ws : Words) → WordsWithin ws → Timed (length ws.letters) (7200 * steps) (edges ws.starts ws.ends)
words-timed ws w = record {
  starts-long = sym w.letters-as-long;
  ends-long = w.ends-as-long ∙ sym w.letters-as-long;
  small = words-under steps ws w;
}

within-small : (t : Float) → Within t → Small t
within-small t h = small-under 1 7200 t (lit< tt) (within-hours t h)

-- ---- loops: the words left are given words, and the places past them hold zero
zeros-small : (n : ℕ) → All Small (replicate n zero_f)
unfolding of_bits
zeros-small zero = tt
zeros-small (suc n) = (lit< tt, zeros-small n)

pub places-small : (m : ℕ) (ts : List Float) → Each Small nan ts → (i : ℕ) → i < length (in_places zero_f m ts) → Small (get_or (in_places zero_f m ts) i nan)
places-small m ts h =
    all-at Small nan (in_places zero_f m ts)
    (all_append Small ts (replicate (m - length ts) zero_f) (at_all Small nan ts h) (zeros-small (m - length ts)))

pub loops-small : (ws : Words) → WordsWithin ws → SmallTimes (collapse_call ws).words
unfolding words_in_places
loops-small ws w =
    let left = left-within ws w in
    subst SmallTimes (sym (ap (λ (o : Output). o.words) (loops.accepted-leaves ws w))) (record {
      starts = places-small (count ws) (collapse_loops ws).words.starts (λ i l. within-small (get_or (collapse_loops ws).words.starts i nan) (left.starts-within i l));
      ends = places-small (count ws) (collapse_loops ws).words.ends (λ i l. within-small (get_or (collapse_loops ws).words.ends i nan) (left.ends-within i l));
    })

-- ---- an hour has 360,000 frames
pub hour-long : (levels : List Float) (floor : Float) (count : ℕ) → (count ≤ 57600000) × (length levels ≡ count / 160) → length (loud_row floor levels) ≤ 360000
hour-long levels floor count h = rw (length-row floor levels) (omega (arith, h.0, h.1))

module _ (ws : Words) (levels : List Float) (floor : Float) (count : ℕ) where
  -- ---- hand_back_tails
  pub tails-small : says (tails_call ws levels floor count).answer ≡ accepts tt → SmallTimes (tails_call ws levels floor count).words
  tails-small h =
      let w = (tails.accepted-exactly ws levels floor count).1 h in
      subst SmallTimes (sym (tails.accepted-words ws levels floor count h))
      (edges-small 64 460800 (hand_back_tails (loud_row floor levels) ws.letters (edges ws.starts ws.ends)) ws (omega arith)
      (tails-under (loud_row floor levels) 460800 (hour-long levels floor count w.1) (omega arith) ws.letters (edges ws.starts ws.ends) (words-under 64 ws w.0)))

  -- ---- snap_onsets
  pub onsets-small : says (onsets_call ws levels floor count).answer ≡ accepts tt → SmallTimes (onsets_call ws levels floor count).words
  onsets-small h =
      let w = (onsets.accepted-exactly ws levels floor count).1 h in
      subst SmallTimes (sym (onsets.accepted-words ws levels floor count h))
      (edges-small 64 460801 (snap_onsets (loud_row floor levels) (edges ws.starts ws.ends)) ws (omega arith)
      (onsets-under (loud_row floor levels) 460800 (omega arith) (edges ws.starts ws.ends) (words-under 64 ws w.0)))

  module _ (duration : Float) where
    -- ---- snap_ends
    pub ends-small : says (ends_call ws levels floor count duration).answer ≡ accepts tt → SmallTimes (ends_call ws levels floor count duration).words
    ends-small h =
        let w = (ends.accepted-exactly ws levels floor count duration).1 h in
        let n : length ws.starts ≤ 4096 = w.0.0.few in
        subst SmallTimes (sym (ends.accepted-words ws levels floor count duration h))
        (edges-small 64 (460800 + growth * length ws.starts) (snap_ends (loud_row floor levels) duration ws.units (edges ws.starts ws.ends)) ws (omega arith)
        (ends-under (loud_row floor levels) 460800 duration ws.units (edges ws.starts ws.ends) (hour-long levels floor count w.0.1) (omega arith) (omega arith)
        (within-under 64 duration w.1) w.0.0.units-from-1 w.0.0.ends-as-long w.0.0.units-as-long (words-under 64 ws w.0.0)))

    -- ---- the three in a row
    pub stages-under : SoundWithin ws (length levels) count → Under 460800 duration → EdgesUnder 501761 (in_row ws levels floor duration)
    stages-under w d =
        let row : List Bool = loud_row floor levels in
        let short : length row ≤ 360000 = hour-long levels floor count w.1 in
        let es : Edges = edges ws.starts ws.ends in
        let es₁ : Edges = hand_back_tails row ws.letters es in
        let es₂ : Edges = snap_onsets row es₁ in
        let u₁ : EdgesUnder 460800 es₁ = tails-under row 460800 short (omega arith) ws.letters es (words-under 64 ws w.0) in
        let u₂ : EdgesUnder 460801 es₂ = onsets-under row 460800 (omega arith) es₁ u₁ in
        let long : length es₂.starts ≡ length ws.starts = (onsets-long row es₁).0 ∙ (tails-long row ws.letters es).0 in
        let long-ends : length es₂.ends ≡ length ws.starts = (onsets-long row es₁).1 ∙ (tails-long row ws.letters es).1 ∙ w.0.ends-as-long in
        let n : length es₂.starts ≤ 4096 = omega (arith, w.0.few) in
        edges_more 64 (460801 + growth * length es₂.starts) 501761 (in_row ws levels floor duration) (omega arith)
        (ends-under row 460801 duration ws.units es₂ short (omega arith) (omega arith) (under_more 64 460800 460801 duration (omega arith) d) w.0.units-from-1
        (long-ends ∙ sym long) (w.0.units-as-long ∙ sym long) u₂)

    pub stages-long : SoundWithin ws (length levels) count → (length (in_row ws levels floor duration).starts ≡ length ws.starts) × (length (in_row ws levels floor duration).ends ≡ length ws.starts)
    stages-long w =
        let row : List Bool = loud_row floor levels in
        let es : Edges = edges ws.starts ws.ends in
        let es₁ : Edges = hand_back_tails row ws.letters es in
        let es₂ : Edges = snap_onsets row es₁ in (
          (ends-long row duration ws.units es₂).0 ∙ (onsets-long row es₁).0 ∙ (tails-long row ws.letters es).0,
          (ends-long row duration ws.units es₂).1 ∙ (onsets-long row es₁).1 ∙ (tails-long row ws.letters es).1 ∙ w.0.ends-as-long,
        )

    pub stages-small : SoundWithin ws (length levels) count → Within duration → SmallTimes (with_edges (in_row ws levels floor duration) ws)
    stages-small w d = edges-small 64 501761 (in_row ws levels floor duration) ws (lit< tt) (stages-under w (within-under 64 duration d))

-- ---- loops and the three stages in a row: the stages on the words that loops leave
pub all_small : (ws : Words) (levels : List Float) (floor : Float) (samples : ℕ) (duration : Float) → WordsWithin ws → (samples ≤ 57600000) × (length levels ≡ samples / 160) → Within duration
    → let left : Words = (collapse_loops ws).words in SmallTimes (with_edges (in_row left levels floor duration) left)
all_small ws levels floor samples duration w l d = stages-small (collapse_loops ws).words levels floor samples duration (left-within ws w, l) d

-- ---- evening: 7,200 s, 120 s for the last word's slow pace, and 4,096 runs
pub even-small : (ws : Words) (limit : Float) → says (even_call ws limit).answer ≡ accepts tt → SmallTimes (even_call ws limit).words
even-small ws limit h =
    let w = (even.accepted-exactly ws limit).1 h in
    let n : length ws.letters ≤ 4096 = omega (arith, w.0.few, w.0.letters-as-long) in
    subst SmallTimes (sym (even.accepted-words ws limit h))
    (edges-small steps (7200 * steps + slowest + stray * length ws.letters) (even_out ws.letters limit (edges ws.starts ws.ends)) ws (omega arith)
    (even-under ws.letters w.0.letters-from-1 n limit (7200 * steps) slowest (limited w.1) (omega arith) (omega arith) (edges ws.starts ws.ends) (words-timed ws w.0)).small)
  where
    limited : LimitWithin limit → Limit (7200 * steps) slowest limit
    limited (inl t) = inr (under_more steps (7200 * steps) (7200 * steps + slowest) limit (omega arith) (within-under steps limit t))
    limited (inr t) = inl (t, le_refl slowest)

-- ---- fitting to sound: 7,200 s, 120 s for the last word's slow pace, and 0.02 s and two evenings for each of 4,096 words
pub fit_small : (ws : Words) (levels : List Float) (floor : Float) (count : ℕ) (duration : Float) → says (fit_call ws levels floor count duration).answer ≡ accepts tt → SmallTimes (fit_call ws levels floor count duration).words
fit_small ws levels floor count duration h =
    let w = (fit.accepted-exactly ws levels floor count duration).1 h in
    let n : length ws.letters ≤ 4096 = omega (arith, w.0.0.few, w.0.0.letters-as-long) in
    subst SmallTimes (sym (fit.accepted-words ws levels floor count duration h))
    (edges-small steps (7200 * steps + slowest + drift * length ws.letters) (fit_to_sound (loud_row floor levels) duration ws.letters (edges ws.starts ws.ends)) ws (omega arith)
    (fit-under ws.letters w.0.0.letters-from-1 n (loud_row floor levels) (hour-long levels floor count w.0.1) duration (7200 * steps) (lit≤ tt) (omega arith) (within-under steps duration w.1)
    (edges ws.starts ws.ends) (words-timed ws w.0.0)).small)

-- ---- the fit by phrase: as fitting to sound, and 0.04 s more, and one evening more for each of 4,096 words; an hour's samples last an hour
pub lasts-under : (samples : ℕ) → samples ≤ 57600000 → Under hour (duration_of samples)
unfolding duration_of
lasts-under samples h = plus-under hour samples (lit< tt) (omega arith)

pub hour-lasts : (samples : ℕ) → samples ≤ 57600000 → UnderIn steps (7200 * steps) (duration_of samples)
hour-lasts samples h = under_more steps (3600 * steps) (7200 * steps) (duration_of samples) (lit≤ tt) (under-finer 64 (2 ^ 34) 230400 (duration_of samples) (lasts-under samples h))

pub fit-file-small : (ws : Words) (phrases : List ℕ) (spans : Spans) (levels : List Float) (floor : Float) (samples places : ℕ) → says (fit_file_call ws phrases spans levels floor samples places).answer ≡ accepts tt
    → SmallTimes (fit_file_call ws phrases spans levels floor samples places).words
fit-file-small ws phrases spans levels floor samples places h =
    let a = (file.accepted-exactly ws phrases spans levels floor samples places).1 h in
    let w = a.0.0 in
    let sp = a.1.1.0 in
    let n : length ws.letters ≤ 4096 = omega (arith, w.few, w.letters-as-long) in
    let given : Edges = edges ws.starts ws.ends in
    let within : Edges = edges spans.starts spans.ends in
    subst SmallTimes (sym (file.accepted-words ws phrases spans levels floor samples places h))
    (edges-small steps (7200 * steps + slowest + haul * length ws.letters + shortest) (fit_file (loud_row floor levels) (duration_of samples) ws.letters phrases within given) ws (omega arith)
    (file-under ws.letters w.letters-from-1 n (loud_row floor levels) (hour-long levels floor samples a.0.1) (duration_of samples) phrases within (7200 * steps) (lit≤ tt) (omega arith) (hour-lasts samples a.0.1.0)
    (λ p l. (within-under steps (get_or spans.starts p nan) (sp.starts-within p l), within-under steps (get_or spans.ends p nan) (sp.ends-within p (omega (arith, l, sp.ends-as-long)))))
    given (words-timed ws w)).small)

-- ---- placing: 7,200 s and one share-out; the places past the words hold zero
pub align-small : (ws : Words) (spans : Spans) (phrases : List ℕ) (n : ℕ) → says (align_call ws spans phrases).answer ≡ accepts n → SmallTimes (align_call ws spans phrases).words
unfolding in_their_places words_in_places
align-small ws spans phrases n h =
    let a = placing.accepted-answer ws spans phrases n h in
    let w = a.0.words-within in
    let sp = a.0.spans-within in
    let out : Words = (align_phrases ws spans).words in
    let u : EdgesUnderIn steps (7200 * steps + stray) (edges out.starts out.ends) =
    align-under ws spans (7200 * steps) (lit≤ tt) w.letters-from-1 (omega (arith, w.few, w.letters-as-long)) (words-timed ws w) sp.ends-as-long
    (λ i l. within-under steps (get_or spans.starts i nan) (sp.starts-within i l)) (λ i l. within-under steps (get_or spans.ends i nan) (sp.ends-within i l)) in
    let v : SmallTimes (with_edges (edges out.starts out.ends) out) = edges-small steps (7200 * steps + stray) (edges out.starts out.ends) out (lit< tt) u in
    subst (λ (o : placings.Output). SmallTimes o.words) (sym a.1.1) (record { starts = places-small (count ws) out.starts v.starts; ends = places-small (count ws) out.ends v.ends })
