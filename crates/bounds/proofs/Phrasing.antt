-- In the fit by phrase a time grows as by fit_to_sound, by 0.04 s more, for a word kept inside its span is made to last so long, and by one evening more. A span's
-- edges are within the range of times, and a run of sound lies in the row. A word is fitted once, in its own phrase's turn, from the times given. Assumes nothing.
use Rattle.std.specs.Prelude.{Option, Some, None}
use Prim.Native.Nat.{ℕ, zero, suc, ◌+◌, ◌-◌, ◌*◌, ◌<◌, ◌≤◌, ◌^◌}
use mathlib.Core.Bool.{Bool, true, false, cond, ◌&&◌, ◌||◌}
use mathlib.Core.List.{List, [], ◌∷◌}
use mathlib.Core.Logic.{inr}
use mathlib.Core.Path.{◌≡◌, refl, sym, ap, ◌∙◌, subst}
use native.Mathlib.Omega.{arith}
use native.Mathlib.Numerals.{add-one}
use borrow.Author.Tests.{ltb-true, ltb-false, eqb-true, eqb-false}
use lib.IntN.{ℤ, pos, negsuc, nat_abs, ◌-ℤ◌, ◌+ℤ◌}
use lib.Dec.{eqb, ltb, lit≤}
use lib.Signed.{lt_z, non_neg}
use lib.ListN.{length, get_or, set, length-set, length-append}
use lib.Seq.{get_or-set_other}
use lib.Ieee.{Float, nan, of_bits, lt}
use Rattle.base.specs.Whole.{to_nat, min_z}
use Rattle.base.specs.Loop.{on, out, each}
use Rattle.base.specs.Floats.{◌⊕◌, ◌⊖◌}
use Rattle.base.specs.Words.{Edges, times, times_at, set_times, end_silence}
use Rattle.base.specs.declared.Times.{Times}
use Rattle.base.proofs.Loops.{Holds, back-holds, each_keeps, each_holds}
use Rattle.base.proofs.Parts.{long, both}
use Rattle.js.specs.Js.{js_min, js_max}
use Rattle.frames.specs.Frames.{frame_from_zero}
use Rattle.envelope.specs.Envelope.{loud}
use Rattle.word_calls.specs.Within.{AllFrom}
use Rattle.even.specs.Even.{even_out}
use Rattle.last_run.specs.LastRun as runs
use Rattle.last_run.specs.LastRun.{min_run, back_turn, ends_between, frames_of, frame_run, seconds_of, last_run, frames}
use Rattle.fit_to_sound.specs.FitToSound.{fit_to_sound}
use Rattle.fit_file.specs.FitFile.{min_word, trailing_gap, inside_span, inside_turn, keep_inside, make_way, take_sound, take_run, take_trailing, fit_group, member_turn, members_of, picked, picked_edges, put_edges, fit_phrase, fit_file}
use Rattle.fit_file.proofs.Members.{turn-hit, turn-miss, members-next}
use Rattle.fit_file.proofs.Local.{In, members-all, member-in, put-long, picked-at, picked-long}
use Rattle.invariance.proofs.Alone.{fit_alone, phrase-alone, spanless-stays}
use Rattle.bounds.specs.Bounds.{UnderIn, steps, stray, slowest, drift, shortest, haul, Timed, TimesUnder}
use Rattle.share.specs.Drifts.{farthest}
use Rattle.fit_file.specs.Parts.{AllOf}
use Rattle.bounds.proofs.Rounding.{under_more, add-under, max-under, min-under}
use Rattle.bounds.proofs.Stored.{set-under, loud-in}
use Rattle.bounds.proofs.Sharing.{timed-more}
use Rattle.bounds.proofs.Evening.{even-under}
use Rattle.bounds.proofs.Fitting.{at-timed, set-timed, frame-under, sub-under, fit-under}

word-under : UnderIn steps shortest min_word
unfolding of_bits
word-under = lit≤ tt

-- ---- kept inside the span: a word's times grow by 0.04 s, once, in its own turn
module _ (span : Times) (b : ℕ) (s : TimesUnder b span) (n c : ℕ) (B : b + shortest ≤ c) (C : c + shortest < 2 ^ 53) where
  inside-word : (w : Times) → TimesUnder c w → TimesUnder (c + shortest) (inside_span span w)
  unfolding inside_span
  inside-word w u = (
    under_more steps c (c + shortest) start (omega arith) start_under,
    min-under steps (c + shortest) (js_max w.end (start ⊕ min_word)) span.end
        (max-under steps (c + shortest) w.end (start ⊕ min_word) (under_more steps c (c + shortest) w.end (omega arith) u.1) (add-under 40 (lit≤ tt) c shortest start min_word C start_under word-under))
        (under_more steps b (c + shortest) span.end (omega arith) s.1),
  )
    where
      start : Float
      start = js_min (js_max w.start span.start) (span.end ⊖ min_word)

      start_under : UnderIn steps c start
      start_under =
          min-under steps c (js_max w.start span.start) (span.end ⊖ min_word) (max-under steps c w.start span.start u.0 (under_more steps b c span.start (omega arith) s.0))
          (under_more steps (b + shortest) c (span.end ⊖ min_word) B (sub-under 40 (lit≤ tt) b shortest span.end min_word (omega arith) s.1 word-under))

  -- before turn i the words from i on are as they were given
  record Waiting (i : ℕ) (es : Edges) : Type 0 where
    all : Timed n (c + shortest) es
    rest : (j : ℕ) → i ≤ j → j < n → TimesUnder c (times_at es j)

  inside-turn : (i : ℕ) (es : Edges) → i < n → Waiting i es → Waiting (suc i) (inside_turn span i es)
  unfolding inside_turn
  inside-turn i es l h = record {
    all = set-timed n (c + shortest) i es w h.all (inside-word (times_at es i) (h.rest i (omega arith) l));
    rest = λ j k m. (
      subst (UnderIn steps c) (sym (get_or-set_other es.starts i j w.start nan (λ e. omega (arith, k, e)))) (h.rest j (omega arith) m).0,
      subst (UnderIn steps c) (sym (get_or-set_other es.ends i j w.end nan (λ e. omega (arith, k, e)))) (h.rest j (omega arith) m).1,
    );
  }
    where
      w : Times
      w = inside_span span (times_at es i)

  inside_under : (es : Edges) → Timed n c es → Timed n (c + shortest) (keep_inside span es)
  unfolding keep_inside
  inside_under es t =
      (each_holds Waiting (inside_turn span) n inside-turn (length es.starts) 0 es (omega (arith, t.starts-long))
      (record { all = timed-more n c (c + shortest) es (omega arith) t; rest = λ j k m. at-timed n c j es m t })
      ).all

-- ---- the last run lies in the row
module _ (row : List Bool) (short : length row ≤ 360000) (c : ℕ) (large : 3600 * steps ≤ c) where
  abbrev InRow : ℤ → Type 0
  InRow (pos j) = j < length row
  InRow (negsuc j) = Unit {0}

  abbrev Seen : runs.Ends → Type 0
  Seen s = InRow s.end × InRow s.start

  back-turn : (k : ℤ) (s : runs.Ends) → Unit {0} → Seen s → Holds Seen (back_turn row k s)
  back-turn k s q p = go (loud row k) refl (lt_z s.end (pos 0)) (non_neg s.end && lt_z (pos end_silence) (s.start -ℤ k))
    where
      heard : (k : ℤ) → nat_abs k < length row → InRow k
      heard (pos j) l = l
      heard (negsuc j) l = tt

      first : (k : ℤ) (t : Bool) → InRow k → InRow (cond t k s.end)
      first k true h = h
      first k false h = p.0

      go : (t : Bool) → loud row k ≡ t → (u v : Bool) → Holds Seen (cond t (on (record { end = cond u k s.end; start = k })) (cond v (out s) (on s)))
      go true t u v = let h : InRow k = heard k (loud-in row k t) in (first k u h, h)
      go false t u true = p
      go false t u false = p

  ends-seen : (lo hi : ℤ) → Seen (ends_between row lo hi)
  unfolding ends_between
  ends-seen lo hi = back-holds (back_turn row) Seen (λ k. Unit {0}) back-turn (λ k u. tt) (to_nat (hi -ℤ pos 1 +ℤ pos 1 -ℤ lo)) (hi -ℤ pos 1) (on (record { end = negsuc 0; start = negsuc 0 })) tt (tt, tt)

  abbrev RunUnder : Option Times → Type 0
  RunUnder None = Unit {0}
  RunUnder (Some w) = TimesUnder c w

  run-under : (from to : Float) → RunUnder (last_run row from to)
  unfolding last_run frame_run frames_of
  run-under from to = go s.end s.start seen.0 seen.1
    where
      lo : ℤ
      lo = frame_from_zero from

      hi : ℤ
      hi = min_z (pos (length row)) (frame_from_zero to)

      s : runs.Ends
      s = ends_between row lo hi

      seen : Seen s
      seen = ends-seen lo hi

      low : (z : ℤ) → InRow z → to_nat z ≤ length row
      low (pos j) h = omega arith
      low (negsuc j) h = omega arith

      some : (t : Bool) (first last : ℕ) → first ≤ length row → last < length row → RunUnder (seconds_of (cond t None (Some (frames first last))))
      some true first last h k = tt
      some false first last h k = (frame-under c (pos first) large (omega arith), frame-under c (pos last +ℤ pos 1) large (omega arith))

      go : (e f : ℤ) → InRow e → InRow f → RunUnder (seconds_of (cond (lt_z e (pos 0) || lt_z (e -ℤ f) (pos min_run)) None (Some (frames (to_nat f) (to_nat e)))))
      go (pos j) f h k = some (lt_z (pos j) (pos 0) || lt_z (pos j -ℤ f) (pos min_run)) (to_nat f) j (low f k) h
      go (negsuc j) f h k = tt

  -- ---- the last word takes it, and the word before makes way
  take-under : (n last : ℕ) (w : Times) (es : Edges) → TimesUnder c w → Timed n c es → Timed n c (take_sound last w es)
  unfolding take_sound make_way
  take-under n last w es u t = go (ltb 0 last)
    where
      m : Edges
      m = set_times es last w

      v : Timed n c m
      v = set-timed n c last es w t u

      e : Float
      e = js_min (get_or m.ends (last - 1) nan) w.start

      go : (b : Bool) → Timed n c (record { starts = m.starts; ends = cond b (set m.ends (last - 1) e) m.ends })
      go true = record {
        starts-long = v.starts-long;
        ends-long = length-set m.ends (last - 1) e ∙ v.ends-long;
        small = record {
          starts = v.small.starts;
          ends = set-under steps c m.ends (last - 1) e v.small.ends (λ l. min-under steps c (get_or m.ends (last - 1) nan) w.start (v.small.ends (last - 1) l) u.0);
        };
      }
      go false = v

  trailing-under : (to : Float) (n : ℕ) (es : Edges) → Timed n c es → Timed n c (take_trailing row to es)
  unfolding take_trailing take_run
  trailing-under to n es t = go (last_run row after to) (run-under after to)
    where
      last : ℕ
      last = length es.starts - 1

      after : Float
      after = get_or es.ends last nan ⊕ trailing_gap

      go : (r : Option Times) → RunUnder r → Timed n c (take_run r after last es)
      go None u = t
      go (Some w) u = sound (lt after w.start)
        where
          sound : (b : Bool) → Timed n c (cond b (take_sound last w es) es)
          sound true = take-under n last w es u t
          sound false = t

module _ (letters : List ℕ) (ls : AllFrom 1 1000 letters) (few : length letters ≤ 4096) (row : List Bool) (short : length row ≤ 360000) (duration : Float) (span : Times) (b : ℕ) (large : 3601 * steps ≤ b)
    (wide : b + 2 * slowest + haul * length letters + shortest ≤ farthest) (d : UnderIn steps b duration) (s : TimesUnder b span) where
  pub group-under : (es : Edges) → Timed (length letters) b es → Timed (length letters) (b + slowest + haul * length letters + shortest) (fit_group row duration span letters es)
  unfolding fit_group
  group-under es t =
      let n : ℕ = length letters in
      let c : ℕ = b + slowest + drift * n in
      let c' : ℕ = c + shortest in
      let limit : Float = js_min duration span.end in
      let fitted : Edges = fit_to_sound row limit letters es in
      let inside : Edges = keep_inside span fitted in
      let taken : Edges = take_trailing row span.end inside in
      let t₁ : Timed n c fitted = fit-under letters ls few row short limit b large (omega arith) (min-under steps b duration span.end d s.1) es t in
      let t₂ : Timed n c' inside = inside_under span b s n c (omega arith) (omega arith) fitted t₁ in
      let t₃ : Timed n c' taken = trailing-under row short c' (omega arith) span.end n inside t₂ in
      timed-more n (c' + 0 + stray * n) (b + slowest + haul * n + shortest) (even_out letters span.end taken) (omega arith)
      (even-under letters ls few span.end c' 0 (inr (under_more steps b (c' + 0) span.end (omega arith) s.1)) (omega arith) (omega arith) taken t₃)

-- ---- the words of phrase p, among n words
all-of-at : (P : ℕ → Type 0) (is : List ℕ) → AllOf P is → (r : ℕ) → r < length is → P (get_or is r 0)
all-of-at P [] h r l = absurd (omega arith)
all-of-at P (i ∷ is) h zero l = h.0
all-of-at P (i ∷ is) h (suc r) l = all-of-at P is h.1 r (omega arith)

members-few : (phrases : List ℕ) (p n : ℕ) → length (members_of phrases p n) ≤ n
members-few phrases p zero = unfold members_of each in omega arith
members-few phrases p (suc n) = next (members-few phrases p n)
  where
    ms : List ℕ
    ms = members_of phrases p n

    next : length ms ≤ n → length (members_of phrases p (suc n)) ≤ suc n
    next few = rw (add-one n) at (rw (members-next phrases p n) at (go (eqb (get_or phrases n 0) p) refl))
      where
        go : (t : Bool) → eqb (get_or phrases n 0) p ≡ t → length (member_turn phrases p n ms) ≤ suc n
        go true t = rw (turn-hit phrases p n ms (eqb-true (get_or phrases n 0) p t), length-append ms (n ∷ [])) (omega (arith, few))
        go false t = rw (turn-miss phrases p n ms (eqb-false (get_or phrases n 0) p t)) (omega (arith, few))

module _ (phrases : List ℕ) (n p : ℕ) where
  abbrev own : List ℕ
  own = members_of phrases p n

  -- what holds of each of n elements holds of each that is picked
  picked-each : {A : Type 0} (none : A) (P : A → Type 0) (xs : List A) → ((i : ℕ) → i < n → P (get_or xs i none)) → (r : ℕ) → r < length (picked none own xs) → P (get_or (picked none own xs) r none)
  picked-each none P xs h r l =
      let k : r < length own = omega (arith, l, picked-long none own xs) in
      subst P (sym (picked-at none own xs (get_or own r 0) (r, (k, refl))))
      (h (get_or own r 0) (all-of-at (λ (i : ℕ). (i < n) × (get_or phrases i 0 ≡ p)) own (members-all phrases p n) r k).0)

  picked-timed : (b : ℕ) (es : Edges) → Timed n b es → Timed (length own) b (picked_edges own es)
  unfolding picked_edges
  picked-timed b es t = record {
    starts-long = picked-long nan own es.starts;
    ends-long = picked-long nan own es.ends;
    small = record {
      starts = picked-each nan (UnderIn steps b) es.starts (λ i l. (at-timed n b i es l t).0);
      ends = picked-each nan (UnderIn steps b) es.ends (λ i l. (at-timed n b i es l t).1);
    };
  }

-- ---- both lists stay as long as they are
phrase-long : (row : List Bool) (duration : Float) (letters phrases : List ℕ) (span : Times) (p : ℕ) (es : Edges) → long (fit_phrase row duration letters phrases span p es) ≡ long es
unfolding fit_phrase put_edges
phrase-long row duration letters phrases span p es = go (eqb (length ms) 0)
  where
    ms : List ℕ
    ms = members_of phrases p (length es.starts)

    group : Edges
    group = fit_group row duration span (picked 0 ms letters) (picked_edges ms es)

    go : (t : Bool) → long (cond t es (put_edges ms group es)) ≡ long es
    go true = refl
    go false = both (put-long nan ms group.starts es.starts) (put-long nan ms group.ends es.ends)

pub file-long : (row : List Bool) (duration : Float) (letters phrases : List ℕ) (spans es : Edges) → long (fit_file row duration letters phrases spans es) ≡ long es
unfolding fit_file
file-long row duration letters phrases spans es =
    each_keeps long (λ (p : ℕ). fit_phrase row duration letters phrases (times_at spans p) p) (λ p s. phrase-long row duration letters phrases (times_at spans p) p s) (length spans.starts) 0 es

-- ---- all words: each is fitted with its phrase, or stays
module _ (letters : List ℕ) (ls : AllFrom 1 1000 letters) (few : length letters ≤ 4096) (row : List Bool) (short : length row ≤ 360000) (duration : Float) (phrases : List ℕ) (spans : Edges) (b : ℕ)
    (large : 3601 * steps ≤ b) (wide : b + 2 * slowest + haul * length letters + shortest ≤ farthest) (d : UnderIn steps b duration)
    (ss : (p : ℕ) → p < length spans.starts → TimesUnder b (times_at spans p)) (es : Edges) (t : Timed (length letters) b es) where
  abbrev n : ℕ
  n = length letters

  abbrev top : ℕ
  top = b + slowest + haul * length letters + shortest

  after : Edges
  after = fit_file row duration letters phrases spans es

  alone-under : (p : ℕ) → p < length spans.starts → Timed (length (members_of phrases p n)) top (fit_alone row duration (times_at spans p) (members_of phrases p n) letters (picked_edges (members_of phrases p n) es))
  unfolding fit_alone
  alone-under p h = go (eqb (length ms) 0)
    where
      ms : List ℕ
      ms = members_of phrases p n

      mine : List ℕ
      mine = picked 0 ms letters

      many : length mine ≡ length ms
      many = picked-long 0 ms letters

      group : Timed (length ms) b (picked_edges ms es)
      group = picked-timed phrases n p b es t

      ms-few : length ms ≤ n
      ms-few = members-few phrases p n

      go : (v : Bool) → Timed (length ms) top (cond v (picked_edges ms es) (fit_group row duration (times_at spans p) mine (picked_edges ms es)))
      go true = timed-more (length ms) b top (picked_edges ms es) (omega arith) group
      go false =
          timed-more (length ms) (b + slowest + haul * length mine + shortest) top (fit_group row duration (times_at spans p) mine (picked_edges ms es)) (omega (arith, many, ms-few))
          (subst (λ (k : ℕ). Timed k (b + slowest + haul * length mine + shortest) (fit_group row duration (times_at spans p) mine (picked_edges ms es))) many
          (group-under mine (picked-each phrases n p 0 (λ (k : ℕ). (1 ≤ k) × (k ≤ 1000)) letters ls) (omega (arith, many, ms-few)) row short duration (times_at spans p) b large (omega (arith, many, ms-few)) d (ss p h)
          (picked_edges ms es) (subst (λ (k : ℕ). Timed k b (picked_edges ms es)) (sym many) group)))

  lists : (length es.starts ≡ n) × (length es.ends ≡ n)
  lists = (t.starts-long, t.ends-long)

  word_at : (i : ℕ) → i < n → TimesUnder top (times_at after i)
  unfolding after picked_edges
  word_at i l = go (ltb p (length spans.starts)) refl
    where
      p : ℕ
      p = get_or phrases i 0

      ms : List ℕ
      ms = members_of phrases p n

      at : In i ms
      at = member-in phrases p n i l refl

      go : (v : Bool) → ltb p (length spans.starts) ≡ v → TimesUnder top (times_at after i)
      go true v =
          let h : p < length spans.starts = ltb-true p (length spans.starts) v in
          let e = phrase-alone row duration letters phrases spans n p es lists h in
          let u = at-timed (length ms) top at.0 (fit_alone row duration (times_at spans p) ms letters (picked_edges ms es)) at.1.0 (alone-under p h) in (
            subst (UnderIn steps top) (ap (λ (x : Edges). get_or x.starts at.0 nan) (sym e) ∙ picked-at nan ms after.starts i at) u.0,
            subst (UnderIn steps top) (ap (λ (x : Edges). get_or x.ends at.0 nan) (sym e) ∙ picked-at nan ms after.ends i at) u.1,
          )
      go false v =
          let e = spanless-stays row duration letters phrases spans n es i lists l (ltb-false p (length spans.starts) v) in
          let u = at-timed n b i es l t in (
            subst (UnderIn steps top) (ap (λ (x : Times). x.start) (sym e)) (under_more steps b top (get_or es.starts i nan) (omega arith) u.0),
            subst (UnderIn steps top) (ap (λ (x : Times). x.end) (sym e)) (under_more steps b top (get_or es.ends i nan) (omega arith) u.1),
          )

  pub file-under : Timed (length letters) (b + slowest + haul * length letters + shortest) (fit_file row duration letters phrases spans es)
  unfolding after
  file-under = record {
    starts-long = starts-long;
    ends-long = ends-long;
    small = record { starts = λ i l. (word_at i (omega (arith, l, starts-long))).0; ends = λ i l. (word_at i (omega (arith, l, ends-long))).1 };
  }
    where
      starts-long : length after.starts ≡ n
      starts-long = ap (λ (k : ℕ × ℕ). k.0) (file-long row duration letters phrases spans es) ∙ t.starts-long

      ends-long : length after.ends ≡ n
      ends-long = ap (λ (k : ℕ × ℕ). k.1) (file-long row duration letters phrases spans es) ∙ t.ends-long
