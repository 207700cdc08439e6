-- Every time that an accepted full run leaves is finite and below 2^13 in size. After loops, tails, onsets and ends a time is within 501,761 sixty-fourths, 7,840.02 s. Placing adds
-- less than 2^-27 s and drops words; a fit, as one or by phrase, adds less than 202 s. The places past the final words hold zero. Assumes nothing.
use Prim.Native.Nat.{ℕ, ◌+◌, ◌*◌, ◌/◌, ◌<◌, ◌≤◌, ◌^◌, min}
use mathlib.Core.Bool.{Bool, true, false, cond}
use mathlib.Core.List.{List}
use mathlib.Core.Path.{◌≡◌, refl, sym, ap, ◌∙◌, subst}
use native.Mathlib.Omega.{arith}
use lib.Dec.{eqb, lit≤}
use lib.ListN.{length, get_or}
use lib.Seq.{length-take-le}
use lib.Ieee.{Float, nan}
use Rattle.base.specs.Words.{Words, Spans, Edges, edges, with_edges, count, words_in_places}
use Rattle.base.specs.Parts.{OneLength}
use Rattle.word_calls.specs.Within.{AllFrom, WordsWithin, SpansWithin}
use Rattle.envelope.specs.Envelope.{levels, floor, loud_row, quiet_row}
use Rattle.envelope.proofs.Places.{length-levels}
use Rattle.loops.specs.Loops.{collapse_loops}
use Rattle.loops.proofs.Kept.{left-within}
use Rattle.phrase_align.specs.PhraseAlign.{Placing, align_phrases}
use Rattle.phrase_align.proofs.Facts.{After, placed-after}
use Rattle.fit_to_sound.specs.FitToSound.{fit_to_sound}
use Rattle.fit_file.specs.FitFile.{fit_file, duration_of}
use Rattle.run_stages.specs.Stages.{snapped, by_phrase, as_one, settled, run_on}
use Rattle.full_run.specs.FullRun.{Input, run_of, Output, full_run, RunWithin}
use Rattle.full_run.proofs.Promises.{accepted-leaves}
use Rattle.bounds.specs.Bounds.{SmallTimes, UnderIn, steps, stray, slowest, drift, shortest, haul, settling, Timed, in_row}
use Rattle.bounds.proofs.Rounding.{under_more, under-finer}
use Rattle.bounds.proofs.Parted.{each_take}
use Rattle.bounds.proofs.Placing.{align-under}
use Rattle.bounds.proofs.Fitting.{fit-under}
use Rattle.bounds.proofs.Phrasing.{file-under}
use Rattle.bounds.proofs.Small.{edges-small, within-under, places-small, hour-long, lasts-under, hour-lasts, stages-under, stages-long}

-- ---- On any levels, as many as samples / 160, and any floor.
module _ (ls : List Float) (f : Float) (samples : ℕ) (ws : Words) (sp : Spans) (phrases : List ℕ) (ww : WordsWithin ws) (sw : SpansWithin sp) (most : samples ≤ 57600000)
    (own : length ls ≡ samples / 160) where
  abbrev row : List Bool
  row = loud_row f ls

  abbrev duration : Float
  duration = duration_of samples

  abbrev left : Words
  left = (collapse_loops ws).words

  abbrev es : Edges
  es = in_row left ls f duration

  abbrev after : Words
  after = with_edges es left

  left_in : WordsWithin left
  left_in = left-within ws (ww)

  heard : (samples ≤ 57600000) × (length ls ≡ samples / 160)
  heard = (most, own)

  short : length row ≤ 360000
  short = hour-long ls f samples heard

  -- ---- after loops, tails, onsets and ends
  es-long : (length es.starts ≡ length left.starts) × (length es.ends ≡ length left.starts)
  es-long = stages-long left ls f samples duration (left_in, heard)

  timed : Timed (length left.letters) settling es
  timed =
      let u = stages-under left ls f samples duration (left_in, heard) (under_more 64 230400 460800 duration (lit≤ tt) (lasts-under samples (most))) in
      record {
        starts-long = es-long.0 ∙ sym left_in.letters-as-long;
        ends-long = es-long.1 ∙ sym left_in.letters-as-long;
        small = record {
          starts = λ j l. under-finer 64 (2 ^ 34) 501761 (get_or es.starts j nan) (u.starts j l);
          ends = λ j l. under-finer 64 (2 ^ 34) 501761 (get_or es.ends j nan) (u.ends j l);
        };
      }

  few : length left.letters ≤ 4096
  few = omega (arith, left_in.few, left_in.letters-as-long)

  lasts : (b : ℕ) → 7200 * steps ≤ b → UnderIn steps b duration
  lasts b l = under_more steps (7200 * steps) b duration l (hour-lasts samples (most))

  -- ---- without spans
  one-small : SmallTimes (as_one row duration phrases after).words
  unfolding as_one
  one-small =
      edges-small steps (settling + slowest + drift * length left.letters) (fit_to_sound row duration left.letters es) after (omega (arith, few))
      (fit-under left.letters left_in.letters-from-1 few row short duration settling (lit≤ tt) (omega (arith, few)) (lasts settling (lit≤ tt)) es timed).small

  -- ---- with spans: the words placed are the first of them, and a span's edges are within 7,200 s
  abbrev placed : Placing
  placed = align_phrases after sp

  abbrev all : Words
  all = placed.words

  even : OneLength (count after) after
  even =
      let k = left_in.keys-as-long in
      (es-long.0 ∙ sym k, (es-long.1 ∙ sym k, (left_in.letters-as-long ∙ sym k, (left_in.units-as-long ∙ sym k, refl))))

  facts : After after even sp sw.counts-as-long (length sp.starts) placed
  facts = placed-after after even sp sw.counts-as-long

  new : ℕ
  new = min placed.k (count after)

  new-few : new ≤ length left.letters
  unfolding new
  new-few = omega (arith, even.1.1.0)

  letters-long : length all.letters ≡ new
  unfolding new
  letters-long = rw facts.letters (length-take-le (min placed.k (count after)) left.letters new-few)

  letters-in : AllFrom 1 1000 all.letters
  letters-in = subst (AllFrom 1 1000) (sym facts.letters) (each_take (λ (n : ℕ). (1 ≤ n) × (n ≤ 1000)) 0 (min placed.k (count after)) left.letters left_in.letters-from-1)

  placed-few : length all.letters ≤ 4096
  placed-few = omega (arith, letters-long, new-few, few)

  span-start : (p : ℕ) → p < length sp.starts → UnderIn steps settling (get_or sp.starts p nan)
  span-start p l = under_more steps (7200 * steps) settling (get_or sp.starts p nan) (lit≤ tt) (within-under steps (get_or sp.starts p nan) (sw.starts-within p l))

  span-end : (p : ℕ) → p < length sp.ends → UnderIn steps settling (get_or sp.ends p nan)
  span-end p l = under_more steps (7200 * steps) settling (get_or sp.ends p nan) (lit≤ tt) (within-under steps (get_or sp.ends p nan) (sw.ends-within p l))

  placed-timed : Timed (length all.letters) (settling + stray) (edges all.starts all.ends)
  unfolding new
  placed-timed = record {
    starts-long = facts.starts-long ∙ sym letters-long;
    ends-long = facts.ends-long ∙ sym letters-long;
    small = align-under after sp settling (lit≤ tt) left_in.letters-from-1 few timed sw.ends-as-long span-start span-end;
  }

  more : (x : Float) → UnderIn steps settling x → UnderIn steps (settling + stray) x
  more x u = under_more steps settling (settling + stray) x (omega arith) u

  phrases-small : SmallTimes (by_phrase row duration sp phrases after).words
  unfolding by_phrase
  phrases-small =
      edges-small steps (settling + stray + slowest + haul * length all.letters + shortest)
      (fit_file row duration all.letters placed.phrases (edges sp.starts sp.ends) (edges all.starts all.ends)) all (omega (arith, placed-few))
      (file-under all.letters letters-in placed-few row short duration placed.phrases (edges sp.starts sp.ends) (settling + stray) (lit≤ tt) (omega (arith, placed-few)) (more duration (lasts settling (lit≤ tt)))
      (λ p l. (more (get_or sp.starts p nan) (span-start p l), more (get_or sp.ends p nan) (span-end p (omega (arith, l, sw.ends-as-long)))))
      (edges all.starts all.ends) placed-timed).small

  -- ---- the final words
  pub run_small : SmallTimes (run_on row (quiet_row f ls) samples sp phrases ws).words
  unfolding run_on settled snapped
  run_small = go (eqb (length sp.starts) 0)
    where
      go : (t : Bool) → SmallTimes (cond t (as_one row duration phrases after) (by_phrase row duration sp phrases after)).words
      go true = one-small
      go false = phrases-small

module _ (i : Input) (w : RunWithin i) where
  abbrev ls : List Float
  ls = levels i.samples

  small : SmallTimes (run_of i).words
  unfolding run_of
  small = run_small ls (floor ls) (length i.samples) i.words i.spans i.phrases w.words-within w.spans-within w.few-samples (length-levels i.samples)

  -- ---- Every time that an accepted full run leaves, also in the places past the final words, is finite and below 2^13.
  pub full-run-small : SmallTimes (full_run i).words
  unfolding words_in_places
  full-run-small =
      subst SmallTimes (sym (ap (λ (o : Output). o.words) (accepted-leaves i w))) (record {
        starts = places-small (count i.words) (run_of i).words.starts small.starts;
        ends = places-small (count i.words) (run_of i).words.ends small.ends;
      })
