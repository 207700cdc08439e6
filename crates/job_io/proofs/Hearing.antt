-- Samples that come a stretch at a time: after each stretch the first places hold the levels of all samples so far, and the buffer the bytes of the last. Assumes nothing.
use Prim.Native.Nat.{ℕ, ◌+◌, ◌-◌, ◌*◌, ◌/◌, ◌<◌, ◌≤◌, min}
use mathlib.Core.Bool.{Bool, true, false, true≢false}
use mathlib.Core.List.{List, [], ◌++◌, append-nil, append_assoc}
use mathlib.Core.Path.{◌≡◌, refl, sym, ap, ◌∙◌, subst}
use native.Mathlib.Omega.{arith}
use borrow.Author.Tests.{ltb-true, ltb-false, lt-ltb, le-ltb}
use lib.Dec.{ltb}
use lib.ListN.{length, take, drop, length-drop, length-append, drop_of_length-le}
use lib.Seq.{length-take-le, take_at, drop_at, take_all, drop-drop}
use lib.Ieee.{Float}
use Rattle.std.specs.Prelude.{Option}
use Rattle.std.specs.Io.KnownBytes.{Consumes}
use Rattle.std.proofs.KnownBytes.{Consumes-nil, Consumes-trans}
use Rattle.base.specs.Loop.{table}
use Rattle.base.specs.Words.{part, with_part}
use Rattle.base.proofs.Loops.{length-table}
use Rattle.envelope.specs.Envelope.{levels}
use Rattle.envelope.proofs.Places.{length-levels}
use Rattle.job_layout.specs.Layout.{samples_from, column}
use Rattle.job_layout.proofs.Moved.{samples-append}
use Rattle.job.proofs.Streaming.{levels-append}
use Rattle.job_io.specs.Answers.{last_from, EndsIn}
use Rattle.job_io.specs.Parts.{heard_stretch, HeardFrom}
use Rattle.job_io.proofs.Taking.{taken-all}

samples-long : (bytes : List ℕ) (n : ℕ) → length (samples_from bytes 0 n) ≡ n
unfolding samples_from column
samples-long bytes n = length-table _ n 0

-- ---- the levels of the first `done` samples in their places, and the last stretch in the buffer; what came is what the reader lost
pub record Hearing (old mid : Option (List ℕ)) (count done came : ℕ) (buffer : List ℕ) (before now : List Float) : Type 0 where
  pub bytes : List ℕ
  pub long : length bytes ≡ 4 * done
  pub counted : came ≡ 4 * done
  pub stretches-whole : done < count → 16000 * (done / 16000) ≡ done
  pub places : now ≡ levels (samples_from bytes 0 done) ++ drop (done / 160) before
  pub last-stretch : EndsIn done bytes buffer
  pub taken : Consumes old mid bytes

pub frames-whole : (done : ℕ) → 16000 * (done / 16000) ≡ done → 160 * (done / 160) ≡ done
frames-whole done h = omega arith

last-from : (done n : ℕ) → 16000 * (done / 16000) ≡ done → 0 < n → n ≤ 16000 → last_from (done + n) ≡ 4 * done
last-from done n h l m = omega arith

module _ (old : Option (List ℕ)) (count : ℕ) (before : List Float) where
  pub hearing-none : (buffer : List ℕ) → Hearing old old count 0 0 buffer before before
  unfolding samples_from column table levels
  hearing-none buffer = record { bytes = []; long = refl; counted = refl; stretches-whole = λ h. refl; places = refl; last-stretch = refl; taken = Consumes-nil old }

  module _ {mid : Option (List ℕ)} (new : Option (List ℕ)) {done came n k : ℕ} {buffer : List ℕ} {now : List Float} (h : Hearing old mid count done came buffer before now) (more : done < count) (few : n ≡ min (count - done) 16000) (at : k ≡ done / 160)
      (all : length before ≡ count / 160) where
    heard : List Float
    heard = levels (samples_from h.bytes 0 done)

    heard-long : length heard ≡ k
    unfolding heard
    heard-long = length-levels (samples_from h.bytes 0 done) ∙ ap (λ (x : ℕ). x / 160) (samples-long h.bytes done) ∙ sym at

    front : take k now ≡ heard
    unfolding heard
    front = ap (take k) h.places ∙ take_at heard (drop (done / 160) before) k heard-long

    rest : drop k now ≡ drop k before
    unfolding heard
    rest = ap (drop k) h.places ∙ drop_at heard (drop (done / 160) before) k heard-long ∙ ap (λ (x : ℕ). drop x before) (sym at)

    frames : 160 * (done / 160) ≡ done
    frames = frames-whole done (h.stretches-whole more)

    -- the next stretch came: its bytes are those that stand in the buffer
    hearing-more : (chunk : List ℕ) {lent after : List Float} {came' : ℕ} → length chunk ≡ 4 * n → lent ≡ levels (samples_from chunk 0 n) ++ drop (n / 160) (part k (length now) now)
        → after ≡ with_part k (length now) now lent → came' ≡ came + 4 * n → Consumes mid new chunk → Hearing old new count (done + n) came' (with_part 0 (4 * n) buffer chunk) before after
    unfolding heard
    hearing-more chunk {lent} {after} l e w more-came takes = record {
      bytes = h.bytes ++ chunk;
      long = length-append h.bytes chunk ∙ (let a = h.long in omega arith);
      counted = more-came ∙ (let a = h.counted in omega arith);
      stretches-whole = λ g. (let f = h.stretches-whole more in omega arith);
      places =
          w
          ∙ rw (
            front,
            e,
            drop_of_length-le (drop k now) {i = length now - k} (let d = length-drop k now in omega arith),
            append-nil (levels (samples_from chunk 0 n) ++ drop (n / 160) (part k (length now) now)),
            take_all (length now - k) (drop k now) (let d = length-drop k now in omega arith),
            rest,
            drop-drop (n / 160) k before,
          )
          (
          sym (append_assoc heard (levels (samples_from chunk 0 n)) (drop (k + n / 160) before))
          ∙ rw (joined, place)
          );
      last-stretch =
          rw (last-from done n (h.stretches-whole more) (omega arith) (omega arith))
          (drop_at h.bytes chunk (4 * done) h.long ∙ sym (take_at chunk (drop (4 * n - 0) (drop 0 buffer)) (4 * (done + n) - 4 * done) (l ∙ apart)));
      taken = Consumes-trans old mid new h.bytes chunk h.taken takes;
    }
      where
        joined : heard ++ levels (samples_from chunk 0 n) ≡ levels (samples_from (h.bytes ++ chunk) 0 (done + n))
        joined =
            sym (levels-append (samples_from h.bytes 0 done) (samples_from chunk 0 n) (done / 160) (samples-long h.bytes done ∙ sym frames))
            ∙ ap levels (sym (samples-append h.bytes chunk done n h.long l))

        place : k + n / 160 ≡ (done + n) / 160
        place = let f = frames in omega arith

        apart : 4 * n ≡ 4 * (done + n) - 4 * done
        apart = omega arith

    pub hearing-next : {m got came' : ℕ} {ended : Bool} (chunk : List ℕ) {lent after : List Float} → m ≡ n → length chunk ≡ 4 * n → ended ≡ false → got ≤ 4 * n → ended ≡ ltb got (4 * n)
        → lent ≡ heard_stretch ended chunk m (part k (length now) now) → after ≡ with_part k (length now) now lent → came' ≡ came + got
        → Consumes mid new (take got chunk) → Hearing old new count (done + n) came' (with_part 0 (4 * n) buffer chunk) before after
    unfolding heard_stretch
    hearing-next {m} {got} {came'} {ended} chunk {lent} {after} e l goes_on no_more said is w counts takes =
        let all-came = ltb-false got (4 * n) (sym said ∙ goes_on) in
        let full : got ≡ 4 * n = omega arith in
        hearing-more chunk l (is ∙ rw (goes_on, e)) w (counts ∙ ap (λ (x : ℕ). came + x) full)
        (taken-all mid new got chunk (full ∙ sym l) takes)

    -- the next stretch came in part
    pub hearing-part : (got : ℕ) {came' : ℕ} {ended : Bool} (chunk buffer' : List ℕ) (ls : List Float) → length chunk ≡ 4 * n → ended ≡ true → ended ≡ ltb got (4 * n) → came' ≡ came + got
        → Consumes mid new (take got chunk) → HeardFrom old new count came' true buffer' ls
    hearing-part got {came'} {ended} chunk buffer' ls l ends said counts takes =
        let a = h.long in
        let c = h.counted in
        let short = ltb-true got (4 * n) (sym said ∙ ends) in
        let t = length-take-le got chunk (omega arith) in
        let fewer : came' < 4 * count = omega arith in
        record {
          heard = record {
            bytes = h.bytes ++ take got chunk;
            long = length-append h.bytes (take got chunk) ∙ (omega (arith, a, c, t, counts));
            few = omega arith;
            ended_is = sym (lt-ltb came' (4 * count) fewer);
            levels-are = λ e. absurd (true≢false e);
            last-stretch = λ e. absurd (true≢false e);
          };
          taken = Consumes-trans old mid new h.bytes (take got chunk) h.taken takes;
        }

  pub hearing-all : {mid : Option (List ℕ)} {done came : ℕ} {buffer : List ℕ} {now : List Float} → Hearing old mid count done came buffer before now → done ≤ count → count ≤ done → length before ≡ count / 160 → HeardFrom old mid count came false buffer now
  hearing-all {mid} {done} {came} {buffer} {now} h l m e =
      let same : done ≡ count = omega arith in
      record {
        heard = record {
          bytes = h.bytes;
          long = h.long ∙ sym h.counted;
          few = (let c = h.counted in omega arith);
          ended_is = (let c = h.counted in sym (le-ltb came (4 * count) (omega arith)));
          levels-are = λ g.
              h.places
              ∙ rw (same, drop_of_length-le before {i = count / 160} (omega arith))
              (append-nil (levels (samples_from h.bytes 0 count)));
          last-stretch = λ g. subst (λ (x : ℕ). EndsIn x h.bytes buffer) same h.last-stretch;
        };
        taken = h.taken;
      }
