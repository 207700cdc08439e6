-- What came, put together from what was read one after another. Assumes nothing.
use Prim.Native.Nat.{ℕ, ◌+◌, ◌*◌, ◌/◌, ◌≤◌}
use mathlib.Core.Bool.{Bool, true, false}
use mathlib.Core.List.{List, [], ◌++◌}
use mathlib.Core.Path.{◌≡◌, refl, sym, ap, ◌∙◌, subst}
use native.Mathlib.Omega.{arith}
use borrow.Author.Tests.{ltb-true, ltb-false, lt-ltb, le-ltb}
use lib.Dec.{ltb}
use lib.ListN.{length, take, length-append}
use lib.Seq.{length-take-le, take_at}
use lib.Ieee.{Float}
use Rattle.std.specs.Prelude.{Option, Result, Ok, Err}
use Rattle.std.specs.Io.KnownBytes.{Consumes}
use Rattle.base.specs.Loop.{table}
use Rattle.base.specs.Words.{with_part}
use Rattle.base.specs.declared.Refusal.{Refusal}
use Rattle.envelope.specs.Envelope.{levels}
use Rattle.job_layout.specs.Layout.{Contents, contents, too_many, gapless, file_size, column, samples_from}
use Rattle.job_layout.specs.Parts.{plan_of}
use Rattle.job_layout.specs.declared.Numbers.{Numbers}
use Rattle.job_layout.proofs.Tables.{holds-within}
use Rattle.job.specs.Came.{Came, body_size, wanted}
use Rattle.job.specs.Printed.{printed}
use Rattle.job.proofs.Front.{wanted-table, wanted-holds, wanted-breaks}
use Rattle.job_io.specs.Answers.{EndsIn, Answers, Taken}
use Rattle.job_io.specs.Parts.{Heard, HeardFrom, Follows, FollowsFrom, ReceivedFrom}
use Rattle.job_io.proofs.Taking.{taken-all, taken-of-all, taken-front, taken-behind}

-- ---- where the input did not end, all came
pub all-came : (got size : ℕ) {ended : Bool} → ended ≡ false → got ≤ size → ended ≡ ltb got size → got ≡ size
all-came got size goes_on few said = let m = ltb-false got size (sym said ∙ goes_on) in omega arith

-- ---- after the table
more-alike : (x got : ℕ) {sum end : ℕ} → sum ≡ x + got → end ≡ x + 1 → ltb got 1 ≡ ltb sum end
more-alike x got {sum} {end} e d = go (ltb got 1) refl
  where
    go : (b : Bool) → ltb got 1 ≡ b → ltb got 1 ≡ ltb sum end
    go true h = h ∙ sym (lt-ltb sum end (let l = ltb-true got 1 h in omega (arith, l, e, d)))
    go false h = h ∙ sym (le-ltb sum end (let l = ltb-false got 1 h in omega (arith, l, e, d)))

module _ {count : ℕ} (old mid : Option (List ℕ)) (bodies : List ℕ) {buffer : List ℕ} {ls : List Float} where
  -- words and spans end too soon
  pub follows-short : {came : ℕ} {ended : Bool} → ended ≡ true → ended ≡ ltb came (length bodies) → Consumes old mid (take came bodies) → FollowsFrom old mid count came ended bodies buffer ls
  follows-short {came} ends said takes =
      let h = ltb-true came (length bodies) (sym said ∙ ends) in
      record {
        follows = record {
          samples = [];
          more = [];
          enough = omega arith;
          few = omega arith;
          ended_is = ends ∙ sym (lt-ltb came (length bodies + 4 * count + 1) (omega arith));
          whole-samples = λ e. absurd (omega (arith, e, h));
          levels-are = λ e. absurd (omega (arith, e, h));
          last-stretch = λ e. absurd (omega (arith, e, h));
        };
        taken = taken-front old mid came bodies ([] ++ []) (omega arith) takes;
      }

  module _ {came heard : ℕ} {over : Bool} (new : Option (List ℕ)) (all : came ≡ length bodies) (takes : Consumes old mid (take came bodies)) (from : HeardFrom mid new count heard over buffer ls) where
    abbrev h : Heard count heard over buffer ls
    h = from.heard

    rows : Consumes old mid bodies
    rows = taken-all old mid came bodies all takes

    -- the samples end too soon
    pub follows-part : {sum : ℕ} → over ≡ true → sum ≡ came + heard → FollowsFrom old new count sum true bodies buffer ls
    follows-part {sum} ends is =
        let l = h.long in
        let short = ltb-true heard (4 * count) (sym h.ended_is ∙ ends) in
        record {
          follows = record {
            samples = h.bytes;
            more = [];
            enough = omega arith;
            few = omega arith;
            ended_is = sym (lt-ltb sum (length bodies + 4 * count + 1) (omega arith));
            whole-samples = λ e. absurd (omega (arith, e, short));
            levels-are = λ e. absurd (omega (arith, e, short));
            last-stretch = λ e. absurd (omega (arith, e, short));
          };
          taken =
              taken-behind old mid new sum heard bodies (h.bytes ++ []) (omega arith) rows
              (taken-front mid new heard h.bytes [] (omega arith) (taken-of-all mid new heard h.bytes (sym l) from.taken));
        }

    -- all came, and perhaps a byte more
    pub follows-all : {sum got : ℕ} {ended : Bool} (last : Option (List ℕ)) (more : List ℕ) → over ≡ false → got ≤ length more → length more ≡ 1 → ended ≡ ltb got 1 → sum ≡ came + heard + got
        → Consumes new last (take got more) → FollowsFrom old last count sum ended bodies buffer ls
    follows-all {sum} {got} {ended} last more whole fits one said is takes-last =
        let l = h.long in
        let f = h.few in
        let m = ltb-false heard (4 * count) (sym h.ended_is ∙ whole) in
        let e : heard ≡ 4 * count = omega arith in
        record {
          follows = record {
            samples = h.bytes;
            more = more;
            enough = omega arith;
            few = omega arith;
            ended_is = said ∙ more-alike (length bodies + 4 * count) got (omega arith) refl;
            whole-samples = λ g. l ∙ e;
            levels-are = λ g. h.levels-are whole;
            last-stretch = λ g. h.last-stretch whole;
          };
          taken =
              taken-behind old mid last sum (heard + got) bodies (h.bytes ++ more) (omega arith) rows
              (taken-behind mid new last (heard + got) got h.bytes more (omega arith) from.taken takes-last);
        }

-- ---- how much decides
file-size : (c : Contents) → file_size c ≡ 24 + 28 * c.words + 20 * c.spans + 4 * c.samples
unfolding file_size
file-size c = refl

later : (a b : ℕ) {x y : ℕ} → x ≡ 24 + a → y ≡ 24 + b → ltb a b ≡ ltb x y
later a b {x} {y} p q = go (ltb a b) refl
  where
    go : (s : Bool) → ltb a b ≡ s → ltb a b ≡ ltb x y
    go true h = h ∙ sym (lt-ltb x y (let l = ltb-true a b h in omega (arith, l, p, q)))
    go false h = h ∙ sym (le-ltb x y (let l = ltb-false a b h in omega (arith, l, p, q)))

-- ---- no samples
none-heard : (ls : List Float) (n : ℕ) → n ≡ 0 → take (n / 160) ls ≡ levels (samples_from [] 0 n)
unfolding samples_from column table levels
none-heard ls n e = rw e

none-ends : (buffer : List ℕ) (n : ℕ) → n ≡ 0 → EndsIn n [] buffer
none-ends buffer n e = rw e

-- ---- the table, and what follows
module _ (old mid : Option (List ℕ)) (t : List ℕ) (long : length t ≡ 24) (bodies buffer : List ℕ) (ls : List Float) where
  abbrev front : List ℕ
  front = t ++ (take (body_size (contents t)) bodies ++ ([] ++ []))

  front_long : 24 ≤ length front
  front_long = let l = length-append t (take (body_size (contents t)) bodies ++ ([] ++ [])) in omega arith

  -- the table at the most
  table-parts : {came : ℕ} → came ≤ 24 → {ended : Bool} → ended ≡ ltb came (wanted (contents t)) → Consumes old mid (take came t) → ReceivedFrom old mid came ended t bodies buffer ls
  table-parts {came} h said takes =
      let l = front_long in
      record {
        received = record {
          file = take came front;
          parts = record {
            samples = [];
            more = [];
            file-is = refl;
            long = length-take-le came front (omega arith);
            whole-samples = λ e. (let z = file-size (contents t) in omega (arith, e, z));
            levels-are = λ e. none-heard ls (contents t).samples (let z = file-size (contents t) in omega (arith, e, z));
          };
          last-stretch = λ e. none-ends buffer (contents t).samples (let z = file-size (contents t) in omega (arith, e, z));
          asked = (let w = wanted-table (contents t) in omega arith);
          ended_is = said;
        };
        taken = taken-front old mid came t (take (body_size (contents t)) bodies ++ ([] ++ [])) (omega arith) takes;
      }

  -- less than a table
  pub received-short : {came : ℕ} {ended : Bool} → ended ≡ true → ended ≡ ltb came 24 → Consumes old mid (take came t) → ReceivedFrom old mid came ended t bodies buffer ls
  received-short {came} ends said takes =
      let h = ltb-true came 24 (sym said ∙ ends) in
      table-parts (omega arith) (ends ∙ sym (lt-ltb came (wanted (contents t)) (let w = wanted-table (contents t) in omega arith))) takes

  -- a table that says no
  pub received-breaks : {came : ℕ} {ended : Bool} {plan : Result Numbers Refusal} {why : Refusal} → plan ≡ plan_of (contents t) → plan ≡ Err why → came ≤ 24 → ended ≡ ltb came 24 → Consumes old mid (take came t) → ReceivedFrom old mid came ended t bodies buffer ls
  received-breaks {came} is breaks h said takes = table-parts h (said ∙ ap (ltb came) (sym (wanted-breaks (contents t) (sym is ∙ breaks)))) takes

  -- a table that holds, and what was read behind it
  module _ (numbers : Numbers) (holds : plan_of (contents t) ≡ Ok numbers) where
    says : (too_many (contents t) ≡ false) × ((gapless (contents t) ≡ true) × ((numbers.words ≡ (contents t).words) × ((numbers.spans ≡ (contents t).spans) × (numbers.samples ≡ (contents t).samples))))
    says = holds-within (contents t) numbers holds

    module _ (b : List ℕ) (l : List Float) {came : ℕ} {ended : Bool} (new : Option (List ℕ)) (from : FollowsFrom mid new numbers.samples came ended b buffer l) (size : length b ≡ 28 * numbers.words + 20 * numbers.spans)
        (frames : length l ≡ numbers.samples / 160) where
      abbrev f : Follows numbers.samples came ended b buffer l
      f = from.follows

      abbrev bodies-after : List ℕ
      bodies-after = with_part 0 (28 * numbers.words + 20 * numbers.spans) bodies b

      abbrev levels-after : List Float
      levels-after = with_part 0 (numbers.samples / 160) ls l

      body-size : body_size (contents t) ≡ 28 * numbers.words + 20 * numbers.spans
      body-size = rw (says.1.1.0, says.1.1.1.0)

      bodies-first : take (body_size (contents t)) bodies-after ≡ b
      bodies-first = rw body-size (take_at b _ (28 * numbers.words + 20 * numbers.spans) size)

      levels-first : take ((contents t).samples / 160) levels-after ≡ l
      levels-first = rw (← says.1.1.1.1) (take_at l _ (numbers.samples / 160) frames)

      told : file_size (contents t) ≡ 24 + length b + 4 * numbers.samples
      told = let z = file-size (contents t) in let w = says.1.1.0 in let s = says.1.1.1.0 in let n = says.1.1.1.1 in omega (arith, z, w, s, n, size)

      behind : {sum : ℕ} → sum ≡ 24 + came → file_size (contents t) ≤ sum → length b + 4 * numbers.samples ≤ came
      behind e h = let z = told in omega (arith, e, h, z)

      pub received-bodies : {first sum : ℕ} → first ≡ 24 → sum ≡ first + came → Consumes old mid (take first t) → ReceivedFrom old new sum ended t bodies-after buffer levels-after
      received-bodies {first} {sum} one two takes =
          let e : sum ≡ 24 + came = omega arith in
          record {
            received = record {
              file = take sum (t ++ (b ++ (f.samples ++ f.more)));
              parts = record {
                samples = f.samples;
                more = f.more;
                file-is = rw bodies-first;
                long =
                    length-take-le sum (t ++ (b ++ (f.samples ++ f.more))) (
                    let x = length-append t (b ++ (f.samples ++ f.more)) in
                    let y = length-append b (f.samples ++ f.more) in
                    let z = length-append f.samples f.more in
                    let g = f.enough in
                    omega (arith, x, y, z, g, e, long)
                    );
                whole-samples = λ h. rw (← says.1.1.1.1) (f.whole-samples (behind e h));
                levels-are = λ h. levels-first ∙ rw (← says.1.1.1.1) (f.levels-are (behind e h));
              };
              last-stretch = λ h. subst (λ (n : ℕ). EndsIn n f.samples buffer) says.1.1.1.1 (f.last-stretch (behind e h));
              asked = (let w = wanted-holds (contents t) says.0 says.1.0 in let z = told in let g = f.few in omega (arith, w, z, g, e));
              ended_is = f.ended_is ∙ later came (length b + 4 * numbers.samples + 1) e (wanted-holds (contents t) says.0 says.1.0 ∙ (let z = told in omega arith));
            };
            taken = taken-behind old mid new sum came t (b ++ (f.samples ++ f.more)) (omega arith) (taken-all old mid first t (omega arith) takes) from.taken;
          }

-- ---- and what is printed for it
pub answers : {old new : Option (List ℕ)} {came r room : ℕ} {ended : Bool} {t bodies buffer text : List ℕ} {ls : List Float} → ReceivedFrom old new came ended t bodies buffer ls
    → ((file : List ℕ) → Came came t bodies ls file → text ≡ printed file) × (r ≤ room) → Answers came ended t bodies buffer ls text × (r ≤ room)
answers h (prints, fits) = (record { received = h.received; prints = prints }, fits)

-- ---- a file of which this came is what the reader lost
pub takes-file : {old new : Option (List ℕ)} {came : ℕ} {ended : Bool} {t bodies buffer : List ℕ} {ls : List Float} → ReceivedFrom old new came ended t bodies buffer ls → Taken old new came t bodies ls
takes-file h = record { file = h.received.file; parts = h.received.parts; taken = h.taken }
