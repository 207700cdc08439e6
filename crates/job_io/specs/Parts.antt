-- What only the contracts of unchecked parts cite; a reader of the program's promise may skip it. Assumes nothing.
use Rattle.std.specs.Prelude.{ℕ, ◌+◌, ◌*◌, ◌/◌, ◌≤◌, Bool, false, cond, ◌≡◌, List, Option, ◌++◌, ltb, length, take, drop, Float}
use Rattle.std.specs.Io.KnownBytes.{Consumes}
use Rattle.envelope.specs.Envelope.{levels}
use Rattle.job_layout.specs.Layout.{sample_size, samples_from}
use Rattle.job_io.specs.Answers.{EndsIn, Received}

-- ---- The places of levels after a stretch of n samples: where the input did not end before, the levels of the samples that stand in `bytes`.
unfoldable pub heard_stretch : Bool → List ℕ → ℕ → List Float → List Float
heard_stretch ended bytes n before = cond ended before (levels (samples_from bytes 0 n) ++ drop (n / 160) before)

-- ---- "of which it keeps only the levels": where all bytes of so many samples came, these are their levels, and their last stretch stands in the buffer.
pub record Heard (count came : ℕ) (ended : Bool) (buffer : List ℕ) (ls : List Float) : Type 0 where
  pub bytes : List ℕ
  pub long : length bytes ≡ came
  pub few : came ≤ sample_size * count
  pub ended_is : ended ≡ ltb came (sample_size * count)
  pub levels-are : ended ≡ false → ls ≡ levels (samples_from bytes 0 count)
  pub last-stretch : ended ≡ false → EndsIn count bytes buffer

-- ---- What came after a table: words and spans, which fill `bodies`, then so many samples, and one byte more at the most.
pub record Follows (count came : ℕ) (ended : Bool) (bodies buffer : List ℕ) (ls : List Float) : Type 0 where
  pub samples : List ℕ
  pub more : List ℕ
  pub enough : came ≤ length bodies + (length samples + length more)
  pub few : came ≤ length bodies + sample_size * count + 1
  pub ended_is : ended ≡ ltb came (length bodies + sample_size * count + 1)
  pub whole-samples : length bodies + sample_size * count ≤ came → length samples ≡ sample_size * count
  pub levels-are : length bodies + sample_size * count ≤ came → ls ≡ levels (samples_from samples 0 count)
  pub last-stretch : length bodies + sample_size * count ≤ came → EndsIn count samples buffer

-- ---- The same, and of a reader whose bytes are known that what came is what it lost.
pub record HeardFrom (old new : Option (List ℕ)) (count came : ℕ) (ended : Bool) (buffer : List ℕ) (ls : List Float) : Type 0 where
  pub heard : Heard count came ended buffer ls
  pub taken : Consumes old new heard.bytes

pub record FollowsFrom (old new : Option (List ℕ)) (count came : ℕ) (ended : Bool) (bodies buffer : List ℕ) (ls : List Float) : Type 0 where
  pub follows : Follows count came ended bodies buffer ls
  pub taken : Consumes old new (take came (bodies ++ (follows.samples ++ follows.more)))

pub record ReceivedFrom (old new : Option (List ℕ)) (came : ℕ) (ended : Bool) (table bodies buffer : List ℕ) (ls : List Float) : Type 0 where
  pub received : Received came ended table bodies buffer ls
  pub taken : Consumes old new received.file
