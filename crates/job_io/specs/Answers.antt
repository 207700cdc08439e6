-- What the program promises (document 01, "Tally, peak, job file"), of the bytes that stand in its places when it is done. Of a file and of standard
-- input no contract says which bytes a read brings, but only how many; so the promise speaks of what came. Assumes nothing.
use Rattle.std.specs.Prelude.{ℕ, ◌-◌, ◌*◌, ◌/◌, ◌≤◌, Bool, ◌≡◌, List, Option, ltb, take, drop, Float}
use Rattle.std.specs.Io.KnownBytes.{Consumes, Appends}
use Rattle.job_layout.specs.Layout.{contents, file_size, sample_size}
use Rattle.job.specs.Came.{Came, wanted}
use Rattle.job.specs.Printed.{printed}

-- ---- Samples come 16,000 at a time, and each stretch stands in the same places as the one before.
abbrev pub stretch : ℕ
stretch = 16000

-- ---- The byte at which the last stretch of so many samples begins.
abbrev pub last_from : ℕ → ℕ
last_from count = sample_size * (stretch * ((count - 1) / stretch))

-- ---- The samples' bytes end with those that stand in the stretch's places.
abbrev pub EndsIn : ℕ → List ℕ → List ℕ → Type 0
EndsIn count samples buffer = drop (last_from count) samples ≡ take (sample_size * count - last_from count) buffer

-- ---- There is a file of the `came` bytes that came: table, words and spans stand in their places, of the samples the levels and the last stretch.
-- No more bytes came than decide, and fewer exactly where `ended` says that there are no more.
pub record Received (came : ℕ) (ended : Bool) (table bodies buffer : List ℕ) (ls : List Float) : Type 0 where
  pub file : List ℕ
  pub parts : Came came table bodies ls file
  pub last-stretch : file_size (contents table) ≤ came → EndsIn (contents table).samples parts.samples buffer
  pub asked : came ≤ wanted (contents table)
  pub ended_is : ended ≡ ltb came (wanted (contents table))

-- ---- And the text is what document 01 prints for every such file: of so many bytes, with this table, these words and spans, and samples of these levels.
pub record Answers (came : ℕ) (ended : Bool) (table bodies buffer : List ℕ) (ls : List Float) (text : List ℕ) : Type 0 where
  pub received : Received came ended table bodies buffer ls
  pub prints : (file : List ℕ) → Came came table bodies ls file → text ≡ printed file

-- ---- Of a reader whose bytes are known, such a file is what it lost: the first of the bytes that it had left, in order, and no others.
pub record Taken (old new : Option (List ℕ)) (came : ℕ) (table bodies : List ℕ) (ls : List Float) : Type 0 where
  pub file : List ℕ
  pub parts : Came came table bodies ls file
  pub taken : Consumes old new file

-- ---- Of a reader and a writer whose bytes are known: what is written is what document 01 prints for the bytes that the reader lost, and nothing else.
pub record Replies (old new before after : Option (List ℕ)) : Type 0 where
  pub file : List ℕ
  pub taken : Consumes old new file
  pub writes : Appends before after (printed file)
