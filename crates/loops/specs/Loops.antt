-- loops.rs, and document 01's "Loops": "three or more equal neighbouring runs of n keys become one", for n = 1 to 4. Assumes nothing.
use Rattle.loops.specs.declared.Left.{Left}
use Rattle.base.specs.declared.Refusal.{Refusal}
use Rattle.std.specs.Prelude.{ℕ, ◌+◌, ◌*◌, Bool, true, false, cond, ◌&&◌, List, [], ◌∷◌, ◌++◌, ℤ, pos, eqb, leb, take, drop, Ok, Err, Result}
use Rattle.base.specs.Loop.{Turn, on, out, run, each}
use Rattle.base.specs.Words.{Words, words, count, words_in_places}
use Rattle.base.specs.Refusals.{Rule}
use Rattle.limits.specs.Order.{chain}
use Rattle.word_calls.specs.Calls.{of_words}

-- ======== One place: a run of n keys, and its copies.

-- ---- MAX_RUN: n goes up to 4. MIN_COPIES: three equal runs are a loop.
abbrev pub max_run : ℕ
max_run = 4

abbrev pub min_copies : ℕ
min_copies = 3

-- ---- Two lists of keys are equal.
unfoldable pub equal : List ℕ → List ℕ → Bool
equal [] [] = true
equal [] (y ∷ ys) = false
equal (x ∷ xs) [] = false
equal (x ∷ xs) (y ∷ ys) = eqb x y && equal xs ys

-- ---- keys[a..a + n]
abbrev pub part : List ℕ → ℕ → ℕ → List ℕ
part keys a n = take n (drop a keys)

-- ---- Two runs of n words are equal: keys[a..a + n] == keys[b..b + n].
unfoldable pub same : ℕ → Words → ℕ → ℕ → Bool
same n ws a b = equal (part ws.keys a n) (part ws.keys b n)

-- ---- while end + n <= out.len() && same(&keys, i, end) { end += n; }, from end = i + n. A turn goes on by a word or more, so there are
-- no more turns than words.
abbrev pub copy_turn : ℕ → Words → ℕ → ℤ → ℕ → Turn ℕ
copy_turn n ws i k end = cond (leb (end + n) (count ws) && same n ws i end) (on (end + n)) (out end)

unfoldable pub copies_end : ℕ → Words → ℕ → ℕ
copies_end n ws i = run (copy_turn n ws i) (count ws) (pos 0) (on (i + n))

-- ---- out.drain(a..e), keys.drain(a..e)
abbrev pub drained : {A : Type 0} → ℕ → ℕ → List A → List A
drained a e xs = take a xs ++ drop e xs

abbrev pub drain : ℕ → ℕ → Words → Words
drain a e ws = words (drained a e ws.starts) (drained a e ws.ends) (drained a e ws.letters) (drained a e ws.units) (drained a e ws.keys)

-- ---- i + MIN_COPIES * n <= out.len(), and same(&keys, i, i + n) && same(&keys, i, i + 2 * n)
unfoldable pub is_loop : ℕ → ℕ → Words → Bool
is_loop n i ws = leb (i + min_copies * n) (count ws) && (same n ws i (i + n) && same n ws i (i + 2 * n))

-- ======== One pass, and all passes.

-- ---- struct Collapsed: "The words, each loop down to its first copy", and whether "a loop was collapsed".
pub record Collapsed : Type 0 where
  pub words : Words
  pub found : Bool

-- ---- One place i: a loop there keeps its first copy. Past the last place with room for three copies the words stay, as where the Rust's
-- `while` has ended.
unfoldable pub loop_turn : ℕ → ℕ → Collapsed → Collapsed
loop_turn n i c = cond (is_loop n i c.words) (record { words = drain (i + n) (copies_end n c.words i) c.words; found = true }) c

-- ---- One pass, for runs of n words: let mut i = 0; while i + MIN_COPIES * n <= out.len() { .. i += 1; }
unfoldable pub pass : ℕ → Collapsed → Collapsed
pass n c = each (loop_turn n) (count c.words) 0 c

-- ---- collapse_loops: for n in 1..=MAX_RUN
unfoldable pub collapse_loops : Words → Collapsed
collapse_loops ws = each pass max_run 1 (record { words = ws; found = false })

-- ======== What the public call answers and leaves: "the new count, and a yes exactly when it is smaller (`found`)".

abbrev pub left : ℕ → Bool → Left
left n found = record { count = n; found = found }

pub record Output : Type 0 where
  pub answer : Result Left Refusal
  pub words : Words

abbrev pub output : Result Left Refusal → Words → Output
output a ws = record { answer = a; words = ws }

abbrev pub accepted : Collapsed → ℕ → Output
accepted c places = output (Ok (left (count c.words) c.found)) (words_in_places places c.words)

abbrev pub by_rule : Rule → Words → Output
by_rule (Ok u) ws = accepted (collapse_loops ws) (count ws)
by_rule (Err r) ws = output (Err r) ws

-- ---- Refusals 3, 4, 1, 2, in this order.
unfoldable pub collapse_call : Words → Output
collapse_call ws = by_rule (chain (of_words ws)) ws
