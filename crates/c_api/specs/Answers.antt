-- An answer as numbers: refusal 0 and the value where the call accepts, document 01's number of the refusal and 0 where it refuses. Assumes nothing.
use Rattle.std.specs.Prelude.{ℕ, ◌≡◌, cond, List, Float, Option, Some, None, Result, Ok, Err}
use Rattle.std.specs.Float.{binary64}
use Rattle.std.specs.Float.Ieee.{of_bits}
use Rattle.base.specs.Refusals.{number, Rule}
use Rattle.base.specs.Words.{Words}
use Rattle.base.specs.declared.Refusal.{Refusal}
use Rattle.base.specs.declared.Times.{Times}
use Rattle.loops.specs.declared.Left.{Left}
use Rattle.full_run.specs.declared.Report.{Report}
use Rattle.loops.specs.Loops as loops
use Rattle.phrase_align.specs.PhraseAlign as phrases
use Rattle.word_calls.specs.Calls as calls
use Rattle.tally.specs.Tally as tally
use Rattle.full_run.specs.FullRun as full
use Rattle.c_api.specs.declared.QiluvraitReport.{QiluvraitReport}
use Rattle.c_api.specs.declared.QiluvraitLevel.{QiluvraitLevel}
use Rattle.c_api.specs.declared.QiluvraitRun.{QiluvraitRun}
use Rattle.c_api.specs.declared.QiluvraitHeard.{QiluvraitHeard}
use Rattle.c_api.specs.declared.QiluvraitCut.{QiluvraitCut}
use Rattle.c_api.specs.declared.QiluvraitLeft.{QiluvraitLeft}
use Rattle.c_api.specs.declared.QiluvraitPlaced.{QiluvraitPlaced}

-- ---- The floor, or why there is none.
abbrev pub heard_of : Result Float Refusal → QiluvraitHeard
heard_of (Ok f) = record { refusal = 0; floor = f }
heard_of (Err r) = record { refusal = number r; floor = of_bits binary64 0 }

-- ---- The number of pieces, or why there is none.
abbrev pub cut_of : Result ℕ Refusal → QiluvraitCut
cut_of (Ok n) = record { refusal = 0; pieces = n }
cut_of (Err r) = record { refusal = number r; pieces = 0 }

-- ---- The largest magnitude under a word, or why there is none.
abbrev pub level_of : Result Float Refusal → QiluvraitLevel
level_of (Ok v) = record { refusal = 0; level = v }
level_of (Err r) = record { refusal = number r; level = of_bits binary64 0 }

-- ---- 1 and a run's two times, or 0 and zeros for no sound, or why there is no answer.
abbrev pub run_of : Option Times → QiluvraitRun
run_of (Some w) = record { refusal = 0; found = 1; start = w.start; end = w.end }
run_of None = record { refusal = 0; found = 0; start = of_bits binary64 0; end = of_bits binary64 0 }

abbrev pub searched_of : Result (Option Times) Refusal → QiluvraitRun
searched_of (Ok r) = run_of r
searched_of (Err r) = record { refusal = number r; found = 0; start = of_bits binary64 0; end = of_bits binary64 0 }

-- ---- 0 where the times of words were moved, or why they were not; and the words afterwards.
abbrev pub moved_of : Rule → ℕ
moved_of (Ok u) = 0
moved_of (Err r) = number r

pub record Reply : Type 0 where
  pub refusal : ℕ
  pub words : Words

abbrev pub reply : ℕ → Words → Reply
reply n ws = record { refusal = n; words = ws }

unfoldable pub reply_of : calls.Output → Reply
reply_of o = reply (moved_of o.answer) o.words

-- ---- 0 where the tallies were written, or why they were not; and the places afterwards.
pub record Tallied : Type 0 where
  pub refusal : ℕ
  pub places : List ℕ

abbrev pub tallied : ℕ → List ℕ → Tallied
tallied n p = record { refusal = n; places = p }

unfoldable pub tallied_of : tally.Output → Tallied
tallied_of o = tallied (moved_of o.answer) o.places

-- ---- The words left and 1 where a loop was found, or why there is no answer; and the words afterwards.
abbrev pub left_of : Result Left Refusal → QiluvraitLeft
left_of (Ok left) = record { refusal = 0; found = cond left.found 1 0; count = left.count }
left_of (Err r) = record { refusal = number r; found = 0; count = 0 }

pub record Leaves : Type 0 where
  pub left : QiluvraitLeft
  pub words : Words

abbrev pub leaves : QiluvraitLeft → Words → Leaves
leaves l ws = record { left = l; words = ws }

unfoldable pub leaves_of : loops.Output → Leaves
leaves_of o = leaves (left_of o.answer) o.words

-- ---- The number of words placed, or why there is none; and the words and the phrase places afterwards.
abbrev pub placed_of : Result ℕ Refusal → QiluvraitPlaced
placed_of (Ok n) = record { refusal = 0; count = n }
placed_of (Err r) = record { refusal = number r; count = 0 }

pub record Placement : Type 0 where
  pub placed : QiluvraitPlaced
  pub words : Words
  pub phrases : List ℕ

abbrev pub placement : QiluvraitPlaced → Words → List ℕ → Placement
placement p ws f = record { placed = p; words = ws; phrases = f }

unfoldable pub placement_of : phrases.Output → Placement
placement_of o = placement (placed_of o.answer) o.words o.phrases

-- ---- The report of a full run, or why there is none; and what the lent places hold.
abbrev pub report_of : Result Report Refusal → QiluvraitReport
report_of (Ok r) = record { refusal = 0; found = cond r.found 1 0; pieces = r.pieces; words = r.words; floor = r.floor }
report_of (Err r) = record { refusal = number r; found = 0; pieces = 0; words = 0; floor = of_bits binary64 0 }

pub record FullRun : Type 0 where
  pub report : QiluvraitReport
  pub words : Words
  pub phrases : List ℕ
  pub levels : List Float
  pub piece_starts : List ℕ
  pub piece_ends : List ℕ

abbrev pub full_run_with : QiluvraitReport → Words → List ℕ → List Float → List ℕ → List ℕ → FullRun
full_run_with r ws phrases ls s e = record { report = r; words = ws; phrases = phrases; levels = ls; piece_starts = s; piece_ends = e }

unfoldable pub full_run_of : full.Output → FullRun
full_run_of o = full_run_with (report_of o.answer) o.words o.phrases o.levels o.piece_starts o.piece_ends

-- ---- What a refusal leaves of work space: all of it.
abbrev pub Unchanged : {A : Type 0} → ℕ → List A → List A → Type 0
Unchanged refusal before after = (refusal ≡ 0 → ⊥) → after ≡ before
