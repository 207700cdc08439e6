-- The table of document 01's cases marked ●, each as it stands there, and examples for sentences without one. Assumes nothing.
use Rattle.std.specs.Prelude.{ℕ, ◌+◌, ◌-◌, ◌*◌, Bool, true, false, ◌≡◌, pos, Float, List, [], ◌∷◌, ◌++◌, replicate, Some}
use Rattle.std.specs.Float.{fin, binary64}
use Rattle.std.specs.Float.Ieee.{round, of_bits}
use Rattle.base.specs.Words.{words, edges, times}
use Rattle.js.specs.Js.{js_to_fixed}
use Rattle.envelope.specs.Envelope.{hop, level, quiet_row}
use Rattle.pieces.specs.Pieces.{cut}
use Rattle.loops.specs.Loops.{collapse_loops}
use Rattle.ends.specs.Ends.{snap_ends}
use Rattle.spread.specs.Spread.{place_group}
use Rattle.even.specs.Even.{even_out}
use Rattle.last_run.specs.LastRun.{last_run}
use Rattle.fit_file.specs.FitFile.{inside_span}

-- ---- The double that a decimal number stands for: the nearest to n / d, with a sign.
abbrev pub double : Bool → ℕ → ℕ → Float
double negative n d = round binary64 negative n d

abbrev pub zero : Bool → Float
zero negative = fin negative 0 (pos 0)

-- ---- 2,001 frames, of which n from frame a on are quiet.
abbrev pub quiet_frames : ℕ → ℕ → List Bool
quiet_frames a n = replicate a false ++ (replicate n true ++ replicate (2001 - (a + n)) false)

-- ---- The keys that are left of a list of words, of which only the keys count.
abbrev pub keys_left : List ℕ → List ℕ
keys_left keys = (collapse_loops (words [] [] [] [] keys)).words.keys

pub record Table : Type 0 where
  -- Numbers: "● 0.0625 gives 0.063; ● -0.0625 gives -0.063; ● -0.0001 gives -0; ● -0 gives +0."
  pub tie : js_to_fixed (double false 625 10000) ≡ double false 63 1000
  pub tie-below-zero : js_to_fixed (double true 625 10000) ≡ double true 63 1000
  pub to-nothing : js_to_fixed (double true 1 10000) ≡ zero true
  pub minus-zero : js_to_fixed (zero true) ≡ zero false
  -- Levels: "● 160 samples of 0.5: level 0.5. ● A level equal to the floor: quiet."
  pub level-of-half : level (replicate 160 (double false 1 2)) ≡ double false 1 2
  pub quiet-at-floor : quiet_row (double false 5 1000) (double false 5 1000 ∷ []) ≡ true ∷ []
  -- Pieces: "2,001 frames: ● all quiet, cut 1,599 (sample 255,840); ● none quiet, 2,000; ● only 1,200 to 1,207 quiet, 1,203; ● only 1,992 to 1,999, 1,995"
  pub all_quiet : cut (quiet_frames 0 2001) 0 ≡ 1599
  pub all-quiet-sample : cut (quiet_frames 0 2001) 0 * hop ≡ 255840
  pub none-quiet : cut (quiet_frames 0 0) 0 ≡ 2000
  pub first-quiet : cut (quiet_frames 1200 8) 0 ≡ 1203
  pub last-quiet : cut (quiet_frames 1992 8) 0 ≡ 1995
  -- Loops: "● Keys 1 1 1 2 give 1 2; ● 1 1 stays; ● 1 2 1 2 1 2 1 gives 1 2 1."
  pub three-copies : keys_left (1 ∷ 1 ∷ 1 ∷ 2 ∷ []) ≡ 1 ∷ 2 ∷ []
  pub two-copies : keys_left (1 ∷ 1 ∷ []) ≡ 1 ∷ 1 ∷ []
  pub runs-of-two : keys_left (1 ∷ 2 ∷ 1 ∷ 2 ∷ 1 ∷ 2 ∷ 1 ∷ []) ≡ 1 ∷ 2 ∷ 1 ∷ []
  -- Onsets and ends: "● No loud frame, words (0.1, 0.12) and (0.13, 0.2), units 3 each: the edge is 0.16 for both."
  pub edge-shared : snap_ends (replicate 30 false) (double false 30 100) (3 ∷ 3 ∷ [])
      (edges (double false 10 100 ∷ double false 13 100 ∷ []) (double false 12 100 ∷ double false 20 100 ∷ []))
      ≡ edges (double false 10 100 ∷ double false 16 100 ∷ []) (double false 16 100 ∷ double false 20 100 ∷ [])
  -- Evening and fitting: "Loud 0 to 3 and 19 to 22, from 0 to 0.23: ● last run (0, 0.23)."
  pub pause-bridged : last_run (replicate 4 true ++ (replicate 15 false ++ replicate 4 true)) (zero false) (double false 23 100)
      ≡ Some (times (zero false) (double false 23 100))

-- ---- Sentences of document 01 that bear no ●, each with an example of ours: letters, then the words' starts and ends.
pub record Sentences : Type 0 where
  -- Placing in phrases: "With no inside word all are spread over the span."
  pub spread-over-the-span : place_group (1 ∷ 3 ∷ []) (double false 8 1) (double false 9 1)
      (edges (double false 2 1 ∷ double false 3 1 ∷ []) (double false 3 1 ∷ double false 4 1 ∷ []))
      ≡ edges (double false 8 1 ∷ double false 33 4 ∷ []) (double false 33 4 ∷ double false 9 1 ∷ [])
  -- "A spread shares max(0, to - from) by letters.": nothing, of a span from 9 to 8 s.
  pub span-reversed : place_group (1 ∷ 3 ∷ []) (double false 9 1) (double false 8 1)
      (edges (double false 2 1 ∷ double false 3 1 ∷ []) (double false 3 1 ∷ double false 4 1 ∷ []))
      ≡ edges (double false 9 1 ∷ double false 9 1 ∷ []) (double false 9 1 ∷ double false 9 1 ∷ [])
  -- Evening and fitting: "A span under 0.04 s puts starts at its end minus 0.04, before its own start.": the span from 1 to 1.02 s.
  pub start-before-its-span : inside_span (times (double false 1 1) (double false 102 100)) (times (double false 1 1) (double false 101 100))
      ≡ times (of_bits binary64 0x3fef_5c28_f5c2_8f5c) (of_bits binary64 0x3ff0_51eb_851e_b852)
  -- Shortcuts: "Ends clipped to the duration after evening: `to` never falls below the last end.": the limit is 0.5 s, and the word ends at 1.0625 s.
  pub last-end-kept : even_out (4 ∷ []) (double false 1 2) (edges (double false 1 1 ∷ []) (double false 17 16 ∷ []))
      ≡ edges (double false 1 1 ∷ []) (double false 17 16 ∷ [])
