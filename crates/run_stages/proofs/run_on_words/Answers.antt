-- `run_stages::run_on_words` meets its contract. Assumes nothing.
use native.Mathlib.Omega.{arith}
use Rattle.run_stages.proofs.Left.{fewer, left-ready, words-run}
use Rattle.run_stages.proofs.run_on_words.Goals as goal

pub collapse-left-requires : goal.collapse-left-requires
collapse-left-requires c =
    c.requires.0.0

pub slice_bounds-time_words-end : goal.slice_bounds-time_words-end
slice_bounds-time_words-end c =
    omega (arith, fewer _ c.requires.0.0 c.collapse-left.ensures, c.collapse-left.auto.starts, c.requires.0.0.0)

pub slice_bounds-time_words-end-2 : goal.slice_bounds-time_words-end-2
slice_bounds-time_words-end-2 c =
    omega (arith, fewer _ c.requires.0.0 c.collapse-left.ensures, c.collapse-left.auto.ends, c.requires.0.0.1.0)

pub slice_bounds-time_words-end-3 : goal.slice_bounds-time_words-end-3
slice_bounds-time_words-end-3 c =
    omega (arith, fewer _ c.requires.0.0 c.collapse-left.ensures, c.collapse-left.auto.letters, c.requires.0.0.1.1.0)

pub slice_bounds-time_words-end-4 : goal.slice_bounds-time_words-end-4
slice_bounds-time_words-end-4 c =
    omega (arith, fewer _ c.requires.0.0 c.collapse-left.ensures, c.collapse-left.auto.units, c.requires.0.0.1.1.1.0)

pub slice_bounds-time_words-end-5 : goal.slice_bounds-time_words-end-5
slice_bounds-time_words-end-5 c =
    omega (arith, fewer _ c.requires.0.0 c.collapse-left.ensures, c.collapse-left.auto.keys, c.requires.0.0.1.1.1.1)

pub time_words-words-requires : goal.time_words-words-requires
time_words-words-requires c =
    let pre = c.requires in
    left-ready _ pre.0.0 c.collapse-left.ensures pre.0 pre.1

pub returns : goal.returns
returns c =
    words-run _ c.requires.0.0 c.collapse-left.ensures _ _ _ _ c.time_words-words.ensures
    c.time_words-words.auto.starts c.time_words-words.auto.ends c.time_words-words.auto.letters
    c.time_words-words.auto.units c.time_words-words.auto.keys
