-- `run_stages::on_words::place_and_fit` meets its contract: the words that are placed are fitted in the first places. Assumes nothing.
use native.Mathlib.Omega.{arith}
use mathlib.Core.Path.{◌∙◌}
use Rattle.run_stages.proofs.Stages.{fewer, fitted-is, fit-ready}
use Rattle.run_stages.proofs.on_words.place_and_fit.Goals as goal

pub place_words-n-requires : goal.place_words-n-requires
place_words-n-requires c = let p = c.requires in (p.0, (p.1.0, p.1.1.0))

pub slice_bounds-fit_phrases-end : goal.slice_bounds-fit_phrases-end
slice_bounds-fit_phrases-end c =
    let pre = c.requires in
    omega (arith, fewer _ _ _ pre.0 c.args.spans.alike.1 c.place_words-n.ensures, c.place_words-n.auto.starts, pre.0.0)

pub slice_bounds-fit_phrases-end-2 : goal.slice_bounds-fit_phrases-end-2
slice_bounds-fit_phrases-end-2 c =
    let pre = c.requires in
    omega (arith, fewer _ _ _ pre.0 c.args.spans.alike.1 c.place_words-n.ensures, c.place_words-n.auto.ends, pre.0.1.0)

pub slice_bounds-fit_phrases-end-3 : goal.slice_bounds-fit_phrases-end-3
slice_bounds-fit_phrases-end-3 c =
    let pre = c.requires in
    omega (arith, fewer _ _ _ pre.0 c.args.spans.alike.1 c.place_words-n.ensures, c.place_words-n.auto.letters, pre.0.1.1.0)

pub slice_bounds-fit_phrases-end-4 : goal.slice_bounds-fit_phrases-end-4
slice_bounds-fit_phrases-end-4 c =
    let pre = c.requires in
    omega
    (arith, fewer _ _ _ pre.0 c.args.spans.alike.1 c.place_words-n.ensures, c.place_words-n.auto.phrases, pre.1.1.0)

pub fit_phrases-requires : goal.fit_phrases-requires
fit_phrases-requires c =
    let p = c.requires in
    let n = c.place_words-n in
    fit-ready _ _ _ _ _ _ (fewer _ _ _ p.0 c.args.spans.alike.1 n.ensures) (n.auto.starts ∙ p.0.0) (n.auto.ends ∙ p.0.1.0) (n.auto.letters ∙ p.0.1.1.0)
    (omega (arith, n.auto.phrases, p.1.1.0)) p.1.0 p.1.1.1.0 p.1.1.1.1.0 p.1.1.1.1.1

pub returns : goal.returns
returns c =
    fitted-is _ _ _ c.requires.0 c.args.spans.alike.1 c.place_words-n.ensures _ _
    c.fit_phrases.ensures c.fit_phrases.auto.starts c.fit_phrases.auto.ends
