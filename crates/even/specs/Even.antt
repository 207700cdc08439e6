-- even.rs, even_out, line by line. `letters` are the weights, `es` the words' times. Assumes nothing.
use Rattle.std.specs.Prelude.{ℕ, ◌+◌, ◌-◌, Bool, cond, ◌&&◌, not, List, ltb, get_or, length, Float}
use Rattle.std.specs.Float.{nan, binary64}
use Rattle.std.specs.Float.Ieee.{of_bits, lt}
use Rattle.base.specs.Loop.{down, up, each}
use Rattle.base.specs.Floats.{◌⊕◌, ◌⊖◌, ◌⊗◌, num}
use Rattle.base.specs.Words.{Edges, part, on_part, Words, edges}
use Rattle.js.specs.Js.{js_min, js_max}
use Rattle.share.specs.Share as shares
use Rattle.even.specs.declared.stretch.Stretch.{Stretch}
use Rattle.word_calls.specs.Calls.{limit_rule, Output, moved}

-- ======== Where a run ends.

-- ---- CRUSHED, 0.08 s: a word that is shorter is crushed.
abbrev pub crushed_below : Float
crushed_below = of_bits binary64 0x3fb4_7ae1_47ae_147b

-- ---- SWOLLEN_BASE, 0.25 s, and SLOW_LETTER, 0.12 s: a word that lasts longer than the one and so much for each letter is swollen.
abbrev pub swollen_base : Float
swollen_base = of_bits binary64 0x3fd0_0000_0000_0000

abbrev pub slow_letter : Float
slow_letter = of_bits binary64 0x3fbe_b851_eb85_1eb8

-- ---- MIN_LETTER, 0.05 s: so much a letter needs at the least.
abbrev pub min_letter : Float
min_letter = of_bits binary64 0x3fa9_9999_9999_999a

-- ---- SLOW_WORD, 0.1 s: so much a slow word takes beyond its letters.
abbrev pub slow_word : Float
slow_word = of_bits binary64 0x3fb9_9999_9999_999a

-- ---- MAX_SPAN: with its last word 6 places behind its first, a run takes no more words along.
abbrev pub max_span : ℕ
max_span = 6

-- ---- let sum = |a, b| weight[a..=b].iter().sum::<usize>() as f64;
unfoldable pub sum : List ℕ → ℕ → ℕ → Float
sum letters a b = num (shares.sum (part a (b + 1) letters))

-- ---- w.end - w.start
abbrev pub lasts : Edges → ℕ → Float
lasts es i = get_or es.ends i nan ⊖ get_or es.starts i nan

-- ---- let crushed = |w| w.end - w.start < CRUSHED;
unfoldable pub crushed : Edges → ℕ → Bool
crushed es i = lt (lasts es i) crushed_below

-- ---- let swollen = |w, n| w.end - w.start > SWOLLEN_BASE + SLOW_LETTER * n as f64;
unfoldable pub swollen : List ℕ → Edges → ℕ → Bool
swollen letters es i = lt (swollen_base ⊕ slow_letter ⊗ num (get_or letters i 0)) (lasts es i)

-- ---- let mut a = i; while a > 0 && crushed(&words[a - 1]) { a -= 1; }
unfoldable pub first_crushed : Edges → ℕ → ℕ
first_crushed es i = down (λ (a : ℕ). crushed es (a - 1)) i

-- ---- if a > 0 && swollen(&words[a - 1], weight[a - 1]) { a -= 1; }
unfoldable pub with_swollen : List ℕ → Edges → ℕ → ℕ
with_swollen letters es a = cond (ltb 0 a && swollen letters es (a - 1)) (a - 1) a

-- ---- let mut b = i; while b + 1 < len && crushed(&words[b + 1]) { b += 1; }
unfoldable pub last_crushed : Edges → ℕ → ℕ → ℕ
last_crushed es len i = up (λ (b : ℕ). crushed es (b + 1)) (len - 1 - i) i

-- ---- words[b + 1].start - from < MIN_LETTER * sum(a, b) && b - a < MAX_SPAN
unfoldable pub grows : List ℕ → Edges → Float → ℕ → ℕ → Bool
grows letters es from a b = lt (get_or es.starts (b + 1) nan ⊖ from) (min_letter ⊗ sum letters a b) && ltb (b - a) max_span

-- ---- let from = words[a].start; while b + 1 < len && .. { b += 1; }
unfoldable pub grown : List ℕ → Edges → ℕ → ℕ → ℕ → ℕ
grown letters es len a b = up (grows letters es (get_or es.starts a nan) a) (len - 1 - b) b

-- ---- let ceiling = if b + 1 < len { words[b + 1].start } else { js_min(limit, words[b].end + SLOW_LETTER * weight[b] as f64) };
unfoldable pub ceiling_of : List ℕ → Edges → Float → ℕ → ℕ → Float
ceiling_of letters es limit len b =
    cond (ltb (b + 1) len) (get_or es.starts (b + 1) nan) (js_min limit (get_or es.ends b nan ⊕ slow_letter ⊗ num (get_or letters b 0)))

-- ---- ceiling - words[a].start < MIN_LETTER * sum(a, b) && b - a < MAX_SPAN
unfoldable pub borrows : List ℕ → Edges → Float → ℕ → ℕ → Bool
borrows letters es ceiling b a = lt (ceiling ⊖ get_or es.starts a nan) (min_letter ⊗ sum letters a b) && ltb (b - a) max_span

-- ---- while a > 0 && .. { a -= 1; }
unfoldable pub borrowed : List ℕ → Edges → Float → ℕ → ℕ → ℕ
borrowed letters es ceiling b a = down (borrows letters es ceiling b) a

-- ---- let total = sum(a, b); let start = words[a].start; let count = (b - a + 1) as f64;
-- let to = js_max(words[b].end, js_min(ceiling, start + SLOW_LETTER * total + SLOW_WORD * count));
unfoldable pub end_of : List ℕ → Edges → Float → ℕ → ℕ → Float
end_of letters es ceiling a b =
    js_max (get_or es.ends b nan) (js_min ceiling (get_or es.starts a nan ⊕ slow_letter ⊗ sum letters a b ⊕ slow_word ⊗ num (b - a + 1)))

-- ---- The run of the crushed word i: its first and its last word, and where it ends.
unfoldable pub stretch_of : List ℕ → Edges → Float → ℕ → Stretch
stretch_of letters es limit i =
    let len = length es.starts in
    let a = with_swollen letters es (first_crushed es i) in
    let b = grown letters es len a (last_crushed es len i) in
    let ceiling = ceiling_of letters es limit len b in
    let first = borrowed letters es ceiling b a in
    record { first = first; last = b; to = end_of letters es ceiling first b }

-- ======== All words.

-- ---- let mut t = start; for (w, &n) in words[a..=b].iter_mut().zip(&weight[a..=b]): (to - start) is shared.
unfoldable pub even_run : List ℕ → Stretch → Edges → Edges
even_run letters r es =
    let start = get_or es.starts r.first nan in
    on_part r.first (r.last + 1) (shares.share (part r.first (r.last + 1) letters) (r.to ⊖ start) (sum letters r.first r.last) start) es

-- ---- The words, and the word that is looked at next.
pub record Evening : Type 0 where
  pub edges : Edges
  pub i : ℕ

-- ---- while i < len: if !crushed(&words[i]) { i += 1; continue; } .. i = b + 1;
unfoldable pub even_turn : List ℕ → Float → Evening → Evening
even_turn letters limit s =
    cond (ltb s.i (length s.edges.starts))
    (cond (not (crushed s.edges s.i)) (record { edges = s.edges; i = s.i + 1 })
    (let r = stretch_of letters s.edges limit s.i in record { edges = even_run letters r s.edges; i = r.last + 1 }))
    s

-- ---- even_out: a turn goes on by a word or more, so there are no more turns than words.
unfoldable pub even_out : List ℕ → Float → Edges → Edges
even_out letters limit es = (each (λ (_ : ℕ). even_turn letters limit) (length es.starts) 0 (record { edges = es; i = 0 })).edges

-- ======== What the public call answers and leaves.

-- ---- Refusals 3, 4, 1, 2, in this order; the limit is among the times, and "may also be +infinity".
unfoldable pub even_call : Words → Float → Output
even_call ws limit = moved (limit_rule ws limit) (even_out ws.letters limit (edges ws.starts ws.ends)) ws
