-- fit.rs, fit_file with phrase groups, line by line. A `row` says which frames are loud. Assumes nothing.
use Rattle.std.specs.Prelude.{ℕ, ◌-◌, min, cond, Bool, List, [], ◌∷◌, ◌++◌, map, eqb, ltb, get_or, set, length, Float, Option, Some, None}
use Rattle.std.specs.Float.{nan, binary64}
use Rattle.std.specs.Float.Ieee.{of_bits, lt}
use Rattle.base.specs.Loop.{each}
use Rattle.base.specs.Words.{Edges, edges, times, times_at, set_times, Words, Spans, count}
use Rattle.base.specs.Floats.{◌⊕◌, ◌⊖◌, ◌⊘◌, num}
use Rattle.base.specs.declared.Times.{Times}
use Rattle.js.specs.Js.{js_min, js_max}
use Rattle.even.specs.Even.{even_out}
use Rattle.last_run.specs.LastRun.{last_run}
use Rattle.fit_to_sound.specs.FitToSound.{fit_to_sound}
use Rattle.frames.specs.Frames.{rate}
use Rattle.envelope.specs.Envelope.{loud_row}
use Rattle.word_calls.specs.Calls.{phrases_rule, Output, moved}

-- ======== The members of a phrase, their words cloned into a group, and the group put back.

-- ---- (0..words.len()).filter(|&i| groups.phrase.get(i) == Some(&pi)).collect(), of n words, which have as many phrase numbers
unfoldable pub member_turn : List ℕ → ℕ → ℕ → List ℕ → List ℕ
member_turn phrases p i members = cond (eqb (get_or phrases i 0) p) (members ++ (i ∷ [])) members

unfoldable pub members_of : List ℕ → ℕ → ℕ → List ℕ
members_of phrases p n = each (member_turn phrases p) n 0 []

-- ---- members.iter().map(|&i| words[i].clone()).collect()
unfoldable pub picked : {A : Type 0} → A → List ℕ → List A → List A
picked none members xs = map (λ (i : ℕ). get_or xs i none) members

unfoldable pub picked_edges : List ℕ → Edges → Edges
picked_edges members es = edges (picked nan members es.starts) (picked nan members es.ends)

-- ---- for (&i, w) in members.iter().zip(group) { words[i] = w; }
unfoldable pub put_back : {A : Type 0} → List ℕ → List A → List A → List A
put_back [] group xs = xs
put_back (i ∷ members) [] xs = xs
put_back (i ∷ members) (w ∷ group) xs = put_back members group (set xs i w)

unfoldable pub put_edges : List ℕ → Edges → Edges → Edges
put_edges members group es = edges (put_back members group.starts es.starts) (put_back members group.ends es.ends)

-- ======== What is done with the words of one phrase.

-- ---- MIN_WORD, 0.04 s: a phrase's words last no less.
abbrev pub min_word : Float
min_word = of_bits binary64 0x3fa4_7ae1_47ae_147b

-- ---- TRAILING_GAP, 0.15 s: sound after the last word counts once it starts so long after it.
abbrev pub trailing_gap : Float
trailing_gap = of_bits binary64 0x3fc3_3333_3333_3333

-- ---- w.start = js_min(js_max(w.start, span.start), span.end - MIN_WORD); w.end = js_min(js_max(w.end, w.start + MIN_WORD), span.end);
unfoldable pub inside_span : Times → Times → Times
inside_span span w =
    let start = js_min (js_max w.start span.start) (span.end ⊖ min_word) in times start (js_min (js_max w.end (start ⊕ min_word)) span.end)

unfoldable pub inside_turn : Times → ℕ → Edges → Edges
inside_turn span i group = set_times group i (inside_span span (times_at group i))

-- ---- for w in &mut group
unfoldable pub keep_inside : Times → Edges → Edges
keep_inside span group = each (inside_turn span) (length group.starts) 0 group

-- ---- if last > 0 { group[last - 1].end = js_min(group[last - 1].end, start); }
unfoldable pub make_way : ℕ → Float → List Float → List Float
make_way last start ends = cond (ltb 0 last) (set ends (last - 1) (js_min (get_or ends (last - 1) nan) start)) ends

-- ---- group[last].start = start; group[last].end = end;
unfoldable pub take_sound : ℕ → Times → Edges → Edges
take_sound last w group = let moved = set_times group last w in edges moved.starts (make_way last w.start moved.ends)

-- ---- if let Some((start, end)) = .. && start > after
unfoldable pub take_run : Option Times → Float → ℕ → Edges → Edges
take_run None after last group = group
take_run (Some w) after last group = cond (lt after w.start) (take_sound last w group) group

-- ---- let last = group.len() - 1; let after = group[last].end + TRAILING_GAP; .. last_run(&env, after, span.end)
unfoldable pub take_trailing : List Bool → Float → Edges → Edges
take_trailing row to group =
    let last = length group.starts - 1 in
    let after = get_or group.ends last nan ⊕ trailing_gap in
    take_run (last_run row after to) after last group

-- ---- fit_to_sound(&mut group, &env, js_min(duration, span.end))?; .. even_out(&mut group, span.end)?;
unfoldable pub fit_group : List Bool → Float → Times → List ℕ → Edges → Edges
fit_group row duration span letters group =
    even_out letters span.end (take_trailing row span.end (keep_inside span (fit_to_sound row (js_min duration span.end) letters group)))

-- ======== The loop over phrase groups.

-- ---- let members = ..; if members.is_empty() { continue; } let mut group = ..; for (&i, w) in members.iter().zip(group) { words[i] = w; }
unfoldable pub fit_phrase : List Bool → Float → List ℕ → List ℕ → Times → ℕ → Edges → Edges
fit_phrase row duration letters phrases span p es =
    let members = members_of phrases p (length es.starts) in
    cond (eqb (length members) 0) es (put_edges members (fit_group row duration span (picked 0 members letters) (picked_edges members es)) es)

-- ---- fit_file, with groups: for (pi, span) in groups.spans.iter().enumerate(). `spans` has where each starts and ends.
unfoldable pub fit_file : List Bool → Float → List ℕ → List ℕ → Edges → Edges → Edges
fit_file row duration letters phrases spans es =
    each (λ (p : ℕ). fit_phrase row duration letters phrases (times_at spans p) p) (length spans.starts) 0 es

-- ======== The call: what it answers and leaves, and what a refusal leaves of the work space. Document 01: it "takes this envelope and not the samples".

-- ---- let duration = samples.len() as f64 / RATE;
unfoldable pub duration_of : ℕ → Float
duration_of count = num count ⊘ rate

-- ---- "work space for every word": so many words find place in lists of starts, ends and letters that are so long.
abbrev pub work_places : ℕ → ℕ → ℕ → ℕ
work_places starts ends letters = min starts (min ends letters)

-- ---- Refusals 3, 4, 1, 2, 7, 6, in this order. "The fit by phrase takes samples / 16000 as its duration."
unfoldable pub fit_file_call : Words → List ℕ → Spans → List Float → Float → ℕ → ℕ → Output
fit_file_call ws phrases spans levels floor samples places =
    moved (phrases_rule ws (length phrases) spans (length levels) samples places (count ws))
    (fit_file (loud_row floor levels) (duration_of samples) ws.letters phrases (edges spans.starts spans.ends) (edges ws.starts ws.ends)) ws
