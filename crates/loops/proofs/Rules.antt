-- What the core leaves, from its parts, and the call by what its checks find. Assumes nothing.
use Rattle.base.specs.Refusals.{Rule}
use Rattle.std.specs.Prelude.{Ok, Err}
use Prim.Native.Nat.{ℕ, ◌≤◌}
use mathlib.Core.Path.{◌≡◌, sym, ap, ◌∙◌}
use lib.Dec.{ltb}
use lib.Seq.{length-take-le}
use Rattle.base.specs.Words.{Words, count, words_in_places}
use Rattle.base.specs.Parts.{OneLength, first_words}
use Rattle.base.specs.declared.Refusal.{Refusal}
use Rattle.base.proofs.First.{fine-none}
use Rattle.limits.specs.Order.{in_order, chain}
use Rattle.word_calls.specs.Calls.{of_words}
use Rattle.word_calls.proofs.Within.{words-exactly, one-length}
use Rattle.loops.specs.declared.Left.{Left}
use Rattle.loops.specs.Loops.{collapse_loops, left, output, accepted, collapse_call}
use Rattle.loops.specs.Parts.{loop_words, Collapsing}
use Rattle.loops.proofs.Found.{loops-words, found-fewer}

-- ---- what the core leaves, from the passes and the places made zero
pub collapsing : (before mid after : Words) (r k : ℕ) → first_words r mid ≡ loop_words before → after ≡ words_in_places (count mid) (first_words r mid)
    → r ≤ count mid → count mid ≡ count before → k ≡ count before → Collapsing (record { count = r; found = ltb r k }) before after
unfolding first_words
collapsing before mid after r k p q h e f =
    let w : first_words r mid ≡ (collapse_loops before).words = p ∙ sym (loops-words before) in
    let c : r ≡ count (collapse_loops before).words = sym (length-take-le r mid.keys h) ∙ ap count w in
    record {
      words = q ∙ ap (λ (m : ℕ). words_in_places m (first_words r mid)) e ∙ ap (words_in_places (count before)) w;
      count = c;
      found = rw (f, c) (sym (found-fewer before));
    }

module _ (ws : Words) where
  -- words that are fine have lists of one length
  pub fine-even : chain (of_words ws) ≡ Ok tt → OneLength (count ws) ws
  unfolding chain
  fine-even h = one-length ((words-exactly ws).1 (fine-none (in_order (of_words ws)) h))

  pub accept-made : (found : Left) (after : Words) → Collapsing found ws after → output (Ok found) after ≡ accepted (collapse_loops ws) (count ws)
  accept-made found after c =
      let given : left found.count found.found ≡ left (count (collapse_loops ws).words) (collapse_loops ws).found = rw (c.count, c.found) in
      rw c.words (ap (λ (l : Left). output (Ok l) (words_in_places (count ws) (collapse_loops ws).words)) given)

  pub refused-made : {rule : Rule} (why : Refusal) → rule ≡ chain (of_words ws) → rule ≡ Err why → output (Err why) ws ≡ collapse_call ws
  unfolding collapse_call
  refused-made why p q = rw (← p, q)

  pub call-made : {rule : Rule} {found : Left} {after : Words} → rule ≡ chain (of_words ws) → rule ≡ Ok tt → Collapsing found ws after → output (Ok found) after ≡ collapse_call ws
  unfolding collapse_call
  call-made {found = found} {after = after} p q r = rw (← p, q) (accept-made found after r)
