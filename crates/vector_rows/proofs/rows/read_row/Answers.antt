-- `read_row` is safe and ends, and the front of the row is what it took from the input: each read adds its
-- bytes to that front. Assumes nothing.
use Rattle.std.proofs.Common.{◌≡◌, ℕ, ◌+◌, ◌-◌, ◌≤◌, List, ◌++◌, arith, length, take, drop, sym, ap, ◌∙◌, subst, le_refl, drop_at, length-take-le}
use Rattle.std.proofs.lemmas.Slice.{take-put_mid_below}
use Rattle.std.specs.Io.KnownBytes.{Consumes}
use Rattle.std.proofs.KnownBytes.{Consumes-trans}
use borrow.Rule.Slice.PartMut.{put_mid, post_of}
use lib.Seq.{take-add, take-append-le}
use Rattle.vector_rows.proofs.rows.read_row.Goals as goal

-- the front, with n bytes more of a list whose place `a` on has ys
take_front : (a k n : ℕ) (xs ys : List ℕ) → a ≤ length xs → n ≤ length ys → take a xs ++ take n ys ≡ take (a + n) (put_mid a k xs ys)
take_front a k n xs ys within fits =
    let all = put_mid a k xs ys in
    let rest = drop_at (take a xs) (ys ++ post_of a k xs) a (length-take-le a xs within) in
    let part = ap (take n) rest ∙ take-append-le n ys (post_of a k xs) fits in
    sym (take-add a n all ∙ ap (λ l. l ++ take n (drop a all)) (take-put_mid_below _ _ _ _ _ (le_refl a) within) ∙ ap (λ l. take a xs ++ l) part)

pub loop-done-preserved : goal.loop-done-preserved
loop-done-preserved g c =
    let l = c.loop-done in
    record {
      within = omega (arith, c.in_ok-n.ensures.bound.0);
      bytes = subst (Consumes _ _) (take_front l.done (53 - l.done) c.in_ok-n.n l.row c.read.new.buf (omega arith) c.in_ok-n.ensures.bound.0)
          (Consumes-trans _ _ _ _ _ l.invariant.bytes c.in_ok-n.ensures.bytes.0);
    }
