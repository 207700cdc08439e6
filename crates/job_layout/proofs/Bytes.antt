-- Numbers from bytes: the kit's sum of what each byte is worth is `whole`; bits of a NaN stand for a NaN. Assumes nothing.
use Prim.Native.Nat.{ℕ, zero, suc, ◌+◌, ◌-◌, ◌*◌, ◌^◌, ◌<◌, ◌≤◌}
use mathlib.Core.List.{List, [], ◌∷◌}
use mathlib.Core.Bool.{Bool, true, false, cond, not, ◌&&◌, true≢false}
use mathlib.Core.Path.{◌≡◌, refl, sym, ap, ◌∙◌}
use borrow.Author.Tests.{eqb-true}
use lib.Dec.{eqb}
use lib.Ieee.{Format, nan, inf, of_fields, ones}
use Rattle.base.proofs.Bits.{fields-top}
use Rattle.std.proofs.Common.{mul_assoc, mul_comm}
use Rattle.std.proofs.Math.Nat.{pow-suc}
use native.Mathlib.Omega.{arith}
use lib.ListN.{length, take, drop, get_or, length-drop}
use Rattle.std.proofs.lemmas.List.{length-take-le, take_all}
use Rattle.std.specs.List.{slice_index}
use Rattle.std.specs.Int.{byte_worth, sum_through}
use Rattle.job_layout.specs.Layout.{whole}

-- ---- a byte is worth 256 times as much one place further
worth-next : (k b : ℕ) → byte_worth (suc k) b ≡ 256 * byte_worth k b
worth-next zero b = omega arith
worth-next (suc k) b = rw (pow-suc 256 (suc k), ← mul_assoc b (256 ^ suc k) 256) (mul_comm _ 256)

-- ---- what byte k adds
whole-more : (bs : List ℕ) (k : ℕ) → k < length bs → whole (take (suc k) bs) ≡ whole (take k bs) + byte_worth k (get_or bs k 0)
unfolding whole
whole-more [] k h = absurd (omega arith)
whole-more (b ∷ bs) zero h = omega arith
whole-more (b ∷ bs) (suc k) h = rw (whole-more bs k (omega arith), worth-next k (get_or bs k 0)) (omega arith)

-- ---- a number of k + 1 bytes, the lowest first
by-worths : (bs : List ℕ) (k : ℕ) → k < length bs → sum_through (λ (i : ℕ). byte_worth i (slice_index bs i)) k ≡ whole (take (suc k) bs)
unfolding whole
by-worths bs zero h = omega (arith, whole-more bs zero h)
by-worths bs (suc k) h = rw (by-worths bs k (omega arith), whole-more bs (suc k) h)

-- ---- the bytes of a number, lent as a part
pub whole-is : (n : ℕ) (xs bs : List ℕ) (at : ℕ) → at + suc n ≤ length xs → bs ≡ take (at + suc n - at) (drop at xs)
    → sum_through (λ (i : ℕ). byte_worth i (slice_index bs i)) n ≡ whole (take (suc n) (drop at xs))
whole-is n xs bs at h e =
    let m : at + suc n - at ≡ suc n = omega arith in
    let p : bs ≡ take (suc n) (drop at xs) = rw m at e in
    let l : length bs ≡ suc n = ap length p ∙ length-take-le (suc n) (drop at xs) (let d = length-drop at xs in omega arith) in
    by-worths bs n (omega arith) ∙ ap whole (take_all (suc n) bs (omega arith) ∙ p)

-- ---- bits of a NaN
and-both : (a b : Bool) → (a && b) ≡ true → (a ≡ true) × (b ≡ true)
and-both true b h = (refl, h)
and-both false b h = absurd (true≢false (sym h))

-- the top field all ones, and a fraction: NaN
top_field : (f : Format) (s : Bool) (x t : ℕ) → 0 < ones f → (eqb x (ones f) && not (eqb t 0)) ≡ true → of_fields f s x t ≡ nan
top_field f s zero t h e = let z = eqb-true 0 (ones f) (and-both (eqb 0 (ones f)) (not (eqb t 0)) e).0 in absurd (omega arith)
top_field f s (suc x) t h e = fields-top f s t x (eqb-true (suc x) (ones f) two.0) ∙ go (eqb t 0) two.1
  where
    two : (eqb (suc x) (ones f) ≡ true) × (not (eqb t 0) ≡ true)
    two = and-both (eqb (suc x) (ones f)) (not (eqb t 0)) e

    go : (b : Bool) → not b ≡ true → cond b (inf s) nan ≡ nan
    go true k = absurd (true≢false (sym k))
    go false k = refl

-- ---- the same value at the same byte
pub at_byte : {A : Type 0} (read : List ℕ → ℕ → A) (xs : List ℕ) {a b : ℕ} {r : A} → r ≡ read xs a → a ≡ b → r ≡ read xs b
at_byte read xs e same = e ∙ ap (read xs) same
