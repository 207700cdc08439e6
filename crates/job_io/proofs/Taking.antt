-- What is taken of a reader by reads one after another, where its bytes are known. Assumes nothing.
use Rattle.std.proofs.Common.{◌≡◌, ℕ, ◌+◌, ◌-◌, ◌≤◌, List, [], ◌++◌, Option, Result, Ok, Err, length, take, slice_range, sym, ap, ◌∙◌, subst, arith, le_refl, drop_at, length-take-le}
use Rattle.std.proofs.lemmas.List.{take-append-le}
use Rattle.std.proofs.lemmas.Slice.{take-put_mid_below}
use Rattle.std.proofs.Math.Seq.{take-append-add, take-length}
use Rattle.std.proofs.KnownBytes.{Consumes-nil, Consumes-trans, Consumes-kept}
use Rattle.std.specs.Result.{result_unwrap_or}
use Rattle.std.specs.Io.{ReadsAtMost}
use Rattle.std.specs.Io.KnownBytes.{Consumes, ReadConsumes}
use borrow.Rule.Slice.PartMut.{put_mid, post_of}
use lib.Seq.{take-add}

-- ---- one read: where it fails it takes nothing
pub taken-one : {E : Type 0} (a b : Option (List ℕ)) (r : Result ℕ E) (buf : List ℕ) (more : ℕ) → ReadsAtMost r buf → ReadConsumes a b r buf → more ≡ result_unwrap_or r 0
    → (more ≤ length buf) × Consumes a b (take more buf)
taken-one a b (Ok n) buf more bound bytes e = (subst (λ (m : ℕ). m ≤ length buf) (sym e) bound.0, subst (λ (m : ℕ). Consumes a b (take m buf)) (sym e) bytes.0)
taken-one a b (Err x) buf more bound bytes e =
    (omega (arith, e), subst (λ (m : ℕ). Consumes a b (take m buf)) (sym e) (Consumes-kept a a b [] (Consumes-nil a) bytes))

front-joined : (a b : ℕ) (old new : List ℕ) → a ≤ b → take a new ≡ take a old → take a old ++ slice_range new a b ≡ take b new
front-joined a b old new h front =
    let same : a + (b - a) ≡ b = omega arith in
    ap (λ (l : List ℕ). l ++ slice_range new a b) (sym front) ∙ sym (take-add a (b - a) new) ∙ ap (λ (n : ℕ). take n new) same

part-put : (a k n : ℕ) (xs ys : List ℕ) → a ≤ length xs → n ≤ length ys → slice_range (put_mid a k xs ys) a (a + n) ≡ take n ys
part-put a k n xs ys within fits =
    let same : (a + n) - a ≡ n = omega arith in
    let after = post_of a k xs in
    ap (take ((a + n) - a)) (drop_at (take a xs) (ys ++ after) a (length-take-le a xs within)) ∙ ap (λ (m : ℕ). take m (ys ++ after)) same ∙ take-append-le n ys after fits

-- ---- one read more into the places that are not filled yet
pub taken-more : (a b d : Option (List ℕ)) (done k more : ℕ) (bytes buf : List ℕ) → done ≤ length bytes → more ≤ length buf → Consumes a b (take done bytes) → Consumes b d (take more buf)
    → Consumes a d (take (done + more) (put_mid done k bytes buf))
taken-more a b d done k more bytes buf within fits p q =
    let part = part-put done k more bytes buf within fits in
    let joined = front-joined done (done + more) bytes (put_mid done k bytes buf) (omega arith) (take-put_mid_below _ _ _ _ _ (le_refl _) within) in
    subst (Consumes a d) (ap (λ (l : List ℕ). take done bytes ++ l) (sym part) ∙ joined) (Consumes-trans a b d _ _ p q)

-- ---- all places are filled
pub taken-all : (a b : Option (List ℕ)) (n : ℕ) (xs : List ℕ) → n ≡ length xs → Consumes a b (take n xs) → Consumes a b xs
taken-all a b n xs e p = subst (Consumes a b) (ap (λ (m : ℕ). take m xs) e ∙ take-length xs) p

pub taken-of-all : (a b : Option (List ℕ)) (n : ℕ) (xs : List ℕ) → n ≡ length xs → Consumes a b xs → Consumes a b (take n xs)
taken-of-all a b n xs e p = subst (Consumes a b) (sym (ap (λ (m : ℕ). take m xs) e ∙ take-length xs)) p

-- ---- what is taken stands at the front of more
pub taken-front : (a b : Option (List ℕ)) (n : ℕ) (xs ys : List ℕ) → n ≤ length xs → Consumes a b (take n xs) → Consumes a b (take n (xs ++ ys))
taken-front a b n xs ys h p = subst (Consumes a b) (sym (take-append-le n xs ys h)) p

-- ---- and behind it what is taken next
pub taken-behind : (a b d : Option (List ℕ)) (m n : ℕ) (xs ys : List ℕ) → m ≡ length xs + n → Consumes a b xs → Consumes b d (take n ys) → Consumes a d (take m (xs ++ ys))
taken-behind a b d m n xs ys e p q = subst (Consumes a d) (sym (ap (λ (i : ℕ). take i (xs ++ ys)) e ∙ take-append-add xs ys n)) (Consumes-trans a b d xs (take n ys) p q)
