-- Laws of the loops: a loop that stands at k is what is left of it; turns that change nothing that is looked at can be left out.
-- So a search from a negative frame is one from frame 0. Assumes nothing.
use Prim.Native.Nat.{ℕ, zero, suc, ◌+◌, ◌-◌, ◌<◌, ◌≤◌, min, max}
use mathlib.Core.Path.{◌≡◌, refl, sym, ap, ◌∙◌}
use mathlib.Core.Bool.{Bool, true, false, cond}
use mathlib.Core.List.{List, [], ◌∷◌, ◌++◌}
use lib.ListN.{length, drop, get_or, set, length-append, drop_of_length-le}
use lib.Seq.{drop-cons, set_at, append_snoc}
use native.Mathlib.Omega.{arith}
use mathlib.Core.Logic.{inl, inr}
use native.Mathlib.Nat.{eq-or-lt_of_le, sub-zero}
use native.Mathlib.Numerals.{add-one}
use lib.IntN.{ℤ, pos, negsuc, suc_ℤ, pred_ℤ, ◌-ℤ◌, sub_ℕ, -ℤ_one, -ℤ-+ℤ_cancel}
use lib.Dec.{ltb}
use lib.Signed.{lt_z}
use borrow.Author.Tests.{le-ltb, ltb-true, ltb-false}
use Rattle.std.specs.List.{fold as fold_all}
use Rattle.base.specs.Whole.{to_nat, min_z, max_z}
use Rattle.base.specs.Loop.{Turn, on, out, each, fold, table, run, range, run_back, range_back, down, up}

pub subℕ-nat : (a b : ℕ) → to_nat (sub_ℕ a b) ≡ a - b
subℕ-nat a b = go (ltb a b) refl where
  go : (t : Bool) → ltb a b ≡ t → to_nat (sub_ℕ a b) ≡ a - b
  go true e = let h = ltb-true a b e in rw e (omega arith)
  go false e = rw e

pub sub-nat : (b a : ℕ) → to_nat (pos b -ℤ pos a) ≡ b - a
sub-nat b zero = omega arith
sub-nat b (suc a) = subℕ-nat b (suc a)

pub sub-pos : (b a : ℕ) → a ≤ b → pos b -ℤ pos a ≡ pos (b - a)
sub-pos b zero h = ap pos (omega arith)
sub-pos b (suc a) h = rw (le-ltb b (suc a) h)

pub lt_z-nat : (n : ℕ) (z : ℤ) → lt_z (pos n) z ≡ ltb n (to_nat z)
lt_z-nat n (pos m) = refl
lt_z-nat n (negsuc m) = sym (le-ltb n 0 (omega arith))

-- the least of two, cut at zero
pub min-nat : (n : ℕ) (z : ℤ) → to_nat (min_z (pos n) z) ≡ min n (to_nat z)
min-nat n (negsuc m) = omega arith
min-nat n (pos m) = go (ltb m n) refl where
  go : (t : Bool) → ltb m n ≡ t → to_nat (min_z (pos n) (pos m)) ≡ min n m
  go true e = let h = ltb-true m n e in rw e (omega arith)
  go false e = let h = ltb-false m n e in rw e (omega arith)

pub max-nat : (z w : ℤ) → to_nat (max_z z w) ≡ max (to_nat z) (to_nat w)
max-nat (negsuc m) (pos n) = omega arith
max-nat (pos m) (negsuc n) = omega arith
max-nat (negsuc m) (negsuc n) = go (ltb n m) refl where
  go : (t : Bool) → ltb n m ≡ t → to_nat (max_z (negsuc m) (negsuc n)) ≡ max 0 0
  go true e = rw e
  go false e = rw e
max-nat (pos m) (pos n) = go (ltb m n) refl where
  go : (t : Bool) → ltb m n ≡ t → to_nat (max_z (pos m) (pos n)) ≡ max m n
  go true e = let h = ltb-true m n e in rw e (omega arith)
  go false e = let h = ltb-false m n e in rw e (omega arith)

module _ {S : Type 0} where
  pub each_next : (f : ℕ → S → S) (e i : ℕ) {s s' : S} → i < e → s' ≡ f i s → each f (e - i) i s ≡ each f (e - (i + 1)) (i + 1) s'
  unfolding each
  each_next f e i h t = let h' : e - i ≡ suc (e - (i + 1)) = omega arith in rw (h', add-one, t)

  pub each_start : (f : ℕ → S → S) (e : ℕ) (s : S) → each f e 0 s ≡ each f (e - 0) 0 s
  each_start f e s = rw sub-zero

  pub each-done : (f : ℕ → S → S) (e i : ℕ) (s : S) → e ≤ i → each f (e - i) i s ≡ s
  unfolding each
  each-done f e i s h = let h' : e - i ≡ 0 = omega arith in rw h'

  -- std's fold over a list is ours
  pub fold-is : {A : Type 0} (f : S → A → S) (s : S) (xs : List A) → fold_all f s xs ≡ fold f s xs
  unfolding fold
  fold-is f s [] = refl
  fold-is f s (x ∷ xs) = fold-is f (f s x) xs

  -- a loop over a list stands at i
  module _ {A : Type 0} (f : S → A → S) (xs : List A) where
    pub fold_next : (i : ℕ) (d : A) {s s' : S} → i < length xs → s' ≡ f s (get_or xs i d) → fold f s (drop i xs) ≡ fold f s' (drop (i + 1) xs)
    unfolding fold
    fold_next i d {s} h t = rw (add-one, drop-cons xs i d h, t)

    pub fold_done : (i : ℕ) (s : S) → length xs ≤ i → fold f s (drop i xs) ≡ s
    unfolding fold
    fold_done i s h = rw (drop_of_length-le xs h)

  -- n stores from the front leave a table, and what stood behind it
  each-table-from : (g : ℕ → S) (n i : ℕ) (done rest : List S) → length done ≡ i → n ≤ length rest
      → each (λ (k : ℕ) (l : List S). set l k (g k)) n i (done ++ rest) ≡ done ++ (table g n i ++ drop n rest)
  unfolding each table
  each-table-from g zero i done rest e h = refl
  each-table-from g (suc n) i done [] e h = absurd (omega arith)
  each-table-from g (suc n) i done (r ∷ rest) e h =
      ap (λ (l : List S). each (λ (k : ℕ) (l : List S). set l k (g k)) n (suc i) l) (set_at done r rest (g i) i e ∙ sym (append_snoc done (g i) rest))
      ∙ each-table-from g n (suc i) (done ++ (g i ∷ [])) rest (rw length-append (omega arith)) (omega arith)
      ∙ append_snoc done (g i) (table g n (suc i) ++ drop n rest)

  pub each-table : (g : ℕ → S) (n : ℕ) (places : List S) → n ≤ length places → each (λ (k : ℕ) (l : List S). set l k (g k)) n 0 places ≡ table g n 0 ++ drop n places
  each-table g n places h = each-table-from g n 0 [] places refl h

  pub length-table : (g : ℕ → S) (n i : ℕ) → length (table g n i) ≡ n
  unfolding table
  length-table g zero i = refl
  length-table g (suc n) i = ap suc (length-table g n (suc i))

  -- what each turn keeps, the loop keeps
  pub each_keeps : {A : Type 0} (o : S → A) (f : ℕ → S → S) → ((i : ℕ) (s : S) → o (f i s) ≡ o s) → (n i : ℕ) (s : S) → o (each f n i s) ≡ o s
  unfolding each
  each_keeps o f keeps zero i s = refl
  each_keeps o f keeps (suc n) i s = each_keeps o f keeps n (suc i) (f i s) ∙ keeps i s

  -- what is seen of a loop is a loop on what is seen
  pub each_seen : {T : Type 0} (o : S → T) (f : ℕ → S → S) (g : ℕ → T → T) → ((i : ℕ) (s : S) → o (f i s) ≡ g i (o s))
      → (n i : ℕ) (s : S) → o (each f n i s) ≡ each g n i (o s)
  unfolding each
  each_seen o f g same zero i s = refl
  each_seen o f g same (suc n) i s = each_seen o f g same n (suc i) (f i s) ∙ ap (each g n (suc i)) (same i s)

  module _ (f : ℤ → S → Turn S) where
    pub run_out : (n : ℕ) (k : ℤ) (s : S) → run f n k (out s) ≡ s
    unfolding run
    run_out zero k s = refl
    run_out (suc n) k s = refl

    -- a loop to e stands at k
    pub run-next : (e k : ℕ) {s s' : S} → k < e → f (pos k) s ≡ on s' → run f (e - k) (pos k) (on s) ≡ run f (e - (k + 1)) (pos (k + 1)) (on s')
    unfolding run
    run-next e k {s} {s'} h t =
        let h' : e - k ≡ suc (e - (k + 1)) = omega arith in rw (h', add-one) (ap (run f (e - suc k) (pos (suc k))) t)

    pub run-stop : (e k : ℕ) {s s' : S} → k < e → f (pos k) s ≡ out s' → run f (e - k) (pos k) (on s) ≡ s'
    unfolding run
    run-stop e k {s} {s'} h t =
        let h' : e - k ≡ suc (e - suc k) = omega arith in rw h' (ap (run f (e - suc k) (pos (suc k))) t ∙ run_out (e - suc k) (pos (suc k)) s')

    pub run-done : (e k : ℕ) (s : S) → e ≤ k → run f (e - k) (pos k) (on s) ≡ s
    unfolding run
    run-done e k s h = let h' : e - k ≡ 0 = omega arith in rw h'

    advance-by : (st : ℕ → S) (e k d : ℕ) → k + d ≤ max k e → ((j : ℕ) → k ≤ j → j < k + d → f (pos j) (st j) ≡ on (st (j + 1)))
        → run f (e - k) (pos k) (on (st k)) ≡ run f (e - (k + d)) (pos (k + d)) (on (st (k + d)))
    advance-by st e k zero h a = let z : k + 0 ≡ k = omega arith in rw z
    advance-by st e k (suc d) h a =
        let z : k + suc d ≡ (k + 1) + d = omega arith in
        run-next e k (omega arith) (a k (omega arith) (omega arith))
        ∙ advance-by st e (k + 1) d (omega arith) (λ (j : ℕ) (p : k + 1 ≤ j) (q : j < (k + 1) + d). a j (omega arith) (omega arith)) ∙ rw z

    -- where every turn from k to m goes on, the loop may start at m
    pub advance : (st : ℕ → S) (e k m : ℕ) → k ≤ m → m ≤ max k e → ((j : ℕ) → k ≤ j → j < m → f (pos j) (st j) ≡ on (st (j + 1)))
        → run f (e - k) (pos k) (on (st k)) ≡ run f (e - m) (pos m) (on (st m))
    advance st e k m l h a =
        let z : k + (m - k) ≡ m = omega arith in
        rw z at (advance-by st e k (m - k) (omega arith) (λ (j : ℕ) (p : k ≤ j) (q : j < k + (m - k)). a j p (omega arith)))

    pub range-pos : (a b : ℕ) (s : S) → range f (pos a) (pos b) s ≡ run f (b - a) (pos a) (on s)
    range-pos a b s = rw sub-nat

    -- from a start that is not negative only the end's natural number counts
    pub range-end : (a : ℕ) (b : ℤ) (s : S) → range f (pos a) b s ≡ run f (to_nat b - a) (pos a) (on s)
    range-end a (pos b) s = range-pos a b s
    range-end zero (negsuc b) s = rw (subℕ-nat 0 (suc b)) (ap (λ (n : ℕ). run f n (pos 0) (on s)) (omega arith))
    range-end (suc a) (negsuc b) s = let z : 0 - suc a ≡ 0 = omega arith in rw z

    -- and a start beyond the end is as good as the end
    pub run-start : (e a b : ℕ) (s : S) → min e a ≡ min e b → run f (e - a) (pos a) (on s) ≡ run f (e - b) (pos b) (on s)
    run-start e a b s h = go (ltb a e) refl where
      go : (t : Bool) → ltb a e ≡ t → run f (e - a) (pos a) (on s) ≡ run f (e - b) (pos b) (on s)
      go true t = let l = ltb-true a e t in let q : a ≡ b = omega arith in rw q
      go false t = let l = ltb-false a e t in run-done e a s l ∙ sym (run-done e b s (omega arith))

  -- The turns at negative k change nothing that is looked at: o sees no difference between states of P.
  module _ {A : Type 0} (f : ℤ → S → Turn S) (g : S → S) (P : S → Type 0) (o : S → A)
      (turn : (j : ℕ) (s : S) → P s → f (negsuc j) s ≡ on (g s)) (keeps : (s : S) → P s → P (g s))
      (same : (n : ℕ) (k : ℤ) (s t : S) → P s → P t → o (run f n k (on s)) ≡ o (run f n k (on t))) where
    few : (n j : ℕ) (s : S) → P s → n ≤ suc j → o (run f n (negsuc j) (on s)) ≡ o s
    unfolding run
    few zero j s p h = refl
    few (suc zero) zero s p h = ap (λ (t : Turn S). o (run f 0 (pos 0) t)) (turn 0 s p) ∙ same 0 (pos 0) (g s) s (keeps s p) p
    few (suc (suc n)) zero s p h = absurd (omega arith)
    few (suc n) (suc j) s p h =
        ap (λ (t : Turn S). o (run f n (negsuc j) t)) (turn (suc j) s p)
        ∙ few n j (g s) (keeps s p) (omega arith) ∙ same 0 (pos 0) (g s) s (keeps s p) p

    skip : (n j : ℕ) (s : S) → P s → o (run f (n + suc j) (negsuc j) (on s)) ≡ o (run f n (pos 0) (on s))
    unfolding run
    skip n zero s p =
        let z : n + 1 ≡ suc n = add-one n in
        rw z (ap (λ (t : Turn S). o (run f n (pos 0) t)) (turn 0 s p) ∙ same n (pos 0) (g s) s (keeps s p) p)
    skip n (suc j) s p =
        let z : n + suc (suc j) ≡ suc (n + suc j) = omega arith in
        rw z (ap (λ (t : Turn S). o (run f (n + suc j) (negsuc j) t)) (turn (suc j) s p)
        ∙ skip n j (g s) (keeps s p) ∙ same n (pos 0) (g s) s (keeps s p) p)

    pub range-nat : (a b : ℤ) (s : S) → P s → o (range f a b s) ≡ o (run f (to_nat b - to_nat a) (pos (to_nat a)) (on s))
    unfolding run
    range-nat (pos a) b s p = ap o (range-end f a b s)
    range-nat (negsuc j) (pos m) s p = rw sub-zero (skip m j s p)
    range-nat (negsuc j) (negsuc m) s p =
        let z : to_nat (sub_ℕ (suc j) (suc m)) ≡ suc j - suc m = subℕ-nat (suc j) (suc m) in
        rw z (few (suc j - suc m) j s p (omega arith) ∙ sym (few 0 j s p (omega arith)))

  -- downwards: the loop stands above k
  module _ (f : ℤ → S → Turn S) where
    pub back-out : (n : ℕ) (k : ℤ) (s : S) → run_back f n k (out s) ≡ s
    unfolding run_back
    back-out zero k s = refl
    back-out (suc n) k s = refl

    pub back-next : (lo k : ℕ) {s s' : S} → lo < k → f (pos (k - 1)) s ≡ on s'
        → run_back f (k - lo) (pred_ℤ (pos k)) (on s) ≡ run_back f (k - 1 - lo) (pred_ℤ (pos (k - 1))) (on s')
    unfolding run_back
    back-next lo zero h t = absurd (omega arith)
    back-next lo (suc k) {s} {s'} h t =
        let a : suc k - lo ≡ suc (k - lo) = omega arith in
        let b : suc k - 1 ≡ k = omega arith in
        rw (a, b) (ap (run_back f (k - lo) (pred_ℤ (pos k))) (rw b at t))

    pub back-stop : (lo k : ℕ) {s s' : S} → lo < k → f (pos (k - 1)) s ≡ out s' → run_back f (k - lo) (pred_ℤ (pos k)) (on s) ≡ s'
    unfolding run_back
    back-stop lo zero h t = absurd (omega arith)
    back-stop lo (suc k) {s} {s'} h t =
        let a : suc k - lo ≡ suc (k - lo) = omega arith in
        let b : suc k - 1 ≡ k = omega arith in
        rw a (ap (run_back f (k - lo) (pred_ℤ (pos k))) (rw b at t) ∙ back-out (k - lo) (pred_ℤ (pos k)) s')

    pub back_done : (lo k : ℕ) (s : S) → k ≤ lo → run_back f (k - lo) (pred_ℤ (pos k)) (on s) ≡ s
    unfolding run_back
    back_done lo k s h = let z : k - lo ≡ 0 = omega arith in rw z

    -- the turns at negative k leave what o sees
    module _ {A : Type 0} (o : S → A) (low : (n j : ℕ) (s : S) → o (run_back f n (negsuc j) (on s)) ≡ o s) where
      back_more : (d p : ℕ) (t : Turn S) → o (run_back f (p + d) (pred_ℤ (pos p)) t) ≡ o (run_back f p (pred_ℤ (pos p)) t)
      unfolding run_back
      back_more d zero (on s) = low (0 + d) 0 s
      back_more d zero (out s) = ap o (back-out (0 + d) (negsuc 0) s)
      back_more d (suc p) (out s) = ap o (back-out (suc p + d) (pos p) s)
      back_more d (suc p) (on s) = let z : suc p + d ≡ suc (p + d) = omega arith in rw z (back_more d p (f (pos p) s))

      pub back-nat : (k : ℕ) (b : ℤ) (s : S) → o (range_back f (pos k -ℤ pos 1) b s) ≡ o (run_back f (k - to_nat b) (pred_ℤ (pos k)) (on s))
      back-nat k b s = rw (-ℤ-+ℤ_cancel (pos k) (pos 1), -ℤ_one (pos k)) (go b) where
        go : (b : ℤ) → o (run_back f (to_nat (pos k -ℤ b)) (pred_ℤ (pos k)) (on s)) ≡ o (run_back f (k - to_nat b) (pred_ℤ (pos k)) (on s))
        go (pos b) = rw (sub-nat k b)
        go (negsuc j) = rw sub-zero (back_more (suc j) k (on s))

-- what a turn hands on, the loop hands on to its end
pub each_holds : {S : Type 0} (P : ℕ → S → Type 0) (f : ℕ → S → S) (e : ℕ) → ((i : ℕ) (s : S) → i < e → P i s → P (suc i) (f i s))
    → (n i : ℕ) (s : S) → i + n ≡ e → P i s → P e (each f n i s)
unfolding each
each_holds P f e step zero i s h p = let z : i ≡ e = omega arith in rw z at p
each_holds P f e step (suc n) i s h p = each_holds P f e step n (suc i) (f i s) (omega arith) (step i s (omega arith) p)

-- two loops that are related turn by turn are related at their end
pub each-alike : {S T : Type 0} (R : ℕ → S → T → Type 0) (f : ℕ → S → S) (g : ℕ → T → T) (a e : ℕ)
    → ((i : ℕ) (s : S) (t : T) → i < e → R i s t → R (suc i) (f (a + i) s) (g i t))
    → (n i : ℕ) (s : S) (t : T) → i + n ≡ e → R i s t → R e (each f n (a + i) s) (each g n i t)
unfolding each
each-alike R f g a e step zero i s t h r = let z : i ≡ e = omega arith in rw z at r
each-alike R f g a e step (suc n) i s t h r =
    let z : suc (a + i) ≡ a + suc i = omega arith in
    rw z (each-alike R f g a e step n (suc i) (f (a + i) s) (g i t) (omega arith) (step i s t (omega arith) r))

-- ---- what holds of a turn's state
abbrev pub Holds : {S : Type 0} → (S → Type 0) → Turn S → Type 0
Holds P (on s) = P s
Holds P (out s) = P s

-- ---- what every turn keeps true a search keeps true to its end, where Q is known of every frame that it comes to
module _ {S : Type 0} (f : ℤ → S → Turn S) (P : S → Type 0) (Q : ℤ → Type 0) (step : (k : ℤ) (s : S) → Q k → P s → Holds P (f k s)) where
  pub run_holds : ((k : ℤ) → Q k → Q (suc_ℤ k)) → (n : ℕ) (k : ℤ) (t : Turn S) → Q k → Holds P t → P (run f n k t)
  unfolding run
  run_holds up zero k (on s) q p = p
  run_holds up zero k (out s) q p = p
  run_holds up (suc n) k (out s) q p = p
  run_holds up (suc n) k (on s) q p = run_holds up n (suc_ℤ k) (f k s) (up k q) (step k s q p)

  pub back-holds : ((k : ℤ) → Q k → Q (pred_ℤ k)) → (n : ℕ) (k : ℤ) (t : Turn S) → Q k → Holds P t → P (run_back f n k t)
  unfolding run_back
  back-holds down zero k (on s) q p = p
  back-holds down zero k (out s) q p = p
  back-holds down (suc n) k (out s) q p = p
  back-holds down (suc n) k (on s) q p = back-holds down n (pred_ℤ k) (f k s) (down k q) (step k s q p)

-- ---- a search downwards stands at a, a search upwards to e stands at b: what is left of it finds what the whole finds
module _ (p : ℕ → Bool) where
  pub down-next : (a : ℕ) → 0 < a → p a ≡ true → down p a ≡ down p (a - 1)
  unfolding down
  down-next (suc a) h t = let z : suc a - 1 ≡ a = omega arith in rw (t, z)
  down-next zero h t = absurd (omega arith)

  pub down-stop : (a : ℕ) → p a ≡ false → down p a ≡ a
  unfolding down
  down-stop zero t = refl
  down-stop (suc a) t = rw t

  pub down_le : (a : ℕ) → down p a ≤ a
  unfolding down
  down_le zero = omega arith
  down_le (suc a) = go (p (suc a)) (down_le a) where
    go : (t : Bool) {m : ℕ} → m ≤ a → cond t m (suc a) ≤ suc a
    go true h = omega arith
    go false h = omega arith

  pub up_next : (e b : ℕ) → b < e → p b ≡ true → up p (e - b) b ≡ up p (e - (b + 1)) (b + 1)
  unfolding up
  up_next e b h t = let z : e - b ≡ suc (e - (b + 1)) = omega arith in rw (z, add-one, t)

  pub up-stop : (e b : ℕ) → p b ≡ false → up p (e - b) b ≡ b
  unfolding up
  up-stop e b t = go (e - b) where
    go : (n : ℕ) → up p n b ≡ b
    go zero = refl
    go (suc n) = rw t

  pub up_done : (e b : ℕ) → e ≤ b → up p (e - b) b ≡ b
  unfolding up
  up_done e b h = let z : e - b ≡ 0 = omega arith in rw z

  pub up-ge : (n b : ℕ) → b ≤ up p n b
  unfolding up
  up-ge zero b = omega arith
  up-ge (suc n) b = go (p b) (up-ge n (suc b)) where
    go : (t : Bool) {m : ℕ} → suc b ≤ m → b ≤ cond t m b
    go true h = omega arith
    go false h = omega arith

  pub up_le : (n b : ℕ) → up p n b ≤ b + n
  unfolding up
  up_le zero b = omega arith
  up_le (suc n) b = go (p b) (up_le n (suc b)) where
    go : (t : Bool) {m : ℕ} → m ≤ suc b + n → cond t m b ≤ b + suc n
    go true h = omega arith
    go false h = omega arith

  -- ---- what a search went past, the test holds of
  pub up-seen : (n b i : ℕ) → b ≤ i → i < up p n b → p i ≡ true
  unfolding up
  up-seen zero b i h k = absurd (omega arith)
  up-seen (suc n) b i h k = go (p b) refl k (up-seen n (suc b) i) where
    go : (t : Bool) → p b ≡ t → i < cond t (up p n (suc b)) b → (suc b ≤ i → i < up p n (suc b) → p i ≡ true) → p i ≡ true
    go true t l more = elim (eq-or-lt_of_le h) [
      | inl e ↦ rw (← e) t
      | inr m ↦ more m l
    ]
    go false t l more = absurd (omega arith)

  pub down-seen : (a i : ℕ) → i ≤ a → down p a < i → p i ≡ true
  unfolding down
  down-seen zero i h k = absurd (omega arith)
  down-seen (suc a) i h k = go (p (suc a)) refl k (down-seen a i) where
    go : (t : Bool) → p (suc a) ≡ t → cond t (down p a) (suc a) < i → (i ≤ a → down p a < i → p i ≡ true) → p i ≡ true
    go true t l more = elim (eq-or-lt_of_le h) [
      | inl e ↦ rw e t
      | inr m ↦ more (omega arith) l
    ]
    go false t l more = absurd (omega arith)

  -- ---- where a search downwards ends early, the test fails
  pub down-found : (a : ℕ) → 0 < down p a → p (down p a) ≡ false
  unfolding down
  down-found zero h = absurd (omega arith)
  down-found (suc a) h = go (p (suc a)) refl (down-found a) h where
    go : (t : Bool) → p (suc a) ≡ t → (0 < down p a → p (down p a) ≡ false) → 0 < cond t (down p a) (suc a) → p (cond t (down p a) (suc a)) ≡ false
    go true e more h = more h
    go false e more h = e

  -- ---- where a search upwards ends early, the test fails
  pub up-found : (n b : ℕ) → up p n b < b + n → p (up p n b) ≡ false
  unfolding up
  up-found zero b h = absurd (omega arith)
  up-found (suc n) b h = go (p b) refl (up-found n (suc b)) h where
    go : (t : Bool) → p b ≡ t → (up p n (suc b) < suc b + n → p (up p n (suc b)) ≡ false) → cond t (up p n (suc b)) b < b + suc n → p (cond t (up p n (suc b)) b) ≡ false
    go true e more h = more (omega arith)
    go false e more h = e

-- the last turn of a loop
pub each_last : {S : Type 0} (f : ℕ → S → S) (n i : ℕ) (s : S) → each f (suc n) i s ≡ f (i + n) (each f n i s)
unfolding each
each_last f zero i s = let z : i + 0 ≡ i = omega arith in rw z
each_last f (suc n) i s = let z : i + suc n ≡ suc i + n = omega arith in rw z (each_last f n (suc i) (f i s))

-- a loop to e that stands at i, n turns later
pub each_after : {S : Type 0} (f : ℕ → S → S) (e i n : ℕ) (s : S) {s' : S} → i + n ≤ e → s' ≡ each f n i s → each f (e - i) i s ≡ each f (e - (i + n)) (i + n) s'
unfolding each
each_after f e i zero s h t = let z : i + 0 ≡ i = omega arith in rw (z, t)
each_after f e i (suc n) s h t =
    let m : e - i ≡ suc (e - suc i) = omega arith in
    let z : i + suc n ≡ suc i + n = omega arith in
    rw (m, z) (each_after f e (suc i) n (f i s) (omega arith) t)
