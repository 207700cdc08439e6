-- Evening adds 4,104 × 2^-40 s to a bound on times for each run, for a later run can take words that an earlier one moved; and once, for the run that holds the last
-- word, what the last word's slow pace comes to where no limit stops it, 120 s. A run ends at its last word's end, or beyond it at what its ceiling bounds. Assumes nothing.
use Prim.Native.Nat.{ℕ, suc, ◌+◌, ◌-◌, ◌*◌, ◌<◌, ◌≤◌, ◌^◌}
use mathlib.Core.Bool.{Bool, true, false, cond, not, ◌&&◌}
use mathlib.Core.List.{List}
use mathlib.Core.Logic.{◌⊎◌, inl, inr}
use mathlib.Core.Path.{◌≡◌, refl, sym, ap, ◌∙◌, subst}
use native.Mathlib.Omega.{arith}
use borrow.Author.Tests.{ltb-true, ltb-false}
use lib.Dec.{ltb, lit<, lit≤}
use lib.ListN.{length, get_or}
use lib.Ieee.{Float, nan, inf, fin, binary64, of_bits, is_nan, lt, eq}
use lib.Ieee.Exact.{HasValue}
use Rattle.base.specs.Loop.{each}
use Rattle.base.specs.Floats.{◌⊕◌, ◌⊖◌, ◌⊗◌, num}
use Rattle.base.specs.Words.{Edges, part, part_edges, on_part}
use Rattle.base.proofs.Loops.{each_holds, down_le, up-ge, up_le}
use Rattle.base.proofs.Parts.{long, on_part-long}
use Rattle.base.proofs.Values.{fraction, whole-int, mul-fraction}
use Rattle.js.specs.Js.{under, js_min, js_max}
use Rattle.word_calls.specs.Within.{AllFrom}
use Rattle.share.specs.Share as shares
use Rattle.share.proofs.Sums.{sum-between}
use Rattle.share.proofs.Long.{share-long}
use Rattle.even.specs.Even.{slow_letter, slow_word, sum, crushed, swollen, first_crushed, with_swollen, last_crushed, grows, grown, ceiling_of, borrows, borrowed, end_of, stretch_of, even_run, Evening, even_turn, even_out}
use Rattle.even.specs.declared.stretch.Stretch.{Stretch}
use Rattle.bounds.specs.Bounds.{UnderIn, steps, stray, slowest, Timed, Limit}
use Rattle.share.specs.Drifts.{farthest}
use Rattle.bounds.proofs.Rounding.{under_more, under-coarser, under-number, round_under, add-under}
use Rattle.bounds.proofs.Parted.{each_part, part_same, part-few, on_part-under, edges_more}
use Rattle.bounds.proofs.Sharing.{timed-more, difference-under}
use Rattle.bounds.proofs.Sides.{Side, under-side, min-side, clamp-under}

-- ---- a constant times a whole number
scaled_under : (k : ℕ) → k ≤ 1074 → (x : Float) (a c n b : ℕ) → HasValue x false a c → 0 < c → n ≤ 2 ^ 53 → b < 2 ^ 53 → a * n * 2 ^ k ≤ b * (c * 1) → UnderIn (2 ^ k) b (x ⊗ num n)
scaled_under k K x a c n b v C N B h =
    subst (UnderIn (2 ^ k) b) (sym (mul-fraction binary64 (fraction x a c v) (whole-int binary64 n N) C (lit< tt)))
    (round_under k K false (a * n) (c * 1) b (omega arith) B h)

-- 0.12 is a little below 3 / 25, 0.1 a little above 1 / 10
letter-value : HasValue slow_letter false 0x1e_b851_eb85_1eb8 (2 ^ 56)
unfolding of_bits
letter-value = (refl, refl)

word_value : HasValue slow_word false 0x19_9999_9999_999a (2 ^ 56)
unfolding of_bits
word_value = (refl, refl)

pace-under : (n : ℕ) → n ≤ 1000 → UnderIn steps slowest (slow_letter ⊗ num n)
pace-under n h = scaled_under 40 (lit≤ tt) slow_letter 0x1e_b851_eb85_1eb8 (2 ^ 56) n slowest letter-value (lit< tt) (omega arith) (lit< tt) (omega arith)

min-none : (y : Float) → js_min (inf false) y ≡ y
unfolding js_min under lt eq is_nan
min-none nan = refl
min-none (inf true) = refl
min-none (inf false) = refl
min-none (fin s m e) = refl

-- in whole seconds
pub coarse : (c : ℕ) (x : Float) → c ≤ farthest → UnderIn steps c x → UnderIn 1 8192 x
coarse c x l h = under-coarser 1 steps 8192 x (lit< tt) (under_more steps c (8192 * steps) x (omega arith) h)

module _ (letters : List ℕ) (ls : AllFrom 1 1000 letters) (few : length letters ≤ 4096) (limit : Float) where
  -- ---- the words of a run
  module _ (c : ℕ) (C : c ≤ farthest) (es : Edges) (w : Timed (length letters) c es) where
    run-under : (r : Stretch) → r.first ≤ r.last → r.last < length letters → UnderIn steps c r.to → Timed (length letters) (c + stray) (even_run letters r es)
    unfolding even_run sum
    run-under r h l u = record {
      starts-long = ap (λ (n : ℕ × ℕ). n.0) same ∙ w.starts-long;
      ends-long = ap (λ (n : ℕ × ℕ). n.1) same ∙ w.ends-long;
      small =
          on_part-under steps (c + stray) r.first (r.last + 1) f es (edges_more steps c (c + stray) es (omega arith) w.small)
          (unfold part_edges in
          difference-under ns (each_part (λ (n : ℕ). (1 ≤ n) × (n ≤ 1000)) 0 r.first (r.last + 1) letters ls) (part-few r.first (r.last + 1) 4096 letters few) c C (part_edges r.first (r.last + 1) es)
          (part_same r.first (r.last + 1) es.starts letters w.starts-long) (part_same r.first (r.last + 1) es.ends letters w.ends-long) start r.to
          (w.small.starts r.first (omega (arith, w.starts-long))) u);
    }
      where
        start : Float
        start = get_or es.starts r.first nan

        ns : List ℕ
        ns = part r.first (r.last + 1) letters

        f : Edges → Edges
        f = shares.share ns (r.to ⊖ start) (num (shares.sum ns)) start

        same : long (on_part r.first (r.last + 1) f es) ≡ long es
        same = on_part-long r.first (r.last + 1) f es (share-long ns (r.to ⊖ start) (num (shares.sum ns)) start (part_edges r.first (r.last + 1) es))

    -- ---- what a slow pace would take from word a to j is a number
    slow-number : (a j : ℕ) → a ≤ j → j < length letters → is_nan (get_or es.starts a nan ⊕ slow_letter ⊗ sum letters a j ⊕ slow_word ⊗ num (j - a + 1)) ≡ false
    unfolding sum
    slow-number a j h l =
        under-number 1 (8192 + 4096000 + 4096) (start ⊕ slow_letter ⊗ num total ⊕ slow_word ⊗ num (j - a + 1))
        (add-under 0 (lit≤ tt) (8192 + 4096000) 4096 (start ⊕ slow_letter ⊗ num total) (slow_word ⊗ num (j - a + 1)) (lit< tt)
        (add-under 0 (lit≤ tt) 8192 4096000 start (slow_letter ⊗ num total) (lit< tt) (coarse c start C (w.small.starts a (omega (arith, w.starts-long))))
        (scaled_under 0 (lit≤ tt) slow_letter 0x1e_b851_eb85_1eb8 (2 ^ 56) total 4096000 letter-value (lit< tt) (omega (arith, total-most)) (lit< tt) (omega (arith, total-most))))
        (scaled_under 0 (lit≤ tt) slow_word 0x19_9999_9999_999a (2 ^ 56) (j - a + 1) 4096 word_value (lit< tt) (omega arith) (lit< tt) (omega arith)))
      where
        start : Float
        start = get_or es.starts a nan

        ns : List ℕ
        ns = part a (j + 1) letters

        total : ℕ
        total = shares.sum ns

        total-most : shares.sum ns ≤ 4096000
        total-most =
            let s = (sum-between 1 1000 ns (each_part (λ (n : ℕ). (1 ≤ n) × (n ≤ 1000)) 0 a (j + 1) letters ls)).1 in
            let k = part-few a (j + 1) 4096 letters few in omega arith

    -- ---- the run of word i lies among the words
    stretch-in : (i : ℕ) → i < length es.starts → ((stretch_of letters es limit i).first ≤ (stretch_of letters es limit i).last) × ((stretch_of letters es limit i).last < length es.starts)
    unfolding stretch_of first_crushed with_swollen last_crushed grown borrowed
    stretch-in i l = (omega (arith, first-le, a-le, a₀-le, b₀-ge, b-ge), omega (arith, b₀-le, b-le))
      where
        len : ℕ
        len = length es.starts

        a₀ : ℕ
        a₀ = first_crushed es i

        a₀-le : a₀ ≤ i
        a₀-le = down_le (λ (a : ℕ). crushed es (a - 1)) i

        a : ℕ
        a = with_swollen letters es a₀

        a-le : a ≤ a₀
        a-le = go (ltb 0 a₀ && swollen letters es (a₀ - 1))
          where
            go : (t : Bool) → cond t (a₀ - 1) a₀ ≤ a₀
            go true = omega arith
            go false = omega arith

        b₀ : ℕ
        b₀ = last_crushed es len i

        b₀-ge : i ≤ b₀
        b₀-ge = up-ge (λ (b : ℕ). crushed es (b + 1)) (len - 1 - i) i

        b₀-le : b₀ ≤ i + (len - 1 - i)
        b₀-le = up_le (λ (b : ℕ). crushed es (b + 1)) (len - 1 - i) i

        b : ℕ
        b = grown letters es len a b₀

        b-ge : b₀ ≤ b
        b-ge = up-ge (grows letters es (get_or es.starts a nan) a) (len - 1 - b₀) b₀

        b-le : b ≤ b₀ + (len - 1 - b₀)
        b-le = up_le (grows letters es (get_or es.starts a nan) a) (len - 1 - b₀) b₀

        ceiling : Float
        ceiling = ceiling_of letters es limit len b

        first-le : borrowed letters es ceiling b a ≤ a
        first-le = down_le (borrows letters es ceiling b) a

    -- ---- where it ends
    module _ (b top : ℕ) (lim : Limit b top limit) (more : b ≤ c) (wide : c + slowest < 2 ^ 53) where
      last-ceiling : (j : ℕ) → j < length letters → Side steps false (c + top) (js_min limit (get_or es.ends j nan ⊕ slow_letter ⊗ num (get_or letters j 0)))
      last-ceiling j l = go lim
        where
          y : Float
          y = get_or es.ends j nan ⊕ slow_letter ⊗ num (get_or letters j 0)

          y-under : UnderIn steps (c + slowest) y
          y-under = add-under 40 (lit≤ tt) c slowest (get_or es.ends j nan) (slow_letter ⊗ num (get_or letters j 0)) wide (w.small.ends j (omega (arith, w.ends-long))) (pace-under (get_or letters j 0) (ls j l).1)

          go : Limit b top limit → Side steps false (c + top) (js_min limit y)
          go (inl (z, h)) = rw (z, min-none y) (under-side steps false (c + top) y (under_more steps (c + slowest) (c + top) y (omega arith) y-under))
          go (inr h) =
              min-side steps (c + top) limit y (under-number steps (c + slowest) y y-under)
              (under-side steps false (c + top) limit (under_more steps (b + top) (c + top) limit (omega arith) h))

      end-under : (i : ℕ) → i < length es.starts → (let r = stretch_of letters es limit i in UnderIn steps c r.to ⊎ ((length es.starts ≤ r.last + 1) × UnderIn steps (c + top) r.to))
      unfolding stretch_of end_of ceiling_of
      end-under i l = go (ltb (last + 1) (length es.starts)) refl
        where
          first : ℕ
          first = (stretch_of letters es limit i).first

          last : ℕ
          last = (stretch_of letters es limit i).last

          inside : (first ≤ last) × (last < length es.starts)
          inside = stretch-in i l

          at : last < length letters
          at = omega (arith, inside.1, w.starts-long)

          e : Float
          e = get_or es.ends last nan

          x : Float
          x = get_or es.starts first nan ⊕ slow_letter ⊗ sum letters first last ⊕ slow_word ⊗ num (last - first + 1)

          x-number : is_nan x ≡ false
          x-number = slow-number first last inside.0 at

          e-under : UnderIn steps c e
          e-under = w.small.ends last (omega (arith, at, w.ends-long))

          after : Float
          after = get_or es.starts (last + 1) nan

          final : Float
          final = js_min limit (get_or es.ends last nan ⊕ slow_letter ⊗ num (get_or letters last 0))

          go : (t : Bool) → ltb (last + 1) (length es.starts) ≡ t
              → UnderIn steps c (js_max e (js_min (cond t after final) x)) ⊎ ((length es.starts ≤ last + 1) × UnderIn steps (c + top) (js_max e (js_min (cond t after final) x)))
          go true t = inl (clamp-under steps c c e after x (omega arith) e-under (under-side steps false c after (w.small.starts (last + 1) (ltb-true (last + 1) (length es.starts) t))) x-number)
          go false t = inr (ltb-false (last + 1) (length es.starts) t, clamp-under steps c (c + top) e final x (omega arith) e-under (last-ceiling last at) x-number)

  -- ---- all runs: after t turns each bound has grown by t × 4,104, and by `top` only if no word is left
  module _ (b top : ℕ) (lim : Limit b top limit) (wide : b + top + stray * length letters ≤ farthest) (slow-wide : b + slowest + stray * length letters < 2 ^ 53) where
    Evened : ℕ → Evening → Type 0
    Evened t s = Timed (length letters) (b + stray * t) s.edges ⊎ ((length letters ≤ s.i) × Timed (length letters) (b + top + stray * t) s.edges)

    longer : (t : ℕ) (s : Evening) (i : ℕ) → s.i ≤ i → Evened t s → Evened (suc t) (record { edges = s.edges; i = i })
    unfolding Evened
    longer t s i h (inl w) = inl (timed-more (length letters) (b + stray * t) (b + stray * suc t) s.edges (omega arith) w)
    longer t s i h (inr (l, w)) = inr (omega arith, timed-more (length letters) (b + top + stray * t) (b + top + stray * suc t) s.edges (omega arith) w)

    turn : (t : ℕ) (s : Evening) → t < length letters → Evened t s → Evened (suc t) (even_turn letters limit s)
    unfolding even_turn Evened
    turn t s l p = go (ltb s.i (length s.edges.starts)) refl (not (crushed s.edges s.i)) p
      where
        r : Stretch
        r = stretch_of letters s.edges limit s.i

        c : ℕ
        c = b + stray * t

        run : s.i < length s.edges.starts → Timed (length letters) c s.edges → Evened (suc t) (record { edges = even_run letters r s.edges; i = r.last + 1 })
        run h w = ends (end-under c (omega arith) s.edges w b top lim (omega arith) (omega arith) s.i h)
          where
            inside : (r.first ≤ r.last) × (r.last < length s.edges.starts)
            inside = stretch-in c (omega arith) s.edges w s.i h

            at : r.last < length letters
            at = omega (arith, inside.1, w.starts-long)

            ends : UnderIn steps c r.to ⊎ ((length s.edges.starts ≤ r.last + 1) × UnderIn steps (c + top) r.to) → Evened (suc t) (record { edges = even_run letters r s.edges; i = r.last + 1 })
            ends (inl u) = inl (timed-more (length letters) (c + stray) (b + stray * suc t) (even_run letters r s.edges) (omega arith) (run-under c (omega arith) s.edges w r inside.0 at u))
            ends (inr (k, u)) = inr (
              omega (arith, k, w.starts-long),
              timed-more (length letters) (c + top + stray) (b + top + stray * suc t) (even_run letters r s.edges) (omega arith)
                  (run-under (c + top) (omega arith) s.edges (timed-more (length letters) c (c + top) s.edges (omega arith) w) r inside.0 at u),
            )

        go : (u : Bool) → ltb s.i (length s.edges.starts) ≡ u → (v : Bool) → Evened t s
            → Evened (suc t) (cond u (cond v (record { edges = s.edges; i = s.i + 1 }) (record { edges = even_run letters r s.edges; i = r.last + 1 })) s)
        go true u true q = longer t s (s.i + 1) (omega arith) q
        go true u false (inl w) = run (ltb-true s.i (length s.edges.starts) u) w
        go true u false (inr (h, w)) = absurd (omega (arith, ltb-true s.i (length s.edges.starts) u, w.starts-long))
        go false u v q = longer t s s.i (omega arith) q

    pub even-under : (es : Edges) → Timed (length letters) b es → Timed (length letters) (b + top + stray * length letters) (even_out letters limit es)
    unfolding Evened even_out
    even-under es w =
        rw (even_out, w.starts-long)
        (finish (each (λ (t : ℕ). even_turn letters limit) (length letters) 0 (record { edges = es; i = 0 }))
        (each_holds Evened (λ (t : ℕ). even_turn letters limit) (length letters) turn (length letters) 0 (record { edges = es; i = 0 }) (omega arith) (inl (timed-more (length letters) b (b + stray * 0) es (omega arith) w))))
      where
        finish : (s : Evening) → Evened (length letters) s → Timed (length letters) (b + top + stray * length letters) s.edges
        finish s (inl v) = timed-more (length letters) (b + stray * length letters) (b + top + stray * length letters) s.edges (omega arith) v
        finish s (inr v) = v.1
