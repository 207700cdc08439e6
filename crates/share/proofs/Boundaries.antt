-- What `share` leaves: word i starts at boundary i and ends at the next. By following the loop. Assumes nothing.
use Prim.Native.Nat.{ℕ, suc, ◌+◌, ◌<◌}
use mathlib.Core.Bool.{Bool, true, false}
use mathlib.Core.List.{List}
use mathlib.Core.Path.{◌≡◌, refl, sym, ap, ◌∙◌}
use native.Mathlib.Omega.{arith}
use native.Mathlib.Numerals.{add-one}
use borrow.Author.Tests.{eqb-true, eqb-false}
use lib.Dec.{eqb}
use lib.ListN.{length, get_or, set, length-set}
use lib.Seq.{get_or-set_same, get_or-set_other}
use lib.Ieee.{Float, nan}
use Rattle.base.specs.Loop.{each}
use Rattle.base.specs.Floats.{◌⊕◌}
use Rattle.base.specs.Words.{Edges}
use Rattle.base.proofs.Loops.{each_holds, each_last}
use Rattle.share.specs.Share.{Sharing, share_of, share_turn, share, boundary}

module _ (letters : List ℕ) (room total from : Float) where
  -- ---- from one boundary to the next
  pub boundary-first : boundary letters room total from 0 ≡ from
  unfolding boundary each
  boundary-first = refl

  pub boundary-next : (i : ℕ) → boundary letters room total from (suc i) ≡ boundary letters room total from i ⊕ share_of room total (get_or letters i 0)
  unfolding boundary
  boundary-next i = let z : 0 + i ≡ i = omega arith in rw z at (each_last (λ (k : ℕ) (t : Float). t ⊕ share_of room total (get_or letters k 0)) i 0 from)

  module _ (es : Edges) where
    -- ---- before turn i the words before i lie between boundaries
    record Before (i : ℕ) (s : Sharing) : Type 0 where
      at : s.t ≡ boundary letters room total from i
      starts-long : length s.edges.starts ≡ length es.starts
      ends-long : length s.edges.ends ≡ length es.ends
      starts : (j : ℕ) → j < i → get_or s.edges.starts j nan ≡ boundary letters room total from j
      ends : (j : ℕ) → j < i → get_or s.edges.ends j nan ≡ boundary letters room total from (suc j)

    -- the list with element i put in
    put : (xs : List Float) (i : ℕ) (b : ℕ → Float) (v : Float) → i < length xs → v ≡ b i → ((j : ℕ) → j < i → get_or xs j nan ≡ b j) → (j : ℕ) → j < suc i → get_or (set xs i v) j nan ≡ b j
    put xs i b v l e h j k = go (eqb j i) refl
      where
        go : (t : Bool) → eqb j i ≡ t → get_or (set xs i v) j nan ≡ b j
        go true t = let z : j ≡ i = eqb-true j i t in rw z (get_or-set_same xs i v nan l ∙ e)
        go false t = let n = eqb-false j i t in get_or-set_other xs i j v nan n ∙ h j (omega arith)

    module _ (starts-as-long : length es.starts ≡ length letters) (ends-as-long : length es.ends ≡ length letters) where
      turn : (i : ℕ) (s : Sharing) → i < length letters → Before i s → Before (suc i) (share_turn letters room total i s)
      turn i s l h =
          let d = share_of room total (get_or letters i 0) in
          let next : s.t ⊕ d ≡ boundary letters room total from (suc i) = ap (λ (t : Float). t ⊕ d) h.at ∙ sym (boundary-next i) in
          record {
            at = next;
            starts-long = length-set s.edges.starts i s.t ∙ h.starts-long;
            ends-long = length-set s.edges.ends i (s.t ⊕ d) ∙ h.ends-long;
            starts = put s.edges.starts i (boundary letters room total from) s.t (omega (arith, h.starts-long)) h.at h.starts;
            ends = put s.edges.ends i (λ (j : ℕ). boundary letters room total from (suc j)) (s.t ⊕ d) (omega (arith, h.ends-long)) next h.ends;
          }

      shared : Before (length letters) (each (share_turn letters room total) (length letters) 0 (record { edges = es; t = from }))
      shared = each_holds Before (share_turn letters room total) (length letters) turn (length letters) 0 (record { edges = es; t = from }) (omega arith) (record {
        at = sym boundary-first;
        starts-long = refl;
        ends-long = refl;
        starts = λ j l. absurd (omega arith);
        ends = λ j l. absurd (omega arith);
      })

      -- ---- word i
      pub share-starts : (i : ℕ) → i < length letters → get_or (share letters room total from es).starts i nan ≡ boundary letters room total from i
      unfolding share
      share-starts = shared.starts

      pub share-ends : (i : ℕ) → i < length letters → get_or (share letters room total from es).ends i nan ≡ boundary letters room total from (i + 1)
      unfolding share
      share-ends i l = rw add-one (shared.ends i l)
