-- Part of the way from x to y, x + (y - x) × part with three roundings, lies a sixty-fourth beyond the two at most. The difference rounds to at most
-- the next multiple of a sixty-fourth; a part of it rounds to no more, and has its sign. Assumes nothing.
use Prim.Native.Nat.{ℕ, ◌+◌, ◌-◌, ◌*◌, ◌/◌, ◌<◌, ◌≤◌, ◌^◌}
use mathlib.Core.Bool.{Bool, true, false, cond, not}
use mathlib.Core.Path.{◌≡◌, refl}
use native.Mathlib.Nat.{mul-pos, mul-le-mul_right, mul-le-mul, le_of_mul-le-mul_right, div-add-mod', mod-lt}
use native.Mathlib.Omega.{arith}
use borrow.Author.Tests.{ltb-true, ltb-false}
use lib.IntN.{ℤ}
use lib.Dec.{ltb, lit≤}
use lib.Ieee.{Float, nan, inf, fin, binary64, up, down, unlike, round, sum, add, neg, sub, mul}
use lib.Ieee.Fits.{down_pos}
use Rattle.base.specs.Floats.{◌⊕◌, ◌⊖◌, ◌⊗◌, Most}
use Rattle.bounds.specs.Bounds.{Under}
use Rattle.bounds.proofs.Rounding.{round-signed, sum_like, sum-unlike}

-- ---- the next multiple of a sixty-fourth
over : (n c : ℕ) → 0 < c → (y : ℕ) × ((n ≤ y * c) × (y * c ≤ n + c))
over n c C = (n / c + 1, (omega (arith, div-add-mod' n c, mod-lt n C), omega (arith, div-add-mod' n c)))

-- ---- y sixty-fourths with the sign t, from X / E with the sign s: they end at b + 1 sixty-fourths at most
abbrev Toward : Bool → Bool → ℕ → ℕ → ℕ → ℕ → Type 0
Toward true true b X E y = X * 64 + y * E ≤ (b + 1) * E
Toward true false b X E y = y * E ≤ X * 64 + (b + 1) * E
Toward false true b X E y = y * E ≤ X * 64 + (b + 1) * E
Toward false false b X E y = X * 64 + y * E ≤ (b + 1) * E

like : (s : Bool) (b X E y : ℕ) → X * 64 + y * E ≤ (b + 1) * E → Toward s s b X E y
like true b X E y h = h
like false b X E y h = h

unlike-way : (s : Bool) (b X E y : ℕ) → y * E ≤ X * 64 + (b + 1) * E → Toward s (not s) b X E y
unlike-way true b X E y h = h
unlike-way false b X E y h = h

record Way (s : Bool) (b X E : ℕ) (d : Float) : Type 0 where
  sign : Bool
  steps : ℕ
  fine : steps < 2 ^ 53
  most : Most sign steps 64 d
  toward : Toward s sign b X E steps

-- ---- the difference of Z / F and X / E, both of at most b sixty-fourths
module _ (b X E Z F : ℕ) (B : b < 2 ^ 50) (PE : 0 < E) (PF : 0 < F) (hx : X * 64 ≤ b * E) (hz : Z * 64 ≤ b * F) where
  zs : Z * 64 * E ≤ b * F * E
  zs = mul-le-mul_right E hz

  on-from : (n y : ℕ) → n + X * F ≤ Z * E → y * (F * E) ≤ n * 64 + F * E → X * 64 + y * E ≤ (b + 1) * E
  on-from n y h l = le_of_mul-le-mul_right {k = F} (omega (arith, zs)) PF

  back_from : (n y : ℕ) → n ≤ Z * E + X * F → y * (F * E) ≤ n * 64 + F * E → y * E ≤ X * 64 + (b + 1) * E
  back_from n y h l = le_of_mul-le-mul_right {k = F} (omega (arith, zs)) PF

  steps-fine : (y : ℕ) → y * E ≤ X * 64 + (b + 1) * E → y < 2 ^ 53
  steps-fine y h = let l : y ≤ b + b + 1 = le_of_mul-le-mul_right {k = E} (omega arith) PE in omega arith

  rounded : (s t : Bool) (n : ℕ) → ((y : ℕ) → y * (F * E) ≤ n * 64 + F * E → (y < 2 ^ 53) × Toward s t b X E y) → Way s b X E (round binary64 t n (F * E))
  rounded s t n h =
      let o = over (n * 64) (F * E) (mul-pos PF PE) in
      let g = h o.0 o.1.1 in
      record { sign = t; steps = o.0; fine = g.0; most = round-signed 6 (lit≤ tt) t n (F * E) o.0 (mul-pos PF PE) g.0 o.1.0; toward = g.1 }

  forth : (s : Bool) (n : ℕ) → n + X * F ≤ Z * E → Way s b X E (round binary64 s n (F * E))
  forth s n h = rounded s s n (λ y l. let g = on-from n y h l in (steps-fine y (omega arith), like s b X E y g))

  back : (s : Bool) (n : ℕ) → n ≤ Z * E + X * F → Way s b X E (round binary64 (not s) n (F * E))
  back s n h = rounded s (not s) n (λ y l. let g = back_from n y h l in (steps-fine y g, unlike-way s b X E y g))

  difference : (s t : Bool) → Way s b X E (sum binary64 t (Z * E) (not s) (X * F) (F * E))
  unfolding sum
  difference true false = back true (Z * E + X * F) (omega arith)
  difference false true = back false (Z * E + X * F) (omega arith)
  difference false false = go (ltb (Z * E) (X * F)) refl
    where
      go : (q : Bool) → ltb (Z * E) (X * F) ≡ q → Way false b X E (cond q (round binary64 true (X * F - Z * E) (F * E)) (round binary64 false (Z * E - X * F) (F * E)))
      go true q = back false (X * F - Z * E) (omega arith)
      go false q = let l = ltb-false (Z * E) (X * F) q in forth false (Z * E - X * F) (omega arith)
  difference true true = go (ltb (Z * E) (X * F)) (ltb (X * F) (Z * E)) refl
    where
      go : (q r : Bool) → ltb (X * F) (Z * E) ≡ r → Way true b X E (cond q (round binary64 false (X * F - Z * E) (F * E)) (round binary64 r (Z * E - X * F) (F * E)))
      go true r e = back true (X * F - Z * E) (omega arith)
      go false true e = let l = ltb-true (X * F) (Z * E) e in forth true (Z * E - X * F) (omega arith)
      go false false e = back true (Z * E - X * F) (omega arith)

-- ---- a part of it
part-most : (s : Bool) (y : ℕ) (d part : Float) → y < 2 ^ 53 → Most s y 64 d → Most false 1 1 part → Most s y 64 (d ⊗ part)
unfolding mul
part-most s y nan part l h k = absurd h
part-most s y (inf t) part l h k = absurd h
part-most s y (fin t m e) nan l h k = absurd k
part-most s y (fin t m e) (inf u) l h k = absurd k
part-most s y (fin t m e) (fin u n d) l h k =
    rw (h.0, k.0, same s) (round-signed 6 (lit≤ tt) s (m * up e * (n * up d)) (down e * down d) y (mul-pos (down_pos e) (down_pos d)) l (cross (m * up e) (down e) (n * up d) (down d) h.1 k.1))
  where
    same : (s : Bool) → unlike s false ≡ s
    same true = refl
    same false = refl

    cross : (X E N D : ℕ) → X * 64 ≤ y * E → N * 1 ≤ 1 * D → X * N * 64 ≤ y * (E * D)
    cross X E N D h k = let r : X * 64 * (N * 1) ≤ y * E * (1 * D) = mul-le-mul h k in omega arith

-- ---- and x with it
arrive : (b y : ℕ) (s t : Bool) (m : ℕ) (e : ℤ) (p : Float) → b < 2 ^ 50 → m * up e * 64 ≤ b * down e → Most t y 64 p → Toward s t b (m * up e) (down e) y → Under (b + 1) (fin s m e ⊕ p)
unfolding add
arrive b y s t m e nan B l h w = absurd h
arrive b y s t m e (inf u) B l h w = absurd h
arrive b y s t m e (fin u n d) B l h w = rw h.0 (go s t w)
  where
    c : 0 < down e * down d
    c = mul-pos (down_pos e) (down_pos d)

    N-most : n * up d * 64 * down e ≤ y * down d * down e
    N-most = mul-le-mul_right (down e) h.1

    X-most : m * up e * 64 * down d ≤ b * down e * down d
    X-most = mul-le-mul_right (down d) l

    on-way : m * up e * 64 + y * down e ≤ (b + 1) * down e → (m * up e * down d + n * up d * down e) * 64 ≤ (b + 1) * (down e * down d)
    on-way w = let r : (m * up e * 64 + y * down e) * down d ≤ (b + 1) * down e * down d = mul-le-mul_right (down d) w in omega (arith, N-most)

    back-way : y * down e ≤ m * up e * 64 + (b + 1) * down e → n * up d * down e * 64 ≤ m * up e * down d * 64 + (b + 1) * (down e * down d)
    back-way w = let r : y * down e * down d ≤ (m * up e * 64 + (b + 1) * down e) * down d = mul-le-mul_right (down d) w in omega (arith, N-most)

    short-way : m * up e * down d * 64 ≤ n * up d * down e * 64 + (b + 1) * (down e * down d)
    short-way = omega (arith, X-most)

    go : (s t : Bool) → Toward s t b (m * up e) (down e) y → Under (b + 1) (sum binary64 s (m * up e * down d) t (n * up d * down e) (down e * down d))
    go true true w = sum_like 6 (lit≤ tt) (m * up e * down d) (n * up d * down e) (down e * down d) (b + 1) c (omega arith) true (on-way w)
    go false false w = sum_like 6 (lit≤ tt) (m * up e * down d) (n * up d * down e) (down e * down d) (b + 1) c (omega arith) false (on-way w)
    go true false w = sum-unlike 6 (lit≤ tt) (m * up e * down d) (n * up d * down e) (down e * down d) (b + 1) c (omega arith) true short-way (back-way w)
    go false true w = sum-unlike 6 (lit≤ tt) (m * up e * down d) (n * up d * down e) (down e * down d) (b + 1) c (omega arith) false short-way (back-way w)

pub part-way : (b : ℕ) (x y part : Float) → b < 2 ^ 50 → Under b x → Under b y → Most false 1 1 part → Under (b + 1) (x ⊕ (y ⊖ x) ⊗ part)
part-way b nan y part B h k p = absurd h
part-way b (inf s) y part B h k p = absurd h
part-way b (fin s m e) nan part B h k p = absurd k
part-way b (fin s m e) (inf t) part B h k p = absurd k
part-way b (fin s m e) (fin t n d) part B h k p =
    let w : Way s b (m * up e) (down e) (fin t n d ⊖ fin s m e) = unfold sub add neg in difference b (m * up e) (down e) (n * up d) (down d) B (down_pos e) (down_pos d) h k s t in
    arrive b w.steps s w.sign m e ((fin t n d ⊖ fin s m e) ⊗ part) B h (part-most w.sign w.steps (fin t n d ⊖ fin s m e) part w.fine w.most p) w.toward
