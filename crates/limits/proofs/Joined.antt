-- What applies of two things, and of one test: none exactly when none of either does, and when the test says no; and what the code makes of them. Assumes nothing.
use Prim.Native.Nat.{ℕ}
use mathlib.Core.Path.{◌≡◌, refl, ap, ◌∙◌}
use mathlib.Core.Bool.{Bool, true, false, ◌&&◌, ◌||◌, true≢false}
use mathlib.Core.Logic.{◌↔◌}
use lib.Dec.{eqb}
use Rattle.base.specs.Refusals.{Rule, number, NoneApplies}
use Rattle.base.specs.declared.Refusal.{Refusal}
use Rattle.base.specs.declared.Refusal.TheVariants.{Time, Letters, Lengths, Counts, Layout, Places, Levels, Cut}
use Rattle.limits.specs.Order.{when, also, in_order, chain}
use Rattle.limits.specs.declared.Applies.{Applies}

-- ---- two tests, of which none applies
pub neither : (a b : Bool) → (a || b) ≡ false → (a ≡ false) × (b ≡ false)
neither true b h = absurd (true≢false h)
neither false b h = (refl, h)

pub both-not : {a b : Bool} → a ≡ false → b ≡ false → (a || b) ≡ false
both-not p q = rw (p, q)

-- ---- of two things, field by field
join : (a b : Applies) → NoneApplies (in_order a) → NoneApplies (in_order b) → NoneApplies (in_order (also a b))
unfolding in_order also
join a b m n = (
  both-not m.0 n.0,
  (
    both-not m.1.0 n.1.0,
    (
      both-not m.1.1.0 n.1.1.0,
      (
        both-not m.1.1.1.0 n.1.1.1.0,
        (both-not m.1.1.1.1.0 n.1.1.1.1.0, (both-not m.1.1.1.1.1.0 n.1.1.1.1.1.0, (both-not m.1.1.1.1.1.1.0 n.1.1.1.1.1.1.0, tt))),
      ),
    ),
  ),
)

part : (a b : Applies) → NoneApplies (in_order (also a b)) → NoneApplies (in_order a) × NoneApplies (in_order b)
unfolding in_order also
part a b n =
    let n₃ = neither _ _ n.0 in
    let n₄ = neither _ _ n.1.0 in
    let n₁ = neither _ _ n.1.1.0 in
    let n₂ = neither _ _ n.1.1.1.0 in
    let n₇ = neither _ _ n.1.1.1.1.0 in
    let n₆ = neither _ _ n.1.1.1.1.1.0 in
    let n₈ = neither _ _ n.1.1.1.1.1.1.0 in
    ((n₃.0, (n₄.0, (n₁.0, (n₂.0, (n₇.0, (n₆.0, (n₈.0, tt))))))), (n₃.1, (n₄.1, (n₁.1, (n₂.1, (n₇.1, (n₆.1, (n₈.1, tt))))))))

pub also-exactly : {P Q : Type 0} (a b : Applies) → P ↔ NoneApplies (in_order a) → Q ↔ NoneApplies (in_order b) → (P × Q) ↔ NoneApplies (in_order (also a b))
also-exactly a b p q = (λ h. join a b (p.0 h.0) (q.0 h.1), λ n. let m = part a b n in (p.1 m.0, q.1 m.1))

-- ---- of one test; a layout is the program's alone
silent : (a : Bool) → (a && false) ≡ false
silent true = refl
silent false = refl

when-none : (why : Refusal) → NoneApplies (in_order (when false why))
unfolding in_order when
when-none why = let is : (n : ℕ) → (eqb (number why) n && false) ≡ false = λ n. silent (eqb (number why) n) in (is 3, (is 4, (is 1, (is 2, (is 7, (is 6, (is 8, tt)))))))

none-when : (b : Bool) (why : Refusal) → (number why ≡ 5 → ⊥) → NoneApplies (in_order (when b why)) → b ≡ false
unfolding in_order when
none-when b Lengths l n = n.0
none-when b Counts l n = n.1.0
none-when b Time l n = n.1.1.0
none-when b Letters l n = n.1.1.1.0
none-when b Levels l n = n.1.1.1.1.0
none-when b Places l n = n.1.1.1.1.1.0
none-when b Cut l n = n.1.1.1.1.1.1.0
none-when b Layout l n = absurd (l refl)

pub when-exactly : {P : Type 0} {b : Bool} (why : Refusal) → (number why ≡ 5 → ⊥) → P ↔ (b ≡ false) → P ↔ NoneApplies (in_order (when b why))
when-exactly {P} {b} why l p = (λ h. rw (p.0 h) (when-none why), λ n. p.1 (none-when b why l n))

-- ---- for the code: the same, of what was tested before
pub when-made : {a b : Bool} {r : Applies} (why : Refusal) → a ≡ b → r ≡ when a why → r ≡ when b why
when-made why e h = h ∙ ap (λ (x : Bool). when x why) e

pub also-made : {a b c d r : Applies} → a ≡ c → b ≡ d → r ≡ also a b → r ≡ also c d
also-made e f h = h ∙ rw (e, f)

pub chain-made : {a b : Applies} {r : Rule} → a ≡ b → r ≡ chain a → r ≡ chain b
chain-made e h = h ∙ ap chain e
