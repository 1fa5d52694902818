-- Laws of tests: what a passed or failed test tells, and the two ways of a number.
-- Assumes nothing.
use Prim.Native.Nat.{ℕ, ◌≤◌, ◌<◌}
use mathlib.Core.Path.{◌≡◌, refl, sym, ap, ◌∙◌}
use mathlib.Core.Bool.{Bool, true, false, not, true≢false}
use mathlib.Core.Logic.{◌≢◌, ◌⊎◌, inl, inr}
use native.Mathlib.Omega.{arith}
use lib.Dec.{eqb, ltb}
use borrow.Author.Tests.{not-true, not-false, eqb-true, eqb-false, eq-eqb, ne_eqb, ltb-true, ltb-false}
use Rattle.loops.specs.Loop.{both, bit}

-- a test cannot both pass and fail
pub clash : {b : Bool} → b ≡ true → b ≡ false → ⊥
clash p q = true≢false (sym p ∙ q)

pub is_false : (b : Bool) → (b ≡ true → ⊥) → b ≡ false
is_false true h = absurd (h refl)
is_false false h = refl

-- two tests that pass together are the same
pub same_test : (a b : Bool) → (a ≡ true → b ≡ true) → (b ≡ true → a ≡ true) → a ≡ b
same_test true b f g = sym (f refl)
same_test false true f g = g refl
same_test false false f g = refl

pub both_true : (a b : Bool) → both a b ≡ true → (a ≡ true) × (b ≡ true)
both_true true b e = (refl, e)
both_true false b e = absurd (true≢false (sym e))

pub both_so : (a b : Bool) → a ≡ true → b ≡ true → both a b ≡ true
both_so a b p q = rw (p, q)

pub both_false : (b : Bool) → both b false ≡ false
both_false true = refl
both_false false = refl

pub both_self : (b : Bool) → both b true ≡ b
both_self true = refl
both_self false = refl

-- a negated test, from the fact
pub eq_not : (a b : ℕ) → a ≡ b → not (eqb a b) ≡ false
eq_not a b q = ap not (eq-eqb a b q)

pub ne_not : (a b : ℕ) → a ≢ b → not (eqb a b) ≡ true
ne_not a b h = ap not (ne_eqb a b h)

-- of `if !test(..)`: what the call answered, where it is left and where it is taken
pub granted : {r b : Bool} → r ≡ b → not r ≡ false → b ≡ true
granted {r} e q = sym e ∙ not-false r q

pub denied : {r b : Bool} → r ≡ b → not r ≡ true → b ≡ false
denied {r} e q = sym e ∙ not-true r q

-- the same where the fact is told of the answer itself
pub told_true : {r b : Bool} → r ≡ b → r ≡ true → b ≡ true
told_true e q = sym e ∙ q

pub told_false : {r b : Bool} → r ≡ b → r ≡ false → b ≡ false
told_false e q = sym e ∙ q

pub bit_le : (b : Bool) → bit b ≤ 1
bit_le true = omega arith
bit_le false = omega arith

pub bit_zero : (b : Bool) → bit b ≡ 0 → b ≡ false
bit_zero true e = absurd (omega arith)
bit_zero false e = refl

pub eq_or_ne : (a b : ℕ) → (a ≡ b) ⊎ (a ≢ b)
eq_or_ne a b = go (eqb a b) refl
  where
    go : (t : Bool) → eqb a b ≡ t → (a ≡ b) ⊎ (a ≢ b)
    go true e = inl (eqb-true a b e)
    go false e = inr (eqb-false a b e)

pub lt_or_ge : (a b : ℕ) → (a < b) ⊎ (b ≤ a)
lt_or_ge a b = go (ltb a b) refl
  where
    go : (t : Bool) → ltb a b ≡ t → (a < b) ⊎ (b ≤ a)
    go true e = inl (ltb-true a b e)
    go false e = inr (ltb-false a b e)
