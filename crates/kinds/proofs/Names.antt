-- Names as words, for any multiplier M above every slot number: word and target invert each other, and words are in the order of names.
-- Assumes nothing.
use mathlib.Core.Path.{◌≡◌, refl, sym, ap, ◌∙◌}
use mathlib.Core.Bool.{Bool, true, false, cond}
use mathlib.Core.Logic.{◌≢◌, ◌⊎◌, inl, inr, ⊎_elim}
use Prim.Native.Nat.{ℕ, ◌+◌, ◌-◌, ◌*◌, ◌/◌, ◌%◌, ◌<◌}
use native.Mathlib.Nat.{div-add-mod', eq-or-lt_of_le}
use native.Mathlib.Omega.{arith}
use lib.Arith.{digits_div, digits_mod, digits_lt}
use lib.Dec.{eqb}
use borrow.Author.Tests.{ne_eqb, eqb-true, eqb-false}
use Rattle.loops.proofs.Tests.{lt_or_ge}
use Rattle.kinds.specs.Names.{word_at, target_at, named}
use Rattle.kinds.specs.declared.Name.{Name}
use Rattle.kinds.specs.Names.{Target}
use Rattle.std.specs.Prelude.{None, Some}

-- a target whose slot is below M
abbrev pub SlotBelow : ℕ → Target → Type 0
SlotBelow M None = Unit {0}
SlotBelow M (Some n) = n.slot.0 < M

-- the order of names: partition first, then slot
pub Before : Name → Name → Type 0
Before a b = (a.partition.0 < b.partition.0) ⊎ ((a.partition.0 ≡ b.partition.0) × (a.slot.0 < b.slot.0))

module _ (M : ℕ) where
  -- a name is the name of its number
  pub name_number : (n : Name) → n.slot.0 < M → named ((n.partition.0 * M + n.slot.0) / M) ((n.partition.0 * M + n.slot.0) % M) ≡ n
  name_number n h =
      λ i. record {
        partition = record { 0 = digits_div n.partition.0 h i };
        slot = record { 0 = digits_mod n.partition.0 h i };
      }

  pub word_target : (w : ℕ) → word_at M (target_at M w) ≡ w
  word_target w = go (eqb w 0) refl
    where
      go : (b : Bool) → eqb w 0 ≡ b → word_at M (cond b None (Some (named ((w - 1) / M) ((w - 1) % M)))) ≡ w
      go true e = omega (arith, eqb-true w 0 e)
      go false e = let d : w ≢ 0 = eqb-false w 0 e in omega (arith, div-add-mod' (w - 1) M)

  pub target_word : (t : Target) → SlotBelow M t → target_at M (word_at M t) ≡ t
  target_word None h = refl
  target_word (Some n) h =
      let k : ℕ = n.partition.0 * M + n.slot.0 in
      rw (ne_eqb (k + 1) 0 (omega arith))
      (ap (λ (j : ℕ). Some (named (j / M) (j % M))) (omega arith) ∙ ap Some (name_number n h))

  pub order : (a b : Name) → a.slot.0 < M → Before a b → word_at M (Some a) < word_at M (Some b)
  unfolding Before
  order a b h = ⊎_elim (λ l. omega (arith, digits_lt l h)) (λ w. omega (arith, ap (λ (p : ℕ). p * M) w.0))

  pub order_back : (a b : Name) → b.slot.0 < M → word_at M (Some a) < word_at M (Some b) → Before a b
  unfolding Before
  order_back a b h l =
      ⊎_elim (λ d. inl d)
      (λ d. ⊎_elim (λ e. inr (sym e, omega (arith, ap (λ (p : ℕ). p * M) e))) (λ g. absurd (omega (arith, digits_lt g h))) (eq-or-lt_of_le d))
      (lt_or_ge a.partition.0 b.partition.0)
