-- The places of one partition: S in a row, p·S the first.
-- Assumes nothing.
use Prim.Native.Nat.{ℕ, ◌+◌, ◌*◌, ◌-◌, ◌≤◌, ◌<◌}
use native.Mathlib.Omega.{arith}
use Rattle.kinds.specs.Names.{most_places}
use Rattle.model.specs.Image.{Image}
use Rattle.model.proofs.Places.{slot_in}
use Rattle.image.specs.Within.{Within}
use Rattle.image.proofs.Within.{places}
use Rattle.locals.specs.Slots.{SlotOf}

module _ {P S : ℕ} {x : Image} {p k : ℕ} (h : SlotOf P S x p k) where
  pub slot_small : p * S + k < P * S
  slot_small = slot_in P S h.within.limits.some_slot p k h.part h.slot

  pub slot_most : p * S + k < most_places
  slot_most = omega (arith, slot_small, places h.within)

-- all of them
pub row_small : {P S : ℕ} {x : Image} → Within P S x → (p : ℕ) → p < P → p * S + S ≤ P * S
row_small {P} {S} w p inp =
    omega (arith, slot_in P S w.limits.some_slot p (S - 1) inp (omega (arith, w.limits.some_slot)), w.limits.some_slot)

pub row_most : {P S : ℕ} {x : Image} → Within P S x → (p : ℕ) → p < P → p * S + S ≤ most_places
row_most w p inp = omega (arith, row_small w p inp, places w)
