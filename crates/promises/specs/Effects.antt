-- What the promises about local and ask speak of: the words that are of no slot; an object in use, and whether a root or a handle leads to it.
use Rattle.std.specs.Prelude.{◌<◌, ◌≢◌}
use Rattle.kinds.specs.declared.Name.{Name}
use Rattle.model.specs.Image.{Image, Key, head, anchor, flag, state, payload, inlist, field, partitions, slots, get, place}
use Rattle.model.specs.Chains.{Leads}
use Rattle.model.specs.Sound.{Sound}

-- a word of no slot: P, S, the phase, the traces counted, the allowance, a root, a flag, a handle
abbrev pub OfNoSlot : Key → Type 0
OfNoSlot (head h) = Unit {0}
OfNoSlot (anchor a) = Unit {0}
OfNoSlot (flag p) = Unit {0}
OfNoSlot (state j) = ⊥
OfNoSlot (payload j) = ⊥
OfNoSlot (inlist j) = ⊥
OfNoSlot (field j k) = ⊥

-- each where the other
pub record Exactly (A B : Type 0) : Type 0 where
  pub only : A → B
  pub so : B → A

-- an object in use of a sound image, P and S being words 0 and 1
pub record Present (img : Image) (n : Name) : Type 0 where
  pub sound : Sound img
  pub partition : n.partition.0 < get img partitions
  pub slot : n.slot.0 < get img slots
  pub in_use : get img (state (place (get img slots) n)) ≢ 0

-- a root or a handle leads to it, or none does
pub record Led (img : Image) (n : Name) : Type 0 where
  pub present : Present img n
  pub leads : Leads (get img slots) img (place (get img slots) n)

pub record Unled (img : Image) (n : Name) : Type 0 where
  pub present : Present img n
  pub none : Leads (get img slots) img (place (get img slots) n) → ⊥
