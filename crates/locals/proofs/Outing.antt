-- One field of an outlist's pass, and what the list of names asks of the places that are marked.
-- Assumes nothing.
use Prim.Native.Nat.{ℕ, ◌+◌, ◌*◌, ◌/◌, ◌%◌, ◌≤◌, ◌<◌}
use mathlib.Core.Path.{◌≡◌, sym, ◌∙◌}
use mathlib.Core.Bool.{false}
use mathlib.Core.Logic.{◌≢◌}
use native.Mathlib.Omega.{arith}
use lib.ListN.{length, set, length-set}
use borrow.Author.Tests.{eq-eqb, ne_eqb}
use Rattle.loops.specs.Loop.{tally}
use Rattle.kinds.specs.Names.{most_places, most_names}
use Rattle.model.specs.Image.{Image, state, field, get, place_of, part_of, abroad, a_field}
use Rattle.model.specs.Questions.{Bits, has_bit, add_bit}
use Rattle.model.specs.Outlist.{goes_out, goes_to, out_one, out_bits, list_names, outlist}
use Rattle.model.proofs.Places.{part_of_lem}
use Rattle.model.proofs.Outlists.{out_tally}
use Rattle.image.specs.Within.{Within}
use Rattle.locals.specs.Slots.{SlotOf}
use Rattle.locals.specs.Outlist.{FieldOf, Gathers}
use Rattle.image.proofs.Within.{places}
use Rattle.locals.proofs.Owning.{slot_small}

-- a field that names nothing outside p: no bit changes
module _ {P S : ℕ} {x : Image} {p f : ℕ} {b : Bits} (h : FieldOf P S x p f b) where
  stays : goes_out S p x f ≡ false → (b ≡ out_one S p x b f) × (length b ≡ most_places)
  stays e = (rw e, h.wide)

  pub out_free : get x (state (p * S + f / 4)) ≡ 0 → (b ≡ out_one S p x b f) × (length b ≡ most_places)
  unfolding goes_out
  out_free e = stays (rw e)

  pub out_nothing : get x (state (p * S + f / 4)) ≢ 0 → get x (field (p * S + f / 4) (f % 4)) ≡ 0 → (b ≡ out_one S p x b f) × (length b ≡ most_places)
  unfolding goes_out abroad
  out_nothing some e = stays (rw (ne_eqb _ _ some, e))

-- the field of an object in use has the word w, which names place i of partition q
pub record Naming (P S : ℕ) (x : Image) (p f : ℕ) (b : Bits) (w i q : ℕ) : Type 0 where
  pub holder : FieldOf P S x p f b
  pub some : get x (state (p * S + f / 4)) ≢ 0
  pub read : w ≡ get x (field (p * S + f / 4) (f % 4))
  pub refers : w ≢ 0
  pub named : i ≡ place_of S w
  pub part : q ≡ part_of S (place_of S w)

module _ {P S : ℕ} {x : Image} {p f : ℕ} {b : Bits} {w i q : ℕ} (n : Naming P S x p f b w i q) where
  h : SlotOf P S x p (f / 4)
  h = n.holder.place

  mine : part_of S (p * S + f / 4) ≡ p
  mine = part_of_lem P S h.within.limits.some_slot p (f / 4) h.slot

  pub out_place : i < most_places
  out_place =
      let l : i < P * S = rw (n.named, n.read) (h.within.refs (field (p * S + f / 4) (f % 4)) (a_field (slot_small h) (omega arith)) (rw n.read at n.refers)) in
      omega (arith, places h.within)

  pub out_own : q ≡ p → (b ≡ out_one S p x b f) × (length b ≡ most_places)
  unfolding goes_out abroad
  out_own z = stays n.holder (rw (ne_eqb _ _ n.some, ← n.read, ne_eqb _ _ n.refers, mine, ← n.part, eq-eqb p q (sym z)))

  pub out_far : q ≢ p → (set b i 1 ≡ out_one S p x b f) × (length (set b i 1) ≡ most_places)
  unfolding goes_out goes_to abroad add_bit
  out_far ne = (rw (ne_eqb _ _ n.some, ← n.read, ne_eqb _ _ n.refers, mine, ← n.part, ← n.named, ne_eqb p q (λ z. ne (sym z))), length-set b i 1 ∙ n.holder.wide)

-- what the list of names asks of the marked places
pub gathers : {P S : ℕ} {x : Image} → Within P S x → (p : ℕ) (bits : Bits) → bits ≡ out_bits S p x → Gathers P S bits
gathers {P} {S} {x} w p bits e =
    let t = out_tally S p x in
    let few : tally most_places (has_bit (out_bits S p x)) ≤ most_names = omega (arith, t.1, w.limits.slots_most) in
    record { limits = w.limits; fit = places w; wide = rw e t.0; few = rw e few }

pub out_listed : (P S p : ℕ) (x : Image) (bits : Bits) → bits ≡ out_bits S p x → list_names (P * S) S bits ≡ outlist P S p x
unfolding outlist
out_listed P S p x bits e = rw e
