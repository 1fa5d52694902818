-- The list of a walk, as the code keeps it: a word's target becomes marked, and an object of the partition that was not comes to the list's end.
-- Assumes nothing.
use Prim.Native.Nat.{ℕ, ◌+◌, ◌*◌, ◌<◌}
use mathlib.Core.Path.{◌≡◌, sym, ap, ◌∙◌}
use mathlib.Core.Bool.{true, false}
use mathlib.Core.Logic.{◌≢◌}
use native.Mathlib.Omega.{arith}
use lib.Dec.{eqb}
use lib.ListN.{set}
use borrow.Author.Tests.{ne_eqb, eq-eqb}
use Rattle.kinds.specs.Names.{most_slots}
use Rattle.model.specs.Image.{Image, state, get, place_of, part_of}
use Rattle.model.specs.Acts.{marked, mark, mark_word}
use Rattle.model.proofs.Places.{part_of_lem, slot_of}
use Rattle.model.proofs.Walking.{todo_far, todo_room, todo_more}
use Rattle.model.proofs.Walking.{longer_none}
use Rattle.image.specs.Within.{Within}
use Rattle.image.proofs.Within.{has_word}
use Rattle.collector.specs.declared.found.Found.{Found}
use Rattle.collector.specs.Lists.{Listed}
use Rattle.collector.proofs.Marking.{mark_not, mark_past, mark_one}

-- a word that names nothing
pub word_nothing : (S : ℕ) (x : Image) (w : ℕ) → w ≡ 0 → x ≡ mark_word S x w
unfolding mark_word
word_nothing S x w e = rw e

-- a word that names the object at v
module _ (S : ℕ) (x : Image) (w v : ℕ) (some : w ≢ 0) (e : v ≡ place_of S w) where
  pub word_marks : mark_word S x w ≡ mark S x v
  unfolding mark_word
  word_marks = rw (ne_eqb w 0 some, ← e)

  pub word_stays : get x (state v) ≢ 1 → x ≡ mark_word S x w
  word_stays ne = sym (word_marks ∙ mark_not S x v ne)

-- of an image with a list, the object at v in partition q, which was unmarked, has been marked, which left y
pub record Fresh (P S p : ℕ) (x y : Image) (v q : ℕ) (list : Found) : Type 0 where
  pub within : Within P S x
  pub place : v < P * S
  pub one : get x (state v) ≡ 1
  pub marks : y ≡ mark S x v
  pub part : q ≡ part_of S v
  pub listed : Listed S p x list

-- by a word that names it
pub fresh : {P S p : ℕ} {x y : Image} {w v u q : ℕ} {list : Found} → Within P S x → (w ≢ 0 → place_of S w < P * S) → w ≢ 0 → v ≡ place_of S w → u ≡ get x (state v) → u ≡ 1
    → y ≡ mark_word S x w → q ≡ part_of S (place_of S w) → Listed S p x list → Fresh P S p x y v q list
fresh {S = S} h leads some at read one marks part listed =
    record {
      within = h;
      place = rw at (leads some);
      one = sym read ∙ one;
      marks = marks ∙ word_marks _ _ _ _ some at;
      part = part ∙ ap (part_of S) (sym at);
      listed = listed;
    }

module _ {P S p : ℕ} {x y : Image} {v q : ℕ} {list : Found} (h : Fresh P S p x y v q list) where
  others : (i : ℕ) → v ≢ i → marked y i ≡ marked x i
  others i ne = ap (λ (z : Image). marked z i) h.marks ∙ ap (λ (n : ℕ). eqb n 2) (mark_past h.within h.place i ne)

  pub noted_far : q ≢ p → Listed S p y list
  noted_far far = record { todo = todo_far h.listed.todo y v others (λ j b r. far (h.part ∙ rw r (part_of_lem P S h.within.limits.some_slot p j b))) }

  module _ (own : q ≡ p) where
    slot : (s : ℕ) × (s < S) × (p * S + s ≡ v)
    slot = slot_of P S h.within.limits.some_slot v p (sym h.part ∙ own)

    distinct : (i j : ℕ) → i < S → j < S → p * S + i ≡ p * S + j → i ≡ j
    distinct i j a b r = omega arith

    new : marked x v ≡ false
    new = rw h.one

    now : marked y v ≡ true
    now = ap (λ (z : Image). marked z v) h.marks ∙ eq-eqb _ _ (mark_one h.within h.place h.one)

    pub noted_room : list.number < most_slots
    noted_room = omega (arith, h.within.limits.slots_most, todo_room h.listed.todo y v others distinct slot.0 slot.1 slot.2 new now)

    pub noted_here : (list' : Found) → list'.places ≡ set list.places list.number v → list'.number ≡ list.number + 1 → Listed S p y list'
    noted_here list' e n = record { todo = rw (e, n) (todo_more h.listed.todo y v others distinct slot.0 slot.1 slot.2 new now) }

-- what the code of a note is proved by, where nothing is listed
pub ruleset notes = (word_nothing, word_stays, longer_none, has_word)
