-- Laws of noting: a place is noted in what room there is, a word if it names one of the places, roots and fields one by one.
-- Assumes nothing.
use Prim.Native.Nat.{ℕ, ◌+◌, ◌-◌, ◌≤◌, ◌<◌}
use mathlib.Core.Path.{◌≡◌, refl, sym, ◌∙◌}
use mathlib.Core.Bool.{true, false, not}
use mathlib.Core.Logic.{◌≢◌, ∥∥₁_elim, ∥∥₁_map}
use mathlib.Core.List.{List}
use native.Mathlib.Omega.{arith}
use Rattle.std.specs.Coded.{le_prop}
use lib.Dec.{eqb}
use lib.ListN.{length, get_or, set, replicate, length-set, length-replicate}
use borrow.Author.Tests.{lt-ltb, le-ltb, ltb-true, ltb-false, eq-eqb, ne_eqb, not-true}
use Rattle.loops.specs.Loop.{each}
use Rattle.loops.proofs.Tests.{is_false, both_true, both_false}
use Rattle.loops.proofs.Turns.{each_none, each_more, each_done}
use Rattle.kinds.specs.Names.{most_places}
use Rattle.model.specs.Image.{Image, anchor, field, anchors, get, place_of}
use Rattle.model.specs.Walk.{Todo, Longer}
use Rattle.model.specs.Questions.{Bits, has_bit, add_bit}
use Rattle.model.proofs.Bits.{Wide, none_has, bit_same, bit_other, bit_had}
use Rattle.model.proofs.Walking.{longer_none, longer_one, longer_then, todo_none, todo_most, todo_more}
use Rattle.todo.specs.Notes.{among, note_word, note_anchors, note_fields, Noted}
use Rattle.todo.specs.More.{More}
use Rattle.todo.specs.declared.Notes.{Notes}

-- at first nothing is noted
pub noted_none : {lo n : ℕ} (marks : Bits) (list : List ℕ) → marks ≡ replicate most_places 0 → list ≡ replicate most_places 0 → lo + n ≤ most_places → Noted lo n marks list 0
noted_none {lo} {n} marks list e q fit =
    let long : length list ≡ most_places = rw q (length-replicate {A = ℕ} most_places 0) in
    record {
      wide = rw e (length-replicate {A = ℕ} most_places 0);
      long = long;
      fit = fit;
      todo = todo_none has_bit (λ i. lo + i) n marks list (omega arith) (λ j l. rw e (is_false _ (none_has most_places (lo + j))));
    }

-- what a struct's ghost field gives where only a fact is asked
module _ {lo n : ℕ} {marks : Bits} {list : List ℕ} {m : ℕ} (t : ∥ Noted lo n marks list m ∥₁) where
  pub noted_fit : lo + n ≤ most_places
  noted_fit = ∥∥₁_elim t le_prop (λ u. u.fit)

  pub noted_most : m ≤ most_places
  noted_most = ∥∥₁_elim t le_prop (λ u. omega (arith, u.fit, todo_most u.todo))

pub more_none : (a : Notes) → More a a
more_none a = record { lo_same = refl; n_same = refl; longer = longer_none a.list a.end }

pub more_then : {a b c : Notes} → More a b → More b c → More a c
more_then p q = record { lo_same = q.lo_same ∙ p.lo_same; n_same = q.n_same ∙ p.n_same; longer = longer_then p.longer q.longer }

-- a place of them is entered: nothing changes where it is marked,
pub enter_old : (marks : Bits) (j : ℕ) → get_or marks j 0 ≡ 1 → marks ≡ add_bit marks j
unfolding has_bit
enter_old marks j e = sym (bit_had most_places marks j (eq-eqb _ _ e))

-- else there is room, and it is at the list's end
module _ {lo n : ℕ} {marks : Bits} {list : List ℕ} {m : ℕ} (t : Noted lo n marks list m) (j : ℕ) (within : (lo ≤ j) × (j < lo + n)) (new : get_or marks j 0 ≢ 1) where
  unmarked : has_bit marks j ≡ false
  unfolding has_bit
  unmarked = ne_eqb _ _ new

  marked : has_bit (add_bit marks j) j ≡ true
  unfolding Wide
  marked = bit_same most_places marks j t.wide (omega (arith, t.fit))

  listed : Todo has_bit (λ i. lo + i) n (add_bit marks j) (set list m j) (m + 1)
  listed = todo_more t.todo (add_bit marks j) j (λ i ne. bit_other most_places marks j i ne) (λ i k l h q. omega arith) (j - lo) (omega arith) (omega arith) unmarked marked

  room : m < most_places
  room = omega (arith, t.fit, todo_most listed)

  entered : Noted lo n (set marks j 1) (set list m j) (m + 1)
  unfolding add_bit
  entered = record { wide = length-set marks j 1 ∙ t.wide; long = length-set list m j ∙ t.long; fit = t.fit; todo = listed }

module _ {lo n : ℕ} {marks : Bits} {list : List ℕ} {m : ℕ} (t : ∥ Noted lo n marks list m ∥₁) (j : ℕ) (within : (lo ≤ j) × (j < lo + n)) (new : get_or marks j 0 ≢ 1) where
  pub enter_room : m < most_places
  enter_room = ∥∥₁_elim t le_prop (λ u. room u j within new)

  pub enter_noted : ∥ Noted lo n (set marks j 1) (set list m j) (m + 1) ∥₁
  enter_noted = ∥∥₁_map t (λ u. entered u j within new)

  pub enter_longer : Longer list m (set list m j) (m + 1)
  enter_longer = longer_one list m j (∥∥₁_elim t le_prop (λ u. omega (arith, room u j within new, u.long)))

-- a word is noted: it names nothing, a place out of range, or one of the places
module _ (S lo n w : ℕ) (b : Bits) where
  pub note_nothing : w ≡ 0 → b ≡ note_word S lo n w b
  unfolding note_word
  note_nothing e = rw (eq-eqb w 0 e)

  module _ (j : ℕ) (e : j ≡ place_of S w) where
    pub word_out : (lo ≤ j → j < lo + n → ⊥) → b ≡ note_word S lo n w b
    unfolding note_word
    word_out h = rw (← e, is_false (among lo n j) (λ k. let t = both_true _ _ k in h (ltb-false _ _ (not-true _ t.0)) (ltb-true _ _ t.1)), both_false (not (eqb w 0)))

    pub word_in : w ≢ 0 → lo ≤ j → j < lo + n → add_bit b j ≡ note_word S lo n w b
    unfolding note_word
    word_in ne h k = rw (← e, ne_eqb w 0 ne, le-ltb j lo h, lt-ltb j (lo + n) k)

-- the roots, one by one
module _ (S lo n : ℕ) (img : Image) (b : Bits) where
  -- after the first k of them
  abbrev pub anchors_noted : ℕ → Bits
  anchors_noted k = each k (λ c r. note_word S lo n (get img (anchor r)) c) b

  pub anchors_none : b ≡ anchors_noted 0
  anchors_none = each_none _ b

  pub anchors_more : (k w : ℕ) {c d : Bits} → w ≡ get img (anchor k) → c ≡ anchors_noted k → d ≡ note_word S lo n w c → d ≡ anchors_noted (k + 1)
  anchors_more k w {c} q e h = h ∙ rw q (each_more _ b k c e)

  pub anchors_done : (k : ℕ) {c : Bits} → k ≤ anchors → anchors ≤ k → c ≡ anchors_noted k → c ≡ note_anchors S lo n img b
  unfolding note_anchors
  anchors_done k {c} h g e = each_done _ b anchors k c h g e

-- after more is noted, the places are the same
pub same_places : (S w : ℕ) {a b : Notes} → More a b → note_word S b.lo b.n w b.marks ≡ note_word S a.lo a.n w b.marks
same_places S w m = rw (m.lo_same, m.n_same)

-- the four fields, one by one
pub fields_all : (S : ℕ) (img : Image) (j : ℕ) {a b c d e : Notes} {v w x y : ℕ}
    → v ≡ get img (field j 0) → w ≡ get img (field j 1) → x ≡ get img (field j 2) → y ≡ get img (field j 3)
    → (b.marks ≡ note_word S a.lo a.n v a.marks) × More a b → (c.marks ≡ note_word S b.lo b.n w b.marks) × More b c
    → (d.marks ≡ note_word S c.lo c.n x c.marks) × More c d → (e.marks ≡ note_word S d.lo d.n y d.marks) × More d e
    → (e.marks ≡ note_fields S a.lo a.n img j a.marks) × More a e
unfolding note_fields each
fields_all S img j {a} {b} {c} {d} {e} {v} {w} {x} {y} q₀ q₁ q₂ q₃ h₀ h₁ h₂ h₃ =
    let m₂ : More a c = more_then h₀.1 h₁.1 in
    let m₃ : More a d = more_then m₂ h₂.1 in (
      rw (← q₀, ← q₁, ← q₂, ← q₃, ← h₀.0, ← same_places S w h₀.1, ← h₁.0, ← same_places S x m₂, ← h₂.0) (h₃.0 ∙ same_places S y m₃),
      more_then m₃ h₃.1,
    )
