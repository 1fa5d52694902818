-- A walk by a list comes to what a trace's passes come to: whichever way, what marks can be passed on to has been marked, in an order that
-- does not matter.
-- Assumes nothing.
use Prim.Native.Nat.{ℕ, ◌+◌, ◌*◌, ◌≤◌, ◌<◌}
use mathlib.Core.Path.{◌≡◌, refl, sym, ap, ◌∙◌}
use mathlib.Core.Bool.{Bool, true, false, not, cond}
use mathlib.Core.Logic.{inl}
use native.Mathlib.Omega.{arith}
use lib.Dec.{eqb}
use lib.ListN.{get_or}
use borrow.Author.Tests.{eqb-true, eqb-false, not-true}
use Rattle.loops.specs.Loop.{both, again}
use Rattle.loops.proofs.Walks.{each_same}
use Rattle.model.specs.Image.{Image, head, state, field, get, part_of, a_field}
use Rattle.model.specs.Spread.{follow, pass, spread}
use Rattle.model.specs.Walk.{visit}
use Rattle.model.specs.Acts.{marked, mark, mark_word, refers, target, own, foreign, inside, outside}
use Rattle.model.proofs.Places.{part_of_lem, slot_in, slot_of}
use Rattle.model.proofs.Tracing.{refers_is}
use Rattle.model.proofs.Spreading.{pass_keeps, spread_keeps, pass_adds, closed}
use Rattle.model.proofs.Adding.{Added, as_is, one_more_lem}
use Rattle.model.proofs.Walking.{Come, Walked, Done, Left, come_self, come_add, walked_first, walked_next, walked_end, walked_same}
use Rattle.image.specs.Within.{Within}
use Rattle.image.proofs.Within.{within_mark}
use Rattle.collector.specs.declared.found.Found.{Found}
use Rattle.collector.specs.Lists.{Listed, Grown, mark_fields}
use Rattle.collector.proofs.Marking.{markable, passes, Can, mark_none, mark_other, mark_past, commutes, passes_is, passes_so, spreads}

abbrev all : ℕ → Bool
all i = true

-- a visit marks what the fields name
visit_fields : (S : ℕ) (x : Image) (j : ℕ) → mark_fields S x j ≡ visit (mark S) (passes S all) (target S) 4 x j
unfolding mark_fields visit mark_word
visit_fields S x j =
    each_same _ _ 4 x (λ y k m. go y k (eqb (get y (field j k)) 0) (markable y (target S y j k)) refl)
  where
    go : (y : Image) (k : ℕ) (a b : Bool) → markable y (target S y j k) ≡ b
        → cond a y (mark S y (target S y j k)) ≡ cond (both (both (not a) true) b) (mark S y (target S y j k)) y
    go y k true b e = refl
    go y k false true e = refl
    go y k false false e = mark_none S y (target S y j k) e

-- a field that refers to what cannot be marked changes nothing: the model's passes go along the fields that pass marks on
module _ (S p : ℕ) (wanted : ℕ → Bool) where
  pass_same : (x : Image) → pass marked (mark S) (refers S wanted) (target S) (λ s. p * S + s) S 4 x ≡ pass marked (mark S) (passes S wanted) (target S) (λ s. p * S + s) S 4 x
  unfolding pass follow
  pass_same x =
      each_same _ _ S x
      (λ y j l.
      each_same _ _ 4 y
      (λ z k m. go z (p * S + j) k (marked z (p * S + j)) (refers S wanted z (p * S + j) k) (markable z (target S z (p * S + j) k)) refl))
    where
      go : (z : Image) (i k : ℕ) (a b c : Bool) → markable z (target S z i k) ≡ c
          → cond (both a b) (mark S z (target S z i k)) z ≡ cond (both a (both b c)) (mark S z (target S z i k)) z
      go z i k true true true e = refl
      go z i k true true false e = mark_none S z (target S z i k) e
      go z i k true false c e = refl
      go z i k false b c e = refl

  spread_same : (x : Image) → spread marked (mark S) (refers S wanted) (target S) (λ s. p * S + s) S 4 x ≡ spread marked (mark S) (passes S wanted) (target S) (λ s. p * S + s) S 4 x
  unfolding spread
  spread_same x = ap (λ (f : Image → Image). again S f x) (λ i y. pass_same y i)

module _ (P S p : ℕ) (inp : p < P) where
  abbrev Came : Image → Image → Type 0
  Came = Come (spreads P S p inp all)

  came_self : (x : Image) → Within P S x → Came x x
  came_self x h = come_self (spreads P S p inp all) x h

  -- the model's passes only mark what marks can be passed on to
  came_mark : (wanted : ℕ → Bool) (x y : Image) (j k : ℕ) → j < S → k < 4 → marked y (p * S + j) ≡ true → refers S wanted y (p * S + j) k ≡ true → Came x y
      → Came x (mark S y (target S y (p * S + j) k))
  came_mark wanted x y j k l m a e c = go (markable y v) refl
    where
      v : ℕ
      v = target S y (p * S + j) k

      go : (b : Bool) → markable y v ≡ b → Came x (mark S y v)
      go true q =
          come_add (spreads P S p inp all) x y j k l m a
          (passes_so S all y (p * S + j) k (refers_is S wanted y (p * S + j) k e).0 refl q) c
      go false q = rw (mark_none S y v q) c

  came_inside : (x : Image) → Within P S x → Came x (inside S p x)
  unfolding inside
  came_inside x h =
      spread_keeps marked (mark S) (refers S (own S p)) (target S) (λ s. p * S + s) S 4 (Came x) (λ y j k l m a e c. came_mark (own S p) x y j k l m a e c) x (came_self x h)

  came_outside : (x y : Image) → Came x y → Came x (outside S p y)
  unfolding outside
  came_outside x y c =
      pass_keeps marked (mark S) (refers S (foreign S p)) (target S) (λ s. p * S + s) S 4 (Came x) (λ y j k l m a e c. came_mark (foreign S p) x y j k l m a e c) y c

  -- within p none is left,
  own_place : (y : Image) (j k : ℕ) → Within P S y → j < S → k < 4 → passes S (own S p) y (p * S + j) k ≡ true → (s : ℕ) × (s < S) × (p * S + s ≡ target S y (p * S + j) k)
  own_place y j k h l m e = slot_of P S h.limits.some_slot (target S y (p * S + j) k) p (eqb-true _ _ (passes_is S (own S p) y (p * S + j) k e).1)

  inside_closed : (x : Image) → Within P S x → (j k : ℕ) → j < S → k < 4 → marked (inside S p x) (p * S + j) ≡ true → passes S (own S p) x (p * S + j) k ≡ true
      → marked (inside S p x) (target S x (p * S + j) k) ≡ true
  unfolding inside
  inside_closed x h j k l m a e =
      rw (spread_same S p (own S p) x)
      (closed marked (mark S) (passes S (own S p)) (target S) (λ s. p * S + s) S 4 (Within P S) (Can P S) (spreads P S p inp (own S p)) (λ i j l m q. omega arith) own_place x j k h l m
      (rw (spread_same S p (own S p) x) at a) e)

  -- then outside none, and p's own objects stay as they are
  outside_adds : (x : Image) → Within P S x → (j k : ℕ) → j < S → k < 4 → marked x (p * S + j) ≡ true → passes S (foreign S p) x (p * S + j) k ≡ true
      → marked (outside S p x) (target S x (p * S + j) k) ≡ true
  unfolding outside
  outside_adds x h j k l m a e =
      rw (pass_same S p (foreign S p) x)
      (pass_adds marked (mark S) (passes S (foreign S p)) (target S) (λ s. p * S + s) S 4 (Within P S) (Can P S) (spreads P S p inp (foreign S p)) x j k h l m a e)

  own_stays : (x : Image) → Within P S x → (i : ℕ) → part_of S i ≡ p → get (outside S p x) (state i) ≡ get x (state i)
  unfolding outside
  own_stays x h i o =
      (pass_keeps marked (mark S) (refers S (foreign S p)) (target S) (λ s. p * S + s) S 4 (λ z. Within P S z × (get z (state i) ≡ get x (state i)))
      (λ z j k l m a e q.
      let b = refers_is S (foreign S p) z (p * S + j) k e in
      let v : ℕ = target S z (p * S + j) k in
      let lv : v < P * S = q.0.refs (field (p * S + j) k) (a_field (slot_in P S h.limits.some_slot p j inp l) m) b.0 in
      (within_mark P S z q.0 v lv, mark_past q.0 lv i (λ d. eqb-false (part_of S v) p (not-true _ b.1) (rw d o)) ∙ q.1))
      x (h, refl)).1

  traced : (x : Image) → Within P S x → Done (spreads P S p inp all) x (outside S p (inside S p x))
  traced x h = record { come = came_outside x y c; followed = λ j k l m a e. inl (followed j k l m a e) }
    where
      y : Image
      y = inside S p x

      c : Came x y
      c = came_inside x h

      followed : (j k : ℕ) → j < S → k < 4 → marked (outside S p y) (p * S + j) ≡ true → passes S all x (p * S + j) k ≡ true → marked (outside S p y) (target S x (p * S + j) k) ≡ true
      followed j k l m a e = pick (own S p (target S x (p * S + j) k)) refl
        where
          here : marked y (p * S + j) ≡ true
          here = ap (λ (v : ℕ). eqb v 2) (sym (own_stays y c.grown.ok (p * S + j) (part_of_lem P S h.limits.some_slot p j l))) ∙ a

          q : target S y (p * S + j) k ≡ target S x (p * S + j) k
          q = c.grown.targets (p * S + j) k m

          pick : (b : Bool) → own S p (target S x (p * S + j) k) ≡ b → marked (outside S p y) (target S x (p * S + j) k) ≡ true
          pick true o =
              let b = passes_is S all x (p * S + j) k e in
              (came_outside y y (came_self y c.grown.ok)).grown.more _ (inside_closed x h j k l m here (passes_so S (own S p) x (p * S + j) k b.0 o b.2))
          pick false o =
              let b = passes_is S all y (p * S + j) k (c.grown.edges (p * S + j) k m ∙ e) in
              let f : foreign S p (target S y (p * S + j) k) ≡ true = rw (q, o) in
              rw q at (outside_adds y c.grown.ok j k l m here (passes_so S (foreign S p) y (p * S + j) k b.0 f b.2))

  -- a trace's marks leave the head as it is
  added_head : (x : Image) {y : Image} (a : ℕ) → a < 5 → Added (spreads P S p inp all) x y
      → get y (head a) ≡ get x (head a)
  added_head x a l as_is = refl
  added_head x a l (one_more_lem i ok u e c) = mark_other ok u.place (head a) l refl refl ∙ added_head x a l c

  pub marks_head : (x : Image) → Within P S x → (a : ℕ) → a < 5 → get (outside S p (inside S p x)) (head a) ≡ get x (head a)
  marks_head x h a l = added_head x a l (traced x h).come.added

-- the loop: from x it has come to y, and is to visit the objects of the list from number `at` on (`inp` is kept because the type of `walked` speaks of it)
pub record Walking (P S p : ℕ) (x y : Image) (list : Found) (at : ℕ) : Type 0 where
  pub begun : Within P S x
  pub inp : p < P
  pub listed : Listed S p y list
  pub walked : Walked (spreads P S p inp all) x y (Left list.places list.number at)

module _ {P S p : ℕ} {x : Image} where
  pub walking_first : {list : Found} → Within P S x → p < P → Listed S p x list → Walking P S p x x list 0
  walking_first {list} h inp d =
      record { begun = h; inp = inp; listed = d; walked = walked_first (spreads P S p inp all) x list.places list.number h d.todo }

  module _ {y : Image} {list : Found} {at : ℕ} (g : Walking P S p x y list at) where
    pub walking_within : Within P S y
    walking_within = g.walked.come.grown.ok

    -- the next object of the list is visited
    module _ {j : ℕ} (n : (at < list.number) × (j ≡ get_or list.places at 0)) where
      pub next_in : j < P * S
      next_in = let h = g.listed.todo.held at n.0 in rw (n.1, ← h.2) (slot_in P S g.begun.limits.some_slot p h.0 g.inp h.1)

      pub walking_next : {y' : Image} {list' : Found} → (y' ≡ mark_fields S y j) × Listed S p y' list' × Grown list list' → Walking P S p x y' list' (at + 1)
      walking_next v =
          record {
            begun = g.begun;
            inp = g.inp;
            listed = v.1;
            walked =
                walked_next (spreads P S p g.inp all) g.walked g.listed.todo v.1.todo v.2 n.0 j n.1
                (v.0 ∙ visit_fields S y j);
          }

    pub walking_end : list.number ≤ at → y ≡ outside S p (inside S p x)
    walking_end le =
        walked_same (spreads P S p g.inp all) (commutes P S)
        (walked_end (spreads P S p g.inp all) list.places list.number at le g.walked) (traced P S p g.inp x g.begun)
