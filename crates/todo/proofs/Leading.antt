-- The walk over the list comes to the bits that the model's passes come to: the theory of walks, for references among n places from lo on.
-- Assumes nothing.
use Prim.Native.Nat.{ℕ, ◌+◌, ◌-◌, ◌≤◌, ◌<◌}
use mathlib.Core.Path.{◌≡◌}
use mathlib.Core.Bool.{Bool, true, not}
use native.Mathlib.Omega.{arith}
use lib.Dec.{eqb, ltb}
use lib.ListN.{length, get_or}
use borrow.Author.Tests.{ltb-true, ltb-false, not-true}
use Rattle.loops.proofs.Tests.{both_true}
use Rattle.kinds.specs.Names.{most_places}
use Rattle.model.specs.Image.{Image, field, get}
use Rattle.model.specs.Walk.{visit, Todo}
use Rattle.model.specs.Acts.{refers, target}
use Rattle.model.specs.Questions.{Bits, has_bit, add_bit}
use Rattle.model.proofs.Spreading.{Spreads}
use Rattle.model.proofs.Bits.{Wide, bit_spreads, bit_commutes}
use Rattle.model.proofs.Walking.{Left, Walked, walked_first, walked_next, walked_end, walked_is}
use Rattle.todo.specs.Notes.{among, note_word, note_fields, spread_among, Noted}
use Rattle.todo.specs.More.{More}
use Rattle.todo.specs.declared.Notes.{Notes}
use Rattle.todo.proofs.Noting.{more_then}

module _ (S lo n : ℕ) (img : Image) where
  abbrev edge : Bits → ℕ → ℕ → Bool
  edge b = refers S (among lo n) img

  abbrev to : Bits → ℕ → ℕ → ℕ
  to b = target S img

  abbrev at : ℕ → ℕ
  at i = lo + i

  abbrev Ok : Bits → Type 0
  Ok = Wide most_places

  abbrev U : Bits → ℕ → Type 0
  U b t = t < most_places

  -- a reference among the places leads to one of them
  leads_in : (j k : ℕ) → refers S (among lo n) img j k ≡ true → (lo ≤ target S img j k) × (target S img j k < lo + n)
  leads_in j k e =
      let t = target S img j k in
      let w = both_true (not (ltb t lo)) (ltb t (lo + n)) (both_true (not (eqb (get img (field j k)) 0)) (among lo n t) e).1 in
      (ltb-false t lo (not-true _ w.0), ltb-true t (lo + n) w.1)

  pub leads : lo + n ≤ most_places → Spreads has_bit add_bit edge to at n 4 Ok U
  leads fit = bit_spreads most_places (refers S (among lo n) img) (target S img) at n 4 (λ j k l h e. omega (arith, (leads_in (lo + j) k e).1))

-- the loop: of the list's places the first `from` are visited (`fit` is kept because the type of `walked` speaks of it)
pub record Spreading (S : ℕ) (img : Image) (a b : Notes) (from : ℕ) : Type 0 where
  pub fit : a.lo + a.n ≤ most_places
  pub todo : Todo has_bit (λ i. a.lo + i) a.n b.marks b.list b.end
  pub walked : Walked (leads S a.lo a.n img fit) a.marks b.marks (Left b.list b.end from)

module _ {S : ℕ} {img : Image} {a : Notes} where
  pub spreading_first : Noted a.lo a.n a.marks a.list a.end → Spreading S img a a 0
  unfolding Wide
  spreading_first t =
      record { fit = t.fit; todo = t.todo; walked = walked_first (leads S a.lo a.n img t.fit) a.marks a.list a.end t.wide t.todo }

  module _ {b : Notes} {from : ℕ} (s : Spreading S img a b from) where
    module _ (h : from < b.end) (j : ℕ) (e : j ≡ get_or b.list from 0) where
      -- the next place of the list
      pub next_in : j < a.lo + a.n
      next_in = let w = s.todo.held from h in omega (arith, w.1, w.2)

      pub spreading_next : (c : Notes) → More a b → More b c → c.marks ≡ note_fields S b.lo b.n img j b.marks → Noted c.lo c.n c.marks c.list c.end → Spreading S img a c (from + 1)
      unfolding visit note_fields note_word
      spreading_next c m g f t =
          let more : More a c = more_then m g in
          let todo : Todo has_bit (λ i. a.lo + i) a.n c.marks c.list c.end = rw (← more.lo_same, ← more.n_same) t.todo in
          let fields : c.marks ≡ note_fields S a.lo a.n img j b.marks = rw (← m.lo_same, ← m.n_same) f in
          record { fit = s.fit; todo = todo; walked = walked_next (leads S a.lo a.n img s.fit) s.walked s.todo todo g.longer h j e fields }

    pub spreading_done : length a.marks ≡ most_places → b.end ≤ from → b.marks ≡ spread_among S a.lo a.n img a.marks
    unfolding Wide spread_among
    spreading_done w le =
        let L = leads S a.lo a.n img s.fit in
        walked_is L (λ i k l h q. omega arith) (λ c j k ok l h e. let r = leads_in S a.lo a.n img (a.lo + j) k e in (target S img (a.lo + j) k - a.lo, omega (arith, r), omega (arith, r)))
        (bit_commutes most_places) a.marks b.marks w (walked_end L b.list b.end from le s.walked)
