-- How a row of checks is a list of the table: the first check that fails is the first row whose condition holds; and a list says one thing only.
-- Assumes nothing.
use Prim.Native.Nat.{ℕ}
use mathlib.Core.Path.{◌≡◌, refl, sym, ap, ◌∙◌}
use mathlib.Core.Bool.{Bool, true, false}
use mathlib.Core.List.{List, [], ◌∷◌, ◌++◌}
use mathlib.Core.Logic.{inl, inr, ⊎_elim}
use lib.ListN.{length}
use Rattle.kinds.specs.Answers.{refuse}
use Rattle.kinds.specs.declared.Refusal.{Refusal}
use Rattle.kinds.specs.Answers.{Verdict}
use Rattle.kinds.specs.Answers.{allowed}
use Rattle.model.specs.Image.{Image}
use Rattle.model.specs.Judge.{check, and_then}
use Rattle.catalogue.specs.Answers.{Said, accepted, refused_with}
use Rattle.catalogue.specs.Call.{Outcome, perform}
use Rattle.catalogue.proofs.Perform.{fully, fully_done, Performed, did, left, performed}
use Rattle.promises.specs.Rows.{Row, given, telling, Found, telled, First}

-- a test that fails exactly where a condition holds
pub record Tests (b : Bool) (C : Type 0) : Type 0 where
  pub fails : b ≡ false → C
  pub passes : b ≡ true → C → ⊥

pub found_none : Found [] allowed
unfolding Found
found_none = refl

-- one check
pub found_check : (b : Bool) (n e : ℕ) (u : Verdict) (C : Type 0) (rows : List Row) → Tests b C → Found rows u → Found (given n e C ∷ rows) (check b n e u)
unfolding Found check
found_check true n e u C rows t f = inr (t.passes refl, f)
found_check false n e u C rows t f = inl (t.fails refl, refl)

-- a check that tells: of its two ways, which is known
pub found_tell : (b : Bool) (n e : ℕ) (u : Verdict) (E : ℕ → Type 0) (rows : List Row) → (b ≡ false → E e) → (b ≡ true → (i : ℕ) → E i → ⊥) → Found rows u
    → Found (telling n E ∷ rows) (check b n e u)
unfolding Found check
found_tell true n e u E rows s t f = inr (t refl, f)
found_tell false n e u E rows s t f = inl (e, s refl, refl)

-- one list, then another, which is looked at only where the first passes
pub found_after : (rows more : List Row) (u w : Verdict) → Found rows u → (u ≡ allowed → Found more w) → Found (rows ++ more) (and_then u w)
unfolding Found and_then
found_after [] more u w f g = rw f (g f)
found_after (given n e C ∷ rows) more u w f g = ⊎_elim (λ x. inl (x.0, rw x.1)) (λ x. inr (x.0, found_after rows more u w x.1 g)) f
found_after (telling n E ∷ rows) more u w f g =
    ⊎_elim (λ x. inl (x.0, x.1, rw x.2)) (λ x. inr (x.0, found_after rows more u w x.1 g)) f

pub found_then : (rows more : List Row) (u w : Verdict) → Found rows u → Found more w → Found (rows ++ more) (and_then u w)
found_then rows more u w f g = found_after rows more u w f (λ e. g)

-- conditions on an extra answer that leave it no choice
abbrev pub Settled : List Row → Type 0
Settled [] = Unit {0}
Settled (given n e C ∷ rows) = Settled rows
Settled (telling n E ∷ rows) = ((p q : ℕ) → E p → E q → p ≡ q) × Settled rows

pub settled_then : (rows more : List Row) → Settled rows → Settled more → Settled (rows ++ more)
settled_then [] more d m = m
settled_then (given n e C ∷ rows) more d m = settled_then rows more d m
settled_then (telling n E ∷ rows) more d m = (d.0, settled_then rows more d.1 m)

-- A LIST SAYS ONE THING ONLY
pub found_one : (rows : List Row) → Settled rows → (u w : Verdict) → Found rows u → Found rows w → u ≡ w
unfolding Found
found_one [] d u w f g = f ∙ sym g
found_one (given n e C ∷ rows) d u w f g =
    ⊎_elim (λ x. ⊎_elim (λ y. x.1 ∙ sym y.1) (λ y. absurd (y.0 x.0)) g) (λ x. ⊎_elim (λ y. absurd (x.0 y.0)) (λ y. found_one rows d u w x.1 y.1) g) f
found_one (telling n E ∷ rows) d u w f g =
    ⊎_elim (λ x. ⊎_elim (λ y. x.2 ∙ ap (refuse n) (d.0 x.0 y.0 x.1 y.1) ∙ sym y.2) (λ y. absurd (y.0 x.0 x.1)) g)
    (λ x. ⊎_elim (λ y. absurd (x.0 y.0 y.1)) (λ y. found_one rows d.1 u w x.1 y.1) g) f

pub exactly : {A : Type 0} (z v : A) (rows : List Row) → Settled rows → (s t : Said A) → First z v rows s → First z v rows t → s ≡ t
exactly z v rows d s t f g = f.2 ∙ ap (telled z v) (found_one rows d f.0 g.0 f.1 g.1) ∙ sym g.2

-- what a logged call says, where its two forms of answer say this
pub said_perform : {A B : Type 0} (say : B → Said A) (z v : A) (done : ℕ → B) (refused : Refusal → B) (u : Verdict) (bytes : List ℕ) (next img : Image) (log : List ℕ) (at : ℕ)
    → say (done (length bytes)) ≡ accepted v → ((r : Refusal) → say (refused r) ≡ refused_with z r)
    → say (perform done refused u bytes next img log at).answer ≡ telled z v (fully u bytes log at)
said_perform {A} {B} say z v done refused u bytes next img log at d n = go (performed done refused u bytes next img log at)
  where
    go : {o : Outcome B} → Performed done refused u bytes next img log at o → say o.answer ≡ telled z v (fully u bytes log at)
    go (did a l) = d ∙ sym (ap (telled z v) (fully_done u bytes log at a l))
    go (left r e) = n r ∙ sym (ap (telled z v) e)
