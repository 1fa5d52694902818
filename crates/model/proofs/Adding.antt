-- The order of additions does not matter: two things that come from one by additions, and have the same places, are the same.
-- Assumes nothing.
use Prim.Native.Nat.{ℕ}
use mathlib.Core.Path.{◌≡◌, refl, sym, ap, ◌∙◌, subst}
use mathlib.Core.Bool.{Bool, true, false}
use mathlib.Core.Logic.{◌≢◌}
use native.Mathlib.Decide.{ℕ_discrete}
use Rattle.loops.proofs.Tests.{clash, is_false}
use Rattle.model.proofs.Spreading.{Spreads, has_more}

-- additions can change places
pub record Commutes {X : Type 0} (add : X → ℕ → X) (Ok : X → Type 0) (U : X → ℕ → Type 0) : Type 0 where
  pub swap : (x : X) (s t : ℕ) → Ok x → U x s → U x t → s ≢ t → add (add x s) t ≡ add (add x t) s
  pub may_on : (x : X) (s t : ℕ) → Ok x → U x s → U x t → U (add x s) t
  pub may_back : (x : X) (s t : ℕ) → Ok x → U x s → U (add x s) t → U x t

module _ {X : Type 0} {has : X → ℕ → Bool} {add : X → ℕ → X} {edge : X → ℕ → ℕ → Bool} {target : X → ℕ → ℕ → ℕ} {at : ℕ → ℕ} {n K : ℕ}
    {Ok : X → Type 0} {U : X → ℕ → Type 0} (L : Spreads has add edge target at n K Ok U) where
  pub data Added (x : X) : X → Type 0 where
    as_is : Added x x
    one_more_lem : {y : X} (t : ℕ) → Ok y → U y t → has y t ≡ false → Added x y → Added x (add y t)

  pub added_on : (x y : X) (t : ℕ) → Ok y → U y t → Added x y → Added x (add y t)
  added_on x y t ok u a = go (has y t) refl
    where
      go : (b : Bool) → has y t ≡ b → Added x (add y t)
      go true e = rw (L.add_had y t e) a
      go false e = one_more_lem t ok u e a

  added_more : (x y : X) → Added x y → (i : ℕ) → has x i ≡ true → has y i ≡ true
  added_more x _ as_is i h = h
  added_more x _ (one_more_lem {y = y} t ok u e a) i h = has_more has add edge target at n K Ok U L y t i ok u (added_more x y a i h)

  module _ (C : Commutes add Ok U) where
    -- an addition can be taken for the last one
    record Last (x z : X) (t : ℕ) : Type 0 where
      before : X
      added : Added x before
      ok : Ok before
      may : U before t
      new : has before t ≡ false
      same : z ≡ add before t

    last : (x z : X) (t : ℕ) → Added x z → has x t ≡ false → has z t ≡ true → Last x z t
    last x _ t as_is f h = absurd (clash h f)
    last x _ t (one_more_lem {y = y} s ok u e a) f h = go (ℕ_discrete s t) (λ hy. last x y t a f hy)
      where
        go : Dec (s ≡ t) → (has y t ≡ true → Last x y t) → Last x (add y s) t
        go (yes q) r = record { before = y; added = a; ok = ok; may = subst (U y) q u; new = subst (λ (v : ℕ). has y v ≡ false) q e; same = ap (add y) q }
        go (no q) r =
            let p = r (sym (L.has_other y s t ok u q) ∙ h) in
            let w = p.before in
            let us : U w s = C.may_back w t s p.ok p.may (subst (λ (v : X). U v s) p.same u) in
            let ns : has w s ≡ false = sym (L.has_other w t s p.ok p.may (λ d. q (sym d))) ∙ subst (λ (v : X). has v s ≡ false) p.same e in
            record {
              before = add w s;
              added = one_more_lem s p.ok us ns p.added;
              ok = L.ok_add w s p.ok us;
              may = C.may_on w s t p.ok us p.may;
              new = L.has_other w s t p.ok us q ∙ p.new;
              same = ap (λ (v : X). add v s) p.same ∙ C.swap w t s p.ok p.may us (λ d. q (sym d));
            }

    pub added_same : (x y z : X) → Added x y → Added x z → ((i : ℕ) → has y i ≡ has z i) → y ≡ z
    added_same x _ _ as_is as_is h = refl
    added_same x _ _ as_is (one_more_lem {y = z} t ok u e b) h = absurd (clash (added_more x z b t (h t ∙ L.has_same z t ok u)) e)
    added_same x _ z (one_more_lem {y = y} t ok u e a) b h =
        let f : has x t ≡ false = is_false _ (λ q. clash (added_more x y a t q) e) in
        let p = last x z t b f (sym (h t) ∙ L.has_same y t ok u) in
        let d : y ≡ p.before = added_same x y p.before a p.added (λ i. go p i (ℕ_discrete t i)) in
        ap (λ (v : X). add v t) d ∙ sym p.same
      where
        go : (p : Last x z t) (i : ℕ) → Dec (t ≡ i) → has y i ≡ has p.before i
        go p i (yes q) = subst (λ (v : ℕ). has y v ≡ has p.before v) q (e ∙ sym p.new)
        go p i (no q) =
            sym (L.has_other y t i ok u q) ∙ h i ∙ ap (λ (v : X). has v i) p.same ∙ L.has_other p.before t i p.ok p.may q
