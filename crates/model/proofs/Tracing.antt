-- A trace: the rule for one trace, and that it keeps what holds throughout a phase.
-- Assumes nothing.
use Prim.Native.Nat.{ℕ, ◌+◌, ◌*◌, ◌<◌}
use mathlib.Core.Path.{◌≡◌, refl, sym, ◌∙◌, subst}
use mathlib.Core.Bool.{Bool, true, false, not}
use mathlib.Core.Logic.{◌≢◌}
use native.Mathlib.Omega.{arith}
use native.Mathlib.Decide.{ℕ_discrete}
use lib.Dec.{eqb}
use borrow.Author.Tests.{eqb-true, eqb-false, eq-eqb, ne_eqb, not-true}
use Rattle.loops.proofs.Tests.{both_true}
use Rattle.kinds.specs.Names.{most_partitions}
use Rattle.model.specs.Image.{Image, Key, flag, state, field, get, put, part_of, a_field}
use Rattle.model.specs.Spread.{pass, spread, Reach, step}
use Rattle.model.specs.Acts.{marked, mark, refers, target, own, foreign, inside, outside, trace_one}
use Rattle.model.specs.Chains.{Names}
use Rattle.model.specs.Sound.{Limits}
use Rattle.model.proofs.Keys.{Fits, same, get_put_apart}
use Rattle.model.proofs.Places.{parts, part_of_lem, slot_in, slot_of}
use Rattle.model.proofs.Spreading.{Spreads, reach_along, pass_keeps, spread_keeps, pass_adds, complete, least}
use Rattle.model.proofs.Moves.{Linked, up_linked, new_mark_state, new_mark_flag, up_new_mark, mark_keeps}
use Rattle.model.proofs.Phase.{Phase, phase_mark, phase_finish}

-- a field that refers to a wanted place
module _ (S : ℕ) (wanted : ℕ → Bool) (x : Image) (i k : ℕ) where
  pub refers_is : refers S wanted x i k ≡ true → (get x (field i k) ≢ 0) × (wanted (target S x i k) ≡ true)
  refers_is e =
      let b = both_true (not (eqb (get x (field i k)) 0)) (wanted (target S x i k)) e in (eqb-false _ _ (not-true _ b.0), b.1)

  pub refers_so : get x (field i k) ≢ 0 → wanted (target S x i k) ≡ true → refers S wanted x i k ≡ true
  refers_so ne e = rw (ne_eqb (get x (field i k)) 0 ne, e)

module _ (P S : ℕ) (limits : Limits P S) where
  -- an object in use
  pub Used : Image → ℕ → Type 0
  Used x t = (t < P * S) × (get x (state t) ≢ 0)

  pub mark_read : (x : Image) (t : ℕ) (μ : Key) → t < P * S → Fits μ → same (state t) μ ≡ false → same (flag (part_of S t)) μ ≡ false → get (mark S x t) μ ≡ get x μ
  mark_read x t μ l f a b =
      let w = parts P S limits.some_slot t l in
      mark_keeps P S limits (λ y. get y μ ≡ get x μ) x t
      (λ e. get_put_apart (put x (flag (part_of S t)) 0) (state t) 2 μ tt f a ∙ get_put_apart x (flag (part_of S t)) 0 μ (omega arith) f b)
      (λ ne. refl)

  pub mark_linked : (x : Image) (t : ℕ) → t < P * S → Linked P S x → Linked P S (mark S x t)
  mark_linked x t l w = mark_keeps P S limits (Linked P S) x t (λ e. up_linked P S limits x _ (up_new_mark P S limits x t l w.size) w) (λ ne. w)

  pub mark_marks : (x : Image) (t : ℕ) → t < P * S → Linked P S x → get x (state t) ≢ 0 → get (mark S x t) (state t) ≡ 2
  mark_marks x t l w u =
      mark_keeps P S limits (λ y. get y (state t) ≡ 2) x t (λ e. new_mark_state P S limits x t l w.size) (λ ne. let b = w.states t l in omega arith)

  pub mark_stays : (x : Image) (t i : ℕ) → t < P * S → Linked P S x → get x (state i) ≡ 2 → get (mark S x t) (state i) ≡ 2
  mark_stays x t i l w e = go (ℕ_discrete t i)
    where
      go : Dec (t ≡ i) → get (mark S x t) (state i) ≡ 2
      go (yes q) = subst (λ (v : ℕ). get (mark S x t) (state v) ≡ 2) q (mark_marks x t l w (λ z. let two : get x (state t) ≡ 2 = rw q e in omega arith))
      go (no q) = mark_read x t (state i) l tt (ne_eqb t i q) refl ∙ e

  -- a flag that is 0 stays so
  pub mark_flag : (x : Image) (t p : ℕ) → t < P * S → p < most_partitions → Linked P S x → get x (flag p) ≡ 0 → get (mark S x t) (flag p) ≡ 0
  mark_flag x t p l m w e = go (ℕ_discrete (part_of S t) p)
    where
      go : Dec (part_of S t ≡ p) → get (mark S x t) (flag p) ≡ 0
      go (yes q) = mark_keeps P S limits (λ y. get y (flag p) ≡ 0) x t (λ z. rw (← q) (new_mark_flag P S limits x t l w.size)) (λ ne. e)
      go (no q) = mark_read x t (flag p) l m refl (ne_eqb _ _ q) ∙ e

  -- z is x with more marks: every word that is no state and no flag stays, and so do the marks
  pub record MoreMarks (x z : Image) : Type 0 where
    pub linked : Linked P S z
    pub words : (μ : Key) → Fits μ → ((t : ℕ) → same (state t) μ ≡ false) → ((q : ℕ) → same (flag q) μ ≡ false) → get z μ ≡ get x μ
    pub stay : (i : ℕ) → get x (state i) ≡ 2 → get z (state i) ≡ 2

  pub more_none : (x : Image) → Linked P S x → MoreMarks x x
  more_none x w = record { linked = w; words = λ μ f a b. refl; stay = λ i e. e }

  pub more_mark : (x z : Image) (t : ℕ) → t < P * S → MoreMarks x z → MoreMarks x (mark S z t)
  more_mark x z t l g =
      record {
        linked = mark_linked z t l g.linked;
        words = λ μ f a b. mark_read z t μ l f (a t) (b (part_of S t)) ∙ g.words μ f a b;
        stay = λ i e. mark_stays z t i l g.linked (g.stay i e);
      }

  pub more_field : (x z : Image) → MoreMarks x z → (i k : ℕ) → k < 4 → get z (field i k) ≡ get x (field i k)
  more_field x z g i k l = g.words (field i k) l (λ t. refl) (λ q. refl)

  module _ (p : ℕ) (inp : p < P) where
    module _ (wanted : ℕ → Bool) where
      pub spreads : Spreads marked (mark S) (refers S wanted) (target S) (λ s. p * S + s) S 4 (Linked P S) Used
      unfolding Used
      spreads =
          record {
            ok_add = λ x t w u. mark_linked x t u.0 w;
            has_same = λ x t w u. eq-eqb _ _ (mark_marks x t u.0 w u.1);
            has_other = λ x t i w u ne. rw (mark_read x t (state i) u.0 tt (ne_eqb t i ne) refl);
            add_had = λ x t e. mark_keeps P S limits (λ y. y ≡ x) x t (λ q. let two : get x (state t) ≡ 2 = eqb-true _ _ e in absurd (omega arith)) (λ ne. refl);
            edge_add = λ x t i k w u l. rw (mark_read x t (field i k) u.0 l refl refl);
            target_add = λ x t i k w u l. rw (mark_read x t (field i k) u.0 l refl refl);
            inside = λ x j k w l m e.
                w.refs (field (p * S + j) k) (a_field (slot_in P S limits.some_slot p j inp l) m) (refers_is S wanted x (p * S + j) k e).0;
          }

      -- what the mark of a wanted target keeps, where a marked object of p refers to it
      module _ (Q : Image → Type 0) (linked : (z : Image) → Q z → Linked P S z)
          (h : (z : Image) (i k : ℕ) → i < P * S → k < 4 → part_of S i ≡ p → get z (state i) ≡ 2 → get z (field i k) ≢ 0 → wanted (target S z i k) ≡ true → target S z i k < P * S → Q z → Q (mark S z (target S z i k))) where
        once : (z : Image) (j k : ℕ) → j < S → k < 4 → marked z (p * S + j) ≡ true → refers S wanted z (p * S + j) k ≡ true → Q z → Q (mark S z (target S z (p * S + j) k))
        unfolding Used
        once z j k l m a e q =
            let r = refers_is S wanted z (p * S + j) k e in
            h z (p * S + j) k (slot_in P S limits.some_slot p j inp l) m (part_of_lem P S limits.some_slot p j l) (eqb-true _ _ a) r.0 r.1 (spreads.inside z j k (linked z q) l m e).0 q

        pub pass_marks : (x : Image) → Q x → Q (pass marked (mark S) (refers S wanted) (target S) (λ s. p * S + s) S 4 x)
        pass_marks x q = pass_keeps marked (mark S) (refers S wanted) (target S) (λ s. p * S + s) S 4 Q once x q

        pub spread_marks : (x : Image) → Q x → Q (spread marked (mark S) (refers S wanted) (target S) (λ s. p * S + s) S 4 x)
        spread_marks x q = spread_keeps marked (mark S) (refers S wanted) (target S) (λ s. p * S + s) S 4 Q once x q

    -- whatever the mark of a target keeps, where a marked object refers to it, a trace's marks keep
    pub trace_marks : (Q : Image → Type 0) → ((z : Image) → Q z → Linked P S z)
        → ((z : Image) (i k : ℕ) → i < P * S → k < 4 → get z (state i) ≡ 2 → get z (field i k) ≢ 0 → target S z i k < P * S → Q z → Q (mark S z (target S z i k)))
        → (x : Image) → Q x → Q (outside S p (inside S p x))
    unfolding inside outside
    trace_marks Q linked h x q =
        pass_marks (foreign S p) Q linked (λ z i k l m q a e c u r. h z i k l m a e u r) _
        (spread_marks (own S p) Q linked (λ z i k l m q a e c u r. h z i k l m a e u r) x q)

    pub more_inside : (x : Image) → Linked P S x → MoreMarks x (inside S p x)
    unfolding inside
    more_inside x w = spread_marks (own S p) (MoreMarks x) (λ z g. g.linked) (λ z i k l m q a e c u g. more_mark x z _ u g) x (more_none x w)

    -- Within p: exactly the least set is marked that has p's marked objects and what p's fields inside p lead to
    within : (y : Image) (j k : ℕ) → Linked P S y → j < S → k < 4 → refers S (own S p) y (p * S + j) k ≡ true → (s : ℕ) × (s < S) × (p * S + s ≡ target S y (p * S + j) k)
    within y j k w l m e = slot_of P S limits.some_slot _ p (eqb-true _ _ (refers_is S (own S p) y (p * S + j) k e).1)

    -- a field of an object of p names an object of p
    unfoldable pub Own : Image → ℕ → ℕ → Type 0
    Own x i t = (k : ℕ) × (k < 4) × (part_of S i ≡ p) × (part_of S t ≡ p) × Names S x (field i k) t

    pub inside_least : (x : Image) → Linked P S x → (i : ℕ) → marked (inside S p x) i ≡ true → Reach (λ v. marked x v ≡ true) (Own x) i
    unfolding inside Own
    inside_least x w i e =
        reach_along
        (λ v t d.
        let r = refers_is S (own S p) x (p * S + d.0) d.1 d.5 in
        let near : part_of S (target S x (p * S + d.0) d.1) ≡ p = eqb-true _ _ r.1 in
        rw (← d.4, ← d.6) (d.1, d.3, part_of_lem P S limits.some_slot p d.0 d.2, near, record { some = r.0; target = refl }))
        (least marked (mark S) _ (target S) (λ s. p * S + s) S 4 (Linked P S) Used (spreads (own S p)) x w i e)

    pub inside_all : (x : Image) → Linked P S x → (i : ℕ) → Reach (λ v. marked x v ≡ true) (Own x) i → marked (inside S p x) i ≡ true
    unfolding inside Own
    inside_all x w i r =
        complete marked (mark S) _ (target S) (λ s. p * S + s) S 4 (Linked P S) Used (spreads (own S p)) (λ i j l m q. omega arith) within x i w
        (reach_along
        (λ v t d.
        let s = slot_of P S limits.some_slot v p d.2 in
        let near : own S p (target S x v d.0) ≡ true = rw d.4.target (eq-eqb (part_of S t) p d.3) in
        (s.0, d.0, s.1, d.1, s.2, rw s.2 (refers_so S (own S p) x v d.0 d.4.some near), rw s.2 d.4.target))
        r)

    inside_closed : (x : Image) → Linked P S x → (i k : ℕ) → k < 4 → part_of S i ≡ p → marked (inside S p x) i ≡ true → get x (field i k) ≢ 0 → part_of S (target S x i k) ≡ p
        → marked (inside S p x) (target S x i k) ≡ true
    unfolding Own
    inside_closed x w i k m q a ne near = inside_all x w _ (step (inside_least x w i a) (k, m, q, near, record { some = ne; target = refl }))

    -- Then exactly those objects of other partitions are marked that were, or that a marked object of p refers to
    pub record Foreign (x : Image) (t : ℕ) : Type 0 where
      pub holder : ℕ
      pub k : ℕ
      pub small : k < 4
      pub near : part_of S holder ≡ p
      pub two : get x (state holder) ≡ 2
      pub names : Names S x (field holder k) t
      pub far : part_of S t ≢ p

    record Outside (x z : Image) : Type 0 where
      more : MoreMarks x z
      same : (i : ℕ) → part_of S i ≡ p → get z (state i) ≡ get x (state i)

    outside_is : (x : Image) → Linked P S x → Outside x (outside S p x)
    unfolding outside
    outside_is x w =
        pass_marks (foreign S p) (Outside x) (λ z g. g.more.linked)
        (λ z i k l m q a e c u g.
        let t = target S z i k in
        let far : part_of S t ≢ p = eqb-false (part_of S t) p (not-true _ c) in
        record { more = more_mark x z t u g.more; same = λ j r. mark_read z t (state j) u tt (ne_eqb t j (λ d. far (rw d r))) refl ∙ g.same j r })
        x (record { more = more_none x w; same = λ j r. refl })

    pub more_outside : (x : Image) → Linked P S x → MoreMarks x (outside S p x)
    more_outside x w = (outside_is x w).more

    pub outside_all : (x : Image) → Linked P S x → (t : ℕ) → Foreign x t → get (outside S p x) (state t) ≡ 2
    unfolding outside
    outside_all x w t f =
        let i = f.holder in
        let s = slot_of P S limits.some_slot i p f.near in
        let here : marked x (p * S + s.0) ≡ true = rw (s.2, f.two) in
        let far : foreign S p (target S x i f.k) ≡ true = rw (f.names.target, ne_eqb (part_of S t) p f.far) in
        let edge : refers S (foreign S p) x (p * S + s.0) f.k ≡ true = rw s.2 (refers_so S (foreign S p) x i f.k f.names.some far) in
        eqb-true _ _
        (rw (s.2, f.names.target) at
        (pass_adds marked (mark S) (refers S (foreign S p)) (target S) (λ s. p * S + s) S 4 (Linked P S) Used (spreads (foreign S p)) x s.0 f.k w s.1 f.small here edge))

    -- after both, what a marked object of p refers to is marked
    done : (x : Image) → Linked P S x → (i k : ℕ) → k < 4 → part_of S i ≡ p → get (outside S p (inside S p x)) (state i) ≡ 2 → get (outside S p (inside S p x)) (field i k) ≢ 0
        → get (outside S p (inside S p x)) (state (target S (outside S p (inside S p x)) i k)) ≡ 2
    done x w i k m q a ne =
        let g = more_inside x w in
        let o = more_outside (inside S p x) g.linked in
        let e : get (outside S p (inside S p x)) (field i k) ≡ get (inside S p x) (field i k) = more_field _ _ o i k m in
        rw e (go g o (sym ((outside_is _ g.linked).same i q) ∙ a) (λ n. ne (e ∙ n)) (ℕ_discrete (part_of S (target S (inside S p x) i k)) p))
      where
        go : MoreMarks x (inside S p x) → MoreMarks (inside S p x) (outside S p (inside S p x)) → get (inside S p x) (state i) ≡ 2 → get (inside S p x) (field i k) ≢ 0
            → Dec (part_of S (target S (inside S p x) i k) ≡ p) → get (outside S p (inside S p x)) (state (target S (inside S p x) i k)) ≡ 2
        go g o here some (yes near) =
            let f = more_field _ _ g i k m in
            o.stay _ (eqb-true _ _ (rw f (inside_closed x w i k m q (eq-eqb _ _ here) (λ n. some (f ∙ n)) (rw f at near))))
        go g o here some (no far) =
            outside_all (inside S p x) g.linked _ (record { holder = i; k = k; small = m; near = q; two = here; names = record { some = some; target = refl }; far = far })

    -- a phase goes on: p's flag is 0 until the end
    Going : Image → Type 0
    Going x = Phase P S x × (get x (flag p) ≡ 0)

    going : (x : Image) → Phase P S x → get x (flag p) ≡ 0 → Going (outside S p (inside S p x))
    unfolding Going
    going x ph f =
        trace_marks Going (λ z g. g.0.linked)
        (λ z i k l m a e u g. (phase_mark P S limits z _ u g.0, mark_flag z _ p u (omega arith) g.0.linked g.1)) x (ph, f)

    pub phase_trace : (x : Image) → Phase P S x → get x (flag p) ≡ 0 → Phase P S (trace_one S p x)
    unfolding trace_one Going
    phase_trace x ph f =
        let g = going x ph f in
        phase_finish P S limits _ p inp g.1 (λ i k l m q a ne. done x ph.linked i k m q a ne) g.0
