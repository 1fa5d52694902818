-- What holds throughout a phase, and that each small move keeps it.
-- Assumes nothing.
use Prim.Native.Nat.{ℕ, ◌+◌, ◌*◌, ◌≤◌, ◌<◌}
use mathlib.Core.Path.{◌≡◌, refl, sym, ap, ◌∙◌}
use mathlib.Core.Bool.{true, false}
use mathlib.Core.Logic.{◌≢◌, ◌⊎◌, inl, inr, ⊎_elim}
use native.Mathlib.Omega.{arith}
use native.Mathlib.Decide.{ℕ_discrete}
use lib.Dec.{eqb}
use borrow.Author.Tests.{eq-eqb, ne_eqb}
use Rattle.loops.specs.Loop.{bit}
use Rattle.loops.proofs.Loops.{tally_same}
use Rattle.model.specs.Image.{Image, Key, head, flag, state, payload, field, phase, count, allowance, get, put, place_of, part_of, refer, Holder, an_anchor, a_field}
use Rattle.model.specs.Acts.{is_open, mark, born, unmarked, not_clean, finish}
use Rattle.model.specs.Sound.{Limits}
use Rattle.model.proofs.Keys.{In, Sized, same, sized_put, get_put_same, get_put_other, count_put, count_other}
use Rattle.model.proofs.Places.{parts}
use Rattle.model.proofs.Holders.{holder_in, state_holder, flag_holder, head_holder, a_payload}
use Rattle.model.proofs.Moves.{Linked, Up, grow_linked, up_linked, up_plain, new_mark, part_small, new_mark_other, up_new_mark, mark_keeps, refer_state, refer_flag, refer_head, refer_read, linked_refer}

-- The references that must lead to marked objects: of the roots, of the handles, and of the marked objects of clean partitions
abbrev pub Live : (n S : ℕ) → Image → (κ : Key) → Holder n κ → Type 0
Live n S img κ (an_anchor l) = Unit {0}
Live n S img κ (a_field {j = i} l m) = (get img (state i) ≡ 2) × (get img (flag (part_of S i)) ≢ 0)

pub record Clean (P S : ℕ) (img : Image) : Type 0 where
  pub leads : (κ : Key) (h : Holder (P * S) κ) → Live (P * S) S img κ h → get img κ ≢ 0 → get img (state (place_of S (get img κ))) ≡ 2

pub record Budget (P S : ℕ) (img : Image) : Type 0 where
  pub within : get img count + (not_clean P img + unmarked (P * S) img) ≤ get img allowance

-- What holds throughout an open phase
pub record Phase (P S : ℕ) (x : Image) : Type 0 where
  pub linked : Linked P S x
  pub opened : get x phase ≡ 1
  pub clean : Clean P S x
  pub budget : Budget P S x

module _ (P S : ℕ) (limits : Limits P S) where
  up_marked : (x y : Image) (j : ℕ) → Up P S x y → j < P * S → get x (state j) ≡ 2 → get y (state j) ≡ 2
  up_marked x y j u l e = ⊎_elim (λ s. s ∙ e) (λ s. s.0) (u.states j l)

  pub up_clean : (x y : Image) → Up P S x y → Linked P S x → Clean P S x → Clean P S y
  up_clean x y u w c = record { leads = go }
    where
      -- what was live leads on; what was not has no reference, or is not live
      old : (κ : Key) (h : Holder (P * S) κ) → Live (P * S) S x κ h → get y κ ≢ 0 → get y (state (place_of S (get y κ))) ≡ 2
      old κ h v ne =
          let e = u.holders κ h in
          let ne' : get x κ ≢ 0 = λ q. ne (e ∙ q) in
          rw e (up_marked x y _ u (w.refs κ h ne').0 (c.leads κ h v ne'))

      go : (κ : Key) (h : Holder (P * S) κ) → Live (P * S) S y κ h → get y κ ≢ 0 → get y (state (place_of S (get y κ))) ≡ 2
      go κ (an_anchor l) v ne = old κ (an_anchor l) tt ne
      go κ (a_field {j = i} {k = k} l m) v ne =
          let f : get x (flag (part_of S i)) ≢ 0 = ⊎_elim (λ s q. v.1 (s ∙ q)) (λ s q. v.1 s) (u.flags (part_of S i) (parts P S limits.some_slot i l)) in
          ⊎_elim (λ s. old (field i k) (a_field l m) (sym s ∙ v.0, f) ne)
          (λ s.
          ⊎_elim (λ t. absurd (v.1 t))
          (λ t. absurd (ne (u.holders (field i k) (a_field l m) ∙ t k m)))
          s.1)
          (u.states i l)

  pub budget_new_mark : (x : Image) (i : ℕ) → i < P * S → Sized (P * S) x → get x (state i) ≡ 1 → Budget P S x → Budget P S (new_mark P S limits x i)
  unfolding not_clean unmarked
  budget_new_mark x i l z e b =
      let small = part_small P S limits x i l z in
      let w = parts P S limits.some_slot i l in
      let y = put x (flag (part_of S i)) 0 in
      let p = part_of S i in
      let old : get y (state i) ≡ 1 = get_put_other (P * S) x (flag p) 0 (state i) small l refl ∙ e in
      let u₁ = count_put (P * S) y state 1 (P * S) (λ j m. m) i 2 l (sized_put _ _ _ _ z) (λ j ne. ne_eqb i j ne) in
      let u₂ = count_other (P * S) x state 1 (P * S) (λ j m. m) (flag p) 0 small (λ j. refl) in
      let f₁ = count_put (P * S) x flag 0 P (λ j m. omega arith) p 0 w z (λ j ne. ne_eqb p j ne) in
      let f₂ = count_other (P * S) y flag 0 P (λ j m. omega arith) (state i) 2 l (λ j. refl) in
      let c = new_mark_other P S limits x i l z count (omega arith) refl refl in
      let a = new_mark_other P S limits x i l z allowance (omega arith) refl refl in
      let one : bit (eqb (get y (state i)) 1) ≡ 1 = rw old in
      record { within = omega arith }

  pub open_true : (x : Image) → Phase P S x → is_open x ≡ true
  open_true x ph = eq-eqb _ _ ph.opened

  pub phase_mark : (x : Image) (i : ℕ) → i < P * S → Phase P S x → Phase P S (mark S x i)
  phase_mark x i l ph =
      let z = ph.linked.size in
      mark_keeps P S limits (Phase P S) x i
      (λ e.
      record {
        linked = up_linked P S limits x _ (up_new_mark P S limits x i l z) ph.linked;
        opened = new_mark_other P S limits x i l z phase (omega arith) refl refl ∙ ph.opened;
        clean = up_clean x _ (up_new_mark P S limits x i l z) ph.linked ph.clean;
        budget = budget_new_mark x i l z e ph.budget;
      })
      (λ ne. ph)

  -- the budget reads states, flags and two heads
  pub budget_reads : (x y : Image) → ((j : ℕ) → j < P * S → get y (state j) ≡ get x (state j)) → ((p : ℕ) → p < P → get y (flag p) ≡ get x (flag p)) → get y count ≡ get x count → get y allowance ≡ get x allowance
      → Budget P S x → Budget P S y
  unfolding not_clean unmarked
  budget_reads x y s f c a b =
      let u₁ = tally_same (P * S) (λ j. eqb (get y (state j)) 1) (λ j. eqb (get x (state j)) 1) (λ j l. ap (λ (w : ℕ). eqb w 1) (s j l)) in
      let f₁ = tally_same P (λ p. eqb (get y (flag p)) 0) (λ p. eqb (get x (flag p)) 0) (λ p l. ap (λ (w : ℕ). eqb w 0) (f p l)) in
      let b₁ = b.within in
      record { within = omega arith }

  -- a put that no count sees
  pub budget_same : (x : Image) (κ : Key) (v : ℕ) → In (P * S) κ → ((j : ℕ) → same κ (state j) ≡ false) → ((j : ℕ) → same κ (flag j) ≡ false) → same κ count ≡ false → same κ allowance ≡ false
      → Budget P S x → Budget P S (put x κ v)
  unfolding not_clean unmarked
  budget_same x κ v i s f c a b =
      let u₁ = count_other (P * S) x state 1 (P * S) (λ j m. m) κ v i s in
      let f₁ = count_other (P * S) x flag 0 P (λ j m. omega arith) κ v i f in
      let c₁ = get_put_other (P * S) x κ v count i (omega arith) c in
      let a₁ = get_put_other (P * S) x κ v allowance i (omega arith) a in
      record { within = omega arith }

  pub phase_payload : (x : Image) (i v : ℕ) → i < P * S → Phase P S x → Phase P S (put x (payload i) v)
  phase_payload x i v l ph =
      let z = ph.linked.size in
      let u = up_plain P S limits x (payload i) v (a_payload l) z in
      record {
        linked = up_linked P S limits x _ u ph.linked;
        opened = get_put_other (P * S) x (payload i) v phase l (omega arith) refl ∙ ph.opened;
        clean = up_clean x _ u ph.linked ph.clean;
        budget = budget_same x (payload i) v l (λ j. refl) (λ j. refl) refl refl ph.budget;
      }

  -- a birth
  pub phase_state : (x : Image) (i : ℕ) → i < P * S → get x (state i) ≡ 0 → Phase P S x → Phase P S (put x (state i) 2)
  unfolding not_clean unmarked
  phase_state x i l e ph =
      record {
        linked = up_linked P S limits x _ up ph.linked;
        opened = get_put_other (P * S) x (state i) 2 phase l (omega arith) refl ∙ ph.opened;
        clean = up_clean x _ up ph.linked ph.clean;
        budget =
            let u₁ = count_put (P * S) x state 1 (P * S) (λ j m. m) i 2 l z (λ j ne. ne_eqb i j ne) in
            let f₁ = count_other (P * S) x flag 0 P (λ j m. omega arith) (state i) 2 l (λ j. refl) in
            let c₁ = get_put_other (P * S) x (state i) 2 count l (omega arith) refl in
            let a₁ = get_put_other (P * S) x (state i) 2 allowance l (omega arith) refl in
            let none : bit (eqb (get x (state i)) 1) ≡ 0 = rw e in
            let b₁ = ph.budget.within in
            record { within = omega arith };
      }
    where
      z : Sized (P * S) x
      z = ph.linked.size

      go : (j : ℕ) → j < P * S → Dec (i ≡ j) → (get (put x (state i) 2) (state j) ≡ get x (state j)) ⊎ ((get (put x (state i) 2) (state j) ≡ 2) × ((get (put x (state i) 2) (flag (part_of S j)) ≡ 0) ⊎ ((k : ℕ) → k < 4 → get x (field j k) ≡ 0)))
      go j m (yes q) = inr (rw (← q) (get_put_same (P * S) x (state i) 2 z l, inr (λ k r. ph.linked.free i k l r e)))
      go j m (no q) = inl (get_put_other (P * S) x (state i) 2 (state j) l m (ne_eqb i j q))

      up : Up P S x (put x (state i) 2)
      up =
          record {
            size = sized_put _ _ _ _ z;
            states = λ j m. go j m (ℕ_discrete i j);
            flags = λ q m. inl (get_put_other (P * S) x (state i) 2 (flag q) l (omega arith) refl);
            holders = λ κ h. get_put_other (P * S) x (state i) 2 κ l (holder_in h) (state_holder h i);
          }

  pub phase_born : (x : Image) (i v : ℕ) → i < P * S → get x (state i) ≡ 0 → Phase P S x → Phase P S (born x i v)
  unfolding born
  phase_born x i v l e ph = rw (open_true x ph) (phase_payload (put x (state i) 2) i v l (phase_state x i l e ph))

  -- a reference stored to Nothing or to a marked object
  module _ (x : Image) (κ : Key) (w : ℕ) (h : Holder (P * S) κ) (z : Sized (P * S) x) where
    same_state : (j : ℕ) → get (refer S x κ w) (state j) ≡ get x (state j)
    same_state = refer_state P S limits x κ w h z

    same_head : (j : ℕ) → j < 5 → get (refer S x κ w) (head j) ≡ get x (head j)
    same_head = refer_head P S limits x κ w h z

    pub phase_refer : ((i k : ℕ) → κ ≡ field i k → get x (state i) ≢ 0) → (w ≢ 0 → (place_of S w < P * S) × (get x (state (place_of S w)) ≡ 2)) → Phase P S x → Phase P S (refer S x κ w)
    phase_refer busy ok ph =
        record {
          linked = linked_refer P S limits x κ w h z busy (λ ne. let t = ok ne in (t.0, λ q. let two : ◌≡◌ {A = ℕ} 2 0 = sym t.1 ∙ q in omega arith)) ph.linked;
          opened = same_head 2 (omega arith) ∙ ph.opened;
          clean =
              record {
                leads = λ μ g v ne.
                    ⊎_elim (λ r. let t = ok (λ q. ne (r.0 ∙ q)) in rw r.0 (same_state _ ∙ t.1))
                    (λ r. rw r (same_state _ ∙ ph.clean.leads μ g (live μ g v) (λ q. ne (r ∙ q))))
                    (refer_read P S limits x κ w h z μ g);
              };
          budget = budget_reads x (refer S x κ w) (λ j l. same_state j) (λ p l. refer_flag P S limits x κ w h z p (omega arith)) (same_head 3 (omega arith)) (same_head 4 (omega arith)) ph.budget;
        }
      where
        live : (μ : Key) (g : Holder (P * S) μ) → Live (P * S) S (refer S x κ w) μ g → Live (P * S) S x μ g
        live μ (an_anchor l) v = tt
        live μ (a_field {j = i} l m) v = (sym (same_state i) ∙ v.0, λ f. let q = parts P S limits.some_slot i l in v.1 (refer_flag P S limits x κ w h z (part_of S i) (omega arith) ∙ f))

  -- the end of a trace
  pub phase_finish : (x : Image) (p : ℕ) → p < P → get x (flag p) ≡ 0
      → ((i k : ℕ) → i < P * S → k < 4 → part_of S i ≡ p → get x (state i) ≡ 2 → get x (field i k) ≢ 0 → get x (state (place_of S (get x (field i k)))) ≡ 2)
      → Phase P S x → Phase P S (finish p x)
  unfolding finish not_clean unmarked
  phase_finish x p l f done ph =
      record {
        linked = grow_linked P S limits x _ (record { size = sized_put _ _ _ _ (sized_put _ _ _ _ z); states = λ j m. inl (st j m); holders = hd }) ph.linked;
        opened = other phase (omega arith) refl refl ∙ ph.opened;
        clean =
            record {
              leads = λ κ h v ne.
                  let ne' : get x κ ≢ 0 = λ q. ne (hd κ h ∙ q) in
                  rw (hd κ h) (st _ (ph.linked.refs κ h ne').0 ∙ leads κ h v ne');
            };
        budget =
            let u₁ = count_other (P * S) y state 1 (P * S) (λ j m. m) count (get x count + 1) (omega arith) (λ j. refl) in
            let u₂ = count_other (P * S) x state 1 (P * S) (λ j m. m) (flag p) 1 (omega arith) (λ j. refl) in
            let f₁ = count_other (P * S) y flag 0 P (λ j m. omega arith) count (get x count + 1) (omega arith) (λ j. refl) in
            let f₂ = count_put (P * S) x flag 0 P (λ j m. omega arith) p 1 l z (λ j ne. ne_eqb p j ne) in
            let c = get_put_same (P * S) y count (get x count + 1) (sized_put _ _ _ _ z) (omega arith) in
            let a = other allowance (omega arith) refl refl in
            let one : bit (eqb (get x (flag p)) 0) ≡ 1 = rw f in
            let b = ph.budget.within in
            record { within = omega arith };
      }
    where
      z : Sized (P * S) x
      z = ph.linked.size

      y : Image
      y = put x (flag p) 1

      other : (μ : Key) → In (P * S) μ → same (flag p) μ ≡ false → same count μ ≡ false → get (put y count (get x count + 1)) μ ≡ get x μ
      other μ i e c = get_put_other (P * S) y count _ μ (omega arith) i c ∙ get_put_other (P * S) x (flag p) 1 μ (omega arith) i e

      st : (j : ℕ) → j < P * S → get (put y count (get x count + 1)) (state j) ≡ get x (state j)
      st j m = other (state j) m refl refl

      hd : (κ : Key) → Holder (P * S) κ → get (put y count (get x count + 1)) κ ≡ get x κ
      hd κ h = other κ (holder_in h) (flag_holder h p) (head_holder h 3)

      leads : (κ : Key) (h : Holder (P * S) κ) → Live (P * S) S (put y count (get x count + 1)) κ h → get x κ ≢ 0 → get x (state (place_of S (get x κ))) ≡ 2
      leads κ (an_anchor m) v ne = ph.clean.leads κ (an_anchor m) tt ne
      leads κ (a_field {j = i} {k = k} m r) v ne = go (ℕ_discrete p (part_of S i))
        where
          go : Dec (p ≡ part_of S i) → get x (state (place_of S (get x (field i k)))) ≡ 2
          go (yes e) = done i k m r (sym e) (sym (st i m) ∙ v.0) ne
          go (no e) =
              let q = parts P S limits.some_slot i m in
              ph.clean.leads (field i k) (a_field m r) (sym (st i m) ∙ v.0, λ z. v.1 (other (flag (part_of S i)) (omega arith) (ne_eqb p (part_of S i) e) refl ∙ z)) ne
