-- Opening a phase.
-- Assumes nothing.
use Prim.Native.Nat.{ℕ, ◌+◌, ◌*◌, ◌≤◌, ◌<◌}
use mathlib.Core.Path.{◌≡◌, refl, sym, ap, ◌∙◌, subst}
use mathlib.Core.Bool.{Bool, true, false, not}
use mathlib.Core.Logic.{◌≢◌, ◌⊎◌, inl, inr, ⊎_elim}
use native.Mathlib.Omega.{arith}
use native.Mathlib.Decide.{ℕ_discrete}
use lib.Dec.{eqb}
use borrow.Author.Tests.{eqb-true, eqb-false, eq-eqb, ne_eqb, not-true, not-false}
use Rattle.loops.specs.Loop.{both, every}
use Rattle.loops.proofs.Tests.{clash, both_true, both_false, both_self}
use Rattle.loops.proofs.Loops.{each_keeps, each_reaches, tally_same, tally_le, every_true, every_false}
use Rattle.model.specs.Image.{Image, Key, anchor, flag, state, field, phase, count, allowance, anchors, get, put, place_of, part_of, Holder, an_anchor, a_field}
use Rattle.model.specs.Acts.{used, mark, mark_word, unmarked, not_clean, unclean, mark_anchors, allow, open_up}
use Rattle.model.specs.History.{names, unanchored}
use Rattle.model.specs.Chains.{Names}
use Rattle.model.specs.Sound.{Limits}
use Rattle.model.proofs.Keys.{Fits, same, in_fits, get_put_apart, sized_put, get_put_same}
use Rattle.model.proofs.Places.{parts}
use Rattle.model.proofs.Holders.{holder_in, a_head, state_holder, flag_holder, head_holder}
use Rattle.model.proofs.Moves.{Linked, unclean_other, unclean_flag, up_linked, up_plain, up_unclean}
use Rattle.model.proofs.Phase.{Live, Phase}
use Rattle.model.proofs.Tracing.{mark_read, mark_linked, mark_marks, mark_stays, mark_flag}
use Rattle.model.proofs.Committing.{mark_word_keeps}

-- a state of 0 or 1 is in use where it is 1
used_is : (n : ℕ) → n ≤ 2 → n ≢ 2 → eqb n 1 ≡ not (eqb n 0)
used_is n l ne = go (ℕ_discrete n 0)
  where
    go : Dec (n ≡ 0) → eqb n 1 ≡ not (eqb n 0)
    go (yes e) = rw e
    go (no e) = let one : n ≡ 1 = omega arith in rw one

module _ (P S : ℕ) (limits : Limits P S) where
  -- a heap between phases: nothing is marked
  pub record Shut (x : Image) : Type 0 where
    pub linked : Linked P S x
    pub plain : (i : ℕ) → i < P * S → get x (state i) ≢ 2

  -- while what roots and handles name is marked: x is the heap before
  pub record Ready (x y : Image) : Type 0 where
    pub linked : Linked P S y
    pub opened : get y phase ≡ 1
    pub flags : (p : ℕ) → p < P → get y (flag p) ≡ 0
    pub holders : (κ : Key) → Holder (P * S) κ → get y κ ≡ get x κ
    -- a state is as before, or the mark of what a root or a handle names
    pub states : (i : ℕ) → (get y (state i) ≡ get x (state i)) ⊎ ((get y (state i) ≡ 2) × ((r : ℕ) × (r < anchors) × Names S x (anchor r) i))

  ready_mark : (x y : Image) (r : ℕ) → r < anchors → Ready x y → get y (anchor r) ≢ 0 → Ready x (mark S y (place_of S (get y (anchor r))))
  ready_mark x y r l g ne =
      record {
        linked = mark_linked P S limits y t lt g.linked;
        opened = mark_read P S limits y t phase lt (omega arith) refl refl ∙ g.opened;
        flags = λ p m. mark_flag P S limits y t p lt (omega arith) g.linked (g.flags p m);
        holders = λ κ h. mark_read P S limits y t κ lt (in_fits (P * S) κ (holder_in h)) (state_holder h t) (flag_holder h (part_of S t)) ∙ g.holders κ h;
        states = λ i. go i (ℕ_discrete t i);
      }
    where
      t : ℕ
      t = place_of S (get y (anchor r))

      lt : t < P * S
      lt = (g.linked.refs (anchor r) (an_anchor l) ne).0

      go : (i : ℕ) → Dec (t ≡ i) → (get (mark S y t) (state i) ≡ get x (state i)) ⊎ ((get (mark S y t) (state i) ≡ 2) × ((r : ℕ) × (r < anchors) × Names S x (anchor r) i))
      go i (yes q) =
          let h = g.holders (anchor r) (an_anchor l) in
          let two = mark_marks P S limits y t lt g.linked (g.linked.refs (anchor r) (an_anchor l) ne).1 in
          inr (subst (λ (v : ℕ). get (mark S y t) (state v) ≡ 2) q two, (r, l, record { some = λ n. ne (h ∙ n); target = ap (place_of S) (sym h) ∙ q }))
      go i (no q) = rw (mark_read P S limits y t (state i) lt tt (ne_eqb t i q) refl) (g.states i)

  ready_anchor : (x y : Image) (r : ℕ) → r < anchors → Ready x y → Ready x (mark_word S y (get y (anchor r)))
  ready_anchor x y r l g = mark_word_keeps P S limits (Ready x) y (get y (anchor r)) (λ ne. ready_mark x y r l g ne) (λ e. g)

  abbrev pub started : Image → Image
  started x = unclean (put x phase 1)

  ready : (x : Image) → Linked P S x → Ready x (started x)
  ready x w =
      let z = w.size in
      let zp = sized_put (P * S) x phase 1 z in
      record {
        linked = up_linked P S limits _ _ (up_unclean P S limits _ zp) (up_linked P S limits x _ (up_plain P S limits x phase 1 (a_head (omega arith)) z) w);
        opened = unclean_other _ phase (omega arith) (λ p. refl) ∙ get_put_same (P * S) x phase 1 z (omega arith);
        flags = λ p l. unclean_flag (P * S) _ zp p (omega arith);
        holders = λ κ h. let f = in_fits (P * S) κ (holder_in h) in unclean_other _ κ f (λ p. flag_holder h p) ∙ get_put_apart x phase 1 κ (omega arith) f (head_holder h 2);
        states = λ i. inl (unclean_other _ (state i) tt (λ p. refl) ∙ get_put_apart x phase 1 (state i) (omega arith) tt refl);
      }

  pub open_started : (x : Image) → Linked P S x → Linked P S (unclean (put x phase 1))
  open_started x w = (ready x w).linked

  pub ready_anchors : (x : Image) → Linked P S x → Ready x (mark_anchors S (started x))
  unfolding mark_anchors
  ready_anchors x w = each_keeps (Ready x) _ _ (λ y r l g. ready_anchor x y r l g) _ (ready x w)

  -- what a root or a handle names is marked
  pub anchors_marked : (x : Image) → Linked P S x → (r : ℕ) → r < anchors → get x (anchor r) ≢ 0 → get (mark_anchors S (started x)) (state (place_of S (get x (anchor r)))) ≡ 2
  unfolding mark_anchors
  anchors_marked x w r l ne =
      (each_reaches (λ y. Ready x y × (get y (state (place_of S (get x (anchor r)))) ≡ 2)) _ _ (started x) r l
      (λ y c m g. (
        ready_anchor x y c m g.0,
        mark_word_keeps P S limits (λ z. get z (state (place_of S (get x (anchor r)))) ≡ 2) y (get y (anchor c))
            (λ q. mark_stays P S limits y _ _ (g.0.linked.refs (anchor c) (an_anchor m) q).0 g.0.linked g.1) (λ e. g.1),
      ))
      (let g = each_keeps (Ready x) r (λ y c. mark_word S y (get y (anchor c))) (λ y c m w. ready_anchor x y c (omega arith) w) _ (ready x w) in
      (ready_anchor x _ r l g, made _ g))
      ).1
    where
      made : (y : Image) → Ready x y → get (mark_word S y (get y (anchor r))) (state (place_of S (get x (anchor r)))) ≡ 2
      made y g =
          let h = g.holders (anchor r) (an_anchor l) in
          mark_word_keeps P S limits (λ z. get z (state (place_of S (get x (anchor r)))) ≡ 2) y (get y (anchor r))
          (λ q. let u = g.linked.refs (anchor r) (an_anchor l) q in rw (← h) (mark_marks P S limits y _ u.0 g.linked u.1)) (λ e. absurd (ne (sym h ∙ e)))

  -- the last two words
  allow_other : (a : Image) (μ : Key) → Fits μ → same count μ ≡ false → same allowance μ ≡ false → get (allow P S a) μ ≡ get a μ
  unfolding allow
  allow_other a μ f c e = get_put_apart (put a count 0) allowance _ μ (omega arith) f e ∙ get_put_apart a count 0 μ (omega arith) f c

  pub open_other : (x : Image) (μ : Key) → Fits μ → same count μ ≡ false → same allowance μ ≡ false → get (open_up P S x) μ ≡ get (mark_anchors S (started x)) μ
  unfolding open_up
  open_other x μ f c e = allow_other (mark_anchors S (started x)) μ f c e

  pub open_count : (x : Image) → Linked P S x → get (open_up P S x) count ≡ 0
  unfolding open_up allow
  open_count x w = get_put_apart (put a count 0) allowance _ count (omega arith) (omega arith) refl ∙ get_put_same (P * S) a count 0 (ready_anchors x w).linked.size (omega arith)
    where
      a : Image
      a = mark_anchors S (started x)

  pub open_allowance : (x : Image) → Linked P S x → get (open_up P S x) allowance ≡ P + unmarked (P * S) (mark_anchors S (started x))
  unfolding open_up allow
  open_allowance x w = get_put_same (P * S) _ allowance _ (sized_put _ _ _ _ (ready_anchors x w).linked.size) (omega arith)

  open_linked : (x : Image) → Linked P S x → Linked P S (open_up P S x)
  unfolding open_up allow
  open_linked x w =
      let g = ready_anchors x w in
      let b = up_linked P S limits _ _ (up_plain P S limits _ count 0 (a_head (omega arith)) g.linked.size) g.linked in
      up_linked P S limits _ _ (up_plain P S limits _ allowance _ (a_head (omega arith)) b.size) b

  pub phase_open : (x : Image) → Linked P S x → Phase P S (open_up P S x)
  unfolding not_clean unmarked
  phase_open x w =
      record {
        linked = open_linked x w;
        opened = open_other x phase (omega arith) refl refl ∙ g.opened;
        clean = record { leads = leads };
        budget =
            record {
              within =
                  let c = open_count x w in
                  let b = open_allowance x w in
                  let u = tally_same (P * S) (λ j. eqb (get y (state j)) 1) (λ j. eqb (get a (state j)) 1) (λ j l. ap (λ (v : ℕ). eqb v 1) (open_other x (state j) tt refl refl)) in
                  let f = tally_le P (λ p. eqb (get y (flag p)) 0) in
                  omega arith;
            };
      }
    where
      a : Image
      a = mark_anchors S (started x)

      y : Image
      y = open_up P S x

      g : Ready x a
      g = ready_anchors x w

      leads : (κ : Key) (h : Holder (P * S) κ) → Live (P * S) S y κ h → get y κ ≢ 0 → get y (state (place_of S (get y κ))) ≡ 2
      leads κ (an_anchor {a = r} l) v ne =
          let e : get y (anchor r) ≡ get x (anchor r) = open_other x (anchor r) l refl refl ∙ g.holders (anchor r) (an_anchor l) in
          rw e (open_other x (state _) tt refl refl ∙ anchors_marked x w r l (λ q. ne (e ∙ q)))
      leads κ (a_field {j = i} {k = k} l m) v ne =
          let q = parts P S limits.some_slot i l in
          absurd (v.1 (open_other x (flag (part_of S i)) (omega arith) refl refl ∙ g.flags (part_of S i) q))

  -- the allowance is P + W
  pub open_allows : (x : Image) → Shut x → get (open_up P S x) allowance ≡ P + unanchored P S x
  unfolding unmarked unanchored
  open_allows x sh = open_allowance x sh.linked ∙ ap (λ (n : ℕ). P + n) (tally_same (P * S) _ _ (λ i l. go i l (every anchors (λ r. not (names S x (anchor r) i))) refl))
    where
      a : Image
      a = mark_anchors S (started x)

      g : Ready x a
      g = ready_anchors x sh.linked

      go : (i : ℕ) → i < P * S → (b : Bool) → every anchors (λ r. not (names S x (anchor r) i)) ≡ b
          → eqb (get a (state i)) 1 ≡ both (used x i) (every anchors (λ r. not (names S x (anchor r) i)))
      go i l true e =
          let s : get a (state i) ≡ get x (state i) =
          ⊎_elim (λ q. q)
          (λ q.
          let r = q.1.0 in
          let n : names S x (anchor r) i ≡ true = rw (ne_eqb (get x (anchor r)) 0 q.1.2.some, eq-eqb (place_of S (get x (anchor r))) i q.1.2.target) in
          absurd (clash n (not-true _ (every_true anchors _ e r q.1.1))))
          (g.states i) in
          rw (e, s) (used_is _ (sh.linked.states i l) (sh.plain i l) ∙ sym (both_self (used x i)))
      go i l false e =
          let r = every_false anchors _ e in
          let n = both_true (not (eqb (get x (anchor r.0)) 0)) (eqb (place_of S (get x (anchor r.0))) i) (not-false _ r.2) in
          let m : get a (state i) ≡ 2 = subst (λ (v : ℕ). get a (state v) ≡ 2) (eqb-true _ _ n.1) (anchors_marked x sh.linked r.0 r.1 (eqb-false _ _ (not-true _ n.0))) in
          rw (e, m) (sym (both_false (used x i)))

  -- what opening marks, and leaves
  pub open_marks : (x : Image) → Shut x → (i : ℕ) → i < P * S → get (open_up P S x) (state i) ≡ 2 → (r : ℕ) × (r < anchors) × Names S x (anchor r) i
  open_marks x sh i l e =
      let q = open_other x (state i) tt refl refl in
      ⊎_elim (λ s. absurd (sh.plain i l (sym s ∙ sym q ∙ e))) (λ s. s.1) ((ready_anchors x sh.linked).states i)

  pub open_field : (x : Image) → Linked P S x → (i k : ℕ) → i < P * S → k < 4 → get (open_up P S x) (field i k) ≡ get x (field i k)
  open_field x w i k l m = open_other x (field i k) m refl refl ∙ (ready_anchors x w).holders (field i k) (a_field l m)

  -- whatever a mark of an object that a root or a handle names keeps, the marking of all of them keeps
  pub anchors_keep : (Q : Image → Type 0) → ((z : Image) → Q z → Linked P S z) → ((z : Image) (t : ℕ) → t < P * S → Q z → Q (mark S z t)) → (x : Image) → Q x → Q (mark_anchors S x)
  unfolding mark_anchors
  anchors_keep Q linked h x q =
      each_keeps Q anchors _
      (λ y r l w. mark_word_keeps P S limits Q y (get y (anchor r)) (λ ne. h y _ ((linked y w).refs (anchor r) (an_anchor l) ne).0 w) (λ e. w)) x q
