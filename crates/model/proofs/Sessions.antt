-- A session handle keeps its object: whatever acts are accepted from a hold on, the handle's word stays and its object is in use, and so is all that it leads
-- to, until an act drops the handle or has it take another object; and no act but a commit changes an object to which a root or a handle leads.
-- Assumes nothing.
use Prim.Native.Nat.{ℕ, ◌+◌, ◌*◌, ◌<◌}
use mathlib.Core.Path.{◌≡◌, refl, ap, sym, ◌∙◌, subst}
use mathlib.Core.Bool.{Bool, true, false, cond}
use mathlib.Core.List.{List, [], ◌∷◌}
use mathlib.Core.Logic.{◌≢◌, ⊎_elim}
use native.Mathlib.Omega.{arith}
use native.Mathlib.Decide.{ℕ_discrete}
use lib.Dec.{ltb}
use borrow.Author.Tests.{ne_eqb, ltb-true}
use Rattle.loops.proofs.Tests.{both_true}
use Rattle.kinds.specs.Names.{roots, handles, session, word_of}
use Rattle.kinds.specs.declared.Name.{Name}
use Rattle.kinds.specs.declared.Handle.{Handle}
use Rattle.kinds.specs.declared.Partition.{Partition}
use Rattle.kinds.specs.Names.{Target}
use Rattle.std.specs.Prelude.{None, Some}
use Rattle.kinds.specs.declared.Operation.{Operation}
use Rattle.kinds.specs.declared.Single.{Single}
use Rattle.kinds.specs.declared.Single.TheVariants.{Open, Trace, Close, Local, Hold, Drop}
use Rattle.kinds.specs.Answers.{allowed}
use Rattle.model.specs.Image.{Image, Key, head, anchor, flag, state, payload, inlist, field, handle, get, place, place_of, an_anchor, a_field}
use Rattle.model.specs.Spread.{start, step}
use Rattle.model.specs.Acts.{Act, commit, single, is_open, store, perform, apply}
use Rattle.model.specs.Judge.{judge_op, judge_ops, judge_name, judge}
use Rattle.model.specs.Sound.{SoundAt}
use Rattle.model.specs.History.{Run, still, acted}
use Rattle.model.specs.Chains.{Names, LeadsFrom, Leads, Step, op, push, steps, birth}
use Rattle.model.specs.Effects.{Performs, new_state, new_payload, new_field, val, set, root_to, marks_stored, uncleans_stored, Takes, takes, marks_held, uncleans_held, Leaves}
use Rattle.model.specs.Effects.{Opens, marks_anchored, uncleans_all, opens, restarts, allows, Traces, marks_within, marks_beyond, uncleans_beyond, cleans, counts}
use Rattle.model.specs.Sessions.{Retains, Retaining, Held, Session, Remains}
use Rattle.model.proofs.Keys.{kind}
use Rattle.model.proofs.Places.{slot_in, place_word}
use Rattle.model.proofs.Moves.{Linked}
use Rattle.model.proofs.Committing.{check_true, then_true, Good, good_new, good_set, good_val, good_root, good, taking, good_hold, good_drop, judged_keeps}
use Rattle.model.proofs.Opening.{ready_anchors, open_other}
use Rattle.model.proofs.Closing.{close_anchor}
use Rattle.model.proofs.Chaining.{close_keeps}
use Rattle.model.proofs.Collecting.{local_anchor, spares}
use Rattle.model.proofs.Bound.{trace_other}
use Rattle.model.proofs.SoundnessMoves.{sound_linked}
use Rattle.model.proofs.SoundnessActs.{holds_perform, act_sound, run_kept}
use Rattle.model.proofs.Reaching.{traced_is, local_ready}
use Rattle.model.proofs.Effects.{performed, took, effect}

-- the handle's word is no word of an operation whose root is one
no_handle : (P S : ℕ) (x y : Image) (e : ℕ) (o : Operation) (h : ℕ) → judge_op P S y e o ≡ allowed → (κ : Key) (v : ℕ) → Performs S x o κ v → κ ≡ handle h → ⊥
unfolding judge_op
no_handle P S x y e _ h j _ _ new_state q = let d : ◌≡◌ {A = ℕ} 3 1 = ap kind q in omega arith
no_handle P S x y e _ h j _ _ new_payload q = let d : ◌≡◌ {A = ℕ} 4 1 = ap kind q in omega arith
no_handle P S x y e _ h j _ _ new_field q = let d : ◌≡◌ {A = ℕ} 5 1 = ap kind q in omega arith
no_handle P S x y e _ h j _ _ val q = let d : ◌≡◌ {A = ℕ} 4 1 = ap kind q in omega arith
no_handle P S x y e _ h j _ _ set q = let d : ◌≡◌ {A = ℕ} 5 1 = ap kind q in omega arith
no_handle P S x y e _ h j _ _ (root_to {r = r}) q =
    let l = ltb-true r roots (both_true _ _ (check_true _ _ _ _ j).0).0 in
    let i : r ≡ roots + h = cc in
    omega arith
no_handle P S x y e _ h j _ _ (marks_stored b d) q = let d : ◌≡◌ {A = ℕ} 3 1 = ap kind q in omega arith
no_handle P S x y e _ h j _ _ (uncleans_stored b d) q = let d : ◌≡◌ {A = ℕ} 2 1 = ap kind q in omega arith

-- nor one that another handle takes
takes_other : {S : ℕ} {x : Image} {g : Handle} {t : Target} (h : ℕ) (κ : Key) (v : ℕ) → Takes S x g t κ v → g.0 ≢ h → κ ≡ handle h → ⊥
takes_other {g = g} h _ _ takes ne q = let d : roots + g.0 ≡ roots + h = cc in ne (omega arith)
takes_other h _ _ (marks_held d) ne q = let d : ◌≡◌ {A = ℕ} 3 1 = ap kind q in omega arith
takes_other h _ _ (uncleans_held d) ne q = let d : ◌≡◌ {A = ℕ} 2 1 = ap kind q in omega arith

-- a payload or a field
abbrev Content : Key → Type 0
Content (head h) = ⊥
Content (anchor a) = ⊥
Content (flag p) = ⊥
Content (state j) = ⊥
Content (payload j) = Unit {0}
Content (inlist j) = ⊥
Content (field j k) = Unit {0}

-- what open, trace, hold and drop write is neither, and no state 0; nor does an operation write a state 0
opens_content : {P S : ℕ} {x y : Image} (κ : Key) (v : ℕ) → Opens P S x y κ v → Content κ → ⊥
opens_content _ _ (marks_anchored l n) c = c
opens_content _ _ uncleans_all c = c
opens_content _ _ opens c = c
opens_content _ _ restarts c = c
opens_content _ _ allows c = c

opens_state : {P S : ℕ} {x y : Image} {j : ℕ} (v : ℕ) → Opens P S x y (state j) v → v ≢ 0
opens_state _ (marks_anchored l n) z = omega arith

traces_content : {S p : ℕ} {x : Image} (κ : Key) (v : ℕ) → Traces S p x κ v → Content κ → ⊥
traces_content _ _ (marks_within t) c = c
traces_content _ _ (marks_beyond t) c = c
traces_content _ _ (uncleans_beyond t) c = c
traces_content _ _ cleans c = c
traces_content _ _ counts c = c

traces_state : {S p : ℕ} {x : Image} {j : ℕ} (v : ℕ) → Traces S p x (state j) v → v ≢ 0
traces_state _ (marks_within t) z = omega arith
traces_state _ (marks_beyond t) z = omega arith

takes_content : {S : ℕ} {x : Image} {h : Handle} {t : Target} (κ : Key) (v : ℕ) → Takes S x h t κ v → Content κ → ⊥
takes_content _ _ takes c = c
takes_content _ _ (marks_held d) c = c
takes_content _ _ (uncleans_held d) c = c

takes_state : {S : ℕ} {x : Image} {h : Handle} {t : Target} {j : ℕ} (v : ℕ) → Takes S x h t (state j) v → v ≢ 0
takes_state _ (marks_held d) z = omega arith

performs_state : {S : ℕ} {x : Image} {o : Operation} {j v : ℕ} → Performs S x o (state j) v → v ≢ 0
performs_state {x = x} new_state z = go (is_open x) z
  where
    go : (b : Bool) → ◌≡◌ {A = ℕ} (cond b 2 1) 0 → ⊥
    go true z = omega arith
    go false z = omega arith
performs_state (marks_stored b d) z = omega arith

-- what a handle leads to
pub handle_leads : {S : ℕ} {x : Image} (h : ℕ) → h < handles → (j : ℕ) → LeadsFrom S x (handle h) j → Leads S x j
handle_leads h l j (start n) = start (roots + h, omega arith, n)
handle_leads h l j (step {i = i} c n) = step (handle_leads h l i c) n

word_some : (q : Name) → word_of (Some q) ≢ 0
unfolding word_of
word_some q e = omega arith

module _ (P S : ℕ) (x : Image) (s : SoundAt P S x) where
  w : Linked P S x
  w = sound_linked P S x s

  -- a commit leaves every handle
  commit_stays : (h : ℕ) → h < handles → (os : List Operation) → judge P S x (commit os) ≡ allowed → get (apply P S x (commit os)) (handle h) ≡ get x (handle h)
  unfolding judge apply
  commit_stays h l os j =
      (judged_keeps P S (λ y. SoundAt P S y × (get y (handle h) ≡ get x (handle h)))
      (λ y e o k q.
      let g = good P S y e o k in (
        (holds_perform P S y o g q.0).sound,
        ⊎_elim (λ v. absurd (no_handle P S y y e o h k _ _ v.1 refl)) (λ d. d ∙ q.1) ((performed P S y q.0 o g).others (handle h) (omega arith) refl),
      ))
      x 1 os (check_true _ _ _ _ j).1 (s, refl)).1

  open_stays : (h : ℕ) → h < handles → get (apply P S x (single Open)) (handle h) ≡ get x (handle h)
  unfolding apply
  open_stays h l = open_other P S s.limits x (handle h) (omega arith) refl refl ∙ (ready_anchors P S s.limits x w).holders (handle h) (an_anchor (omega arith))

  trace_stays : (h : ℕ) → h < handles → (p : Partition) → judge P S x (single (Trace p)) ≡ allowed → get (apply P S x (single (Trace p))) (handle h) ≡ get x (handle h)
  unfolding apply
  trace_stays h l p j = trace_other P S s.limits x p.0 (traced_is P S s.limits x p j).1 w (handle h) (omega arith) (λ t. refl) (λ q. refl) refl

  close_stays : (h : ℕ) → h < handles → get (apply P S x (single Close)) (handle h) ≡ get x (handle h)
  unfolding apply
  close_stays h l = close_anchor P S s.limits x w (roots + h) (omega arith)

  local_stays : (h : ℕ) → h < handles → (p : Partition) → judge P S x (single (Local p)) ≡ allowed → get (apply P S x (single (Local p))) (handle h) ≡ get x (handle h)
  unfolding apply
  local_stays h l p j = local_anchor P S p.0 (local_ready P S x p j) x s (roots + h) (omega arith)

  -- another handle's taking
  take_stays : (h : ℕ) → h < handles → (g : Handle) (t : Target) → Good P S x (taking g t) → g.0 ≢ h → get (store S x (handle g.0) t) (handle h) ≡ get x (handle h)
  take_stays h l g t k ne =
      ⊎_elim (λ v. absurd (takes_other h _ _ v.1 ne refl)) (λ d. d) ((took P S x g t s k).others (handle h) (omega arith) refl)

  -- the word of a handle that holds n stays that of n
  pub act_retains : (h : Handle) (n : Name) (a : Act) → h.0 < handles → judge P S x a ≡ allowed → Retains h n a → get x (handle h.0) ≡ word_of (Some n)
      → get (apply P S x a) (handle h.0) ≡ word_of (Some n)
  unfolding apply
  act_retains h n (commit os) l j k e = commit_stays h.0 l os j ∙ e
  act_retains h n (single Open) l j k e = open_stays h.0 l ∙ e
  act_retains h n (single (Trace p)) l j k e = trace_stays h.0 l p j ∙ e
  act_retains h n (single Close) l j k e = close_stays h.0 l ∙ e
  act_retains h n (single (Local p)) l j k e = local_stays h.0 l p j ∙ e
  act_retains h n (single (Hold g m)) l j k e = go (ℕ_discrete g.0 h.0)
    where
      y : Image
      y = store S x (handle g.0) (Some m)

      go : Dec (g.0 ≡ h.0) → get y (handle h.0) ≡ word_of (Some n)
      go (yes q) =
          ap (λ (c : ℕ). get y (handle c)) (sym q)
          ∙ (took P S x g (Some m) s (good_hold P S x g m j)).written (handle g.0) _ (omega arith) takes
          ∙ ap (λ (v : Name). word_of (Some v)) (k (ap session q))
      go (no q) = take_stays h.0 l g (Some m) (good_hold P S x g m j) q ∙ e
  act_retains h n (single (Drop g)) l j k e = take_stays h.0 l g None (good_drop P S x g j) (λ q. k (ap session q)) ∙ e

  -- in a sound image, what a root or a handle leads to is in use
  pub leads_used : (j : ℕ) → Leads S x j → (j < P * S) × (get x (state j) ≢ 0)
  leads_used j (start n) = rw (← n.2.target) (w.refs (anchor n.0) (an_anchor n.1) n.2.some)
  leads_used j (step {i = i} c n) = rw (← n.2.target) (w.refs (field i n.0) (a_field (leads_used i c).0 n.1) n.2.some)

  held : (h : Handle) (n : Name) → h.0 < handles → n.slot.0 < S → get x (handle h.0) ≡ word_of (Some n) → Held S h n x
  held h n l b e =
      let first : Names S x (handle h.0) (place S n) =
      record { some = λ q. word_some n (sym e ∙ q); target = ap (place_of S) e ∙ place_word S n (omega (arith, s.limits.slots_most)) } in
      record {
        word = e;
        names = first;
        object = (leads_used (place S n) (handle_leads h.0 l (place S n) (start first))).1;
        led = λ j c. (leads_used j (handle_leads h.0 l j c)).1;
      }

  -- a hold: its numbers are not too large, and the handle takes the object
  pub hold_in : (h : Handle) (n : Name) → judge P S x (single (Hold h n)) ≡ allowed → (h.0 < handles) × (n.partition.0 < P) × (n.slot.0 < S)
  unfolding judge judge_name
  hold_in h n j =
      let a = check_true _ _ _ _ j in
      let b = both_true (ltb n.partition.0 P) (ltb n.slot.0 S) (check_true _ _ _ _ a.1).0 in
      (ltb-true _ _ a.0, ltb-true _ _ b.0, ltb-true _ _ b.1)

  hold_takes : (h : Handle) (n : Name) → judge P S x (single (Hold h n)) ≡ allowed → get (apply P S x (single (Hold h n))) (handle h.0) ≡ word_of (Some n)
  unfolding apply
  hold_takes h n j = let l = (hold_in h n j).0 in (took P S x h (Some n) s (good_hold P S x h n j)).written (handle h.0) _ (omega arith) takes

  -- an object in use stays so under an accepted operation, and no operation creates another at its place
  op_used : (j : ℕ) → j < P * S → (o : Operation) → Good P S x o → get x (state j) ≢ 0 → get (perform S x o) (state j) ≢ 0
  op_used j l o g u =
      let p = performed P S x s o g in
      ⊎_elim (λ v. λ z. performs_state v.1 (sym (p.written (state j) v.0 l v.1) ∙ z)) (λ d. λ z. u (sym d ∙ z)) (p.others (state j) l refl)

  op_birth : (j : ℕ) (before : List Step) (o : Operation) → Good P S x o → get x (state j) ≢ 0 → birth S (op o ∷ before) j ≡ birth S before j
  unfolding birth
  op_birth j before _ (good_new {n = n} lp ls e) u = rw (ne_eqb (place S n) j (λ q. u (subst (λ (i : ℕ). get x (state i) ≡ 0) q e)))
  op_birth j before _ (good_set lp ls lk v m) u = refl
  op_birth j before _ (good_val lp ls v) u = refl
  op_birth j before _ (good_root l m) u = refl

commit_birth : (P S j : ℕ) → j < P * S → (x : Image) (e : ℕ) (os : List Operation) (before : List Step) → SoundAt P S x → judge_ops P S x e os ≡ allowed → get x (state j) ≢ 0
    → birth S (push os before) j ≡ birth S before j
unfolding judge_ops push
commit_birth P S j l x e [] before s k u = refl
commit_birth P S j l x e (o ∷ os) before s k u =
    let a = then_true _ _ k in
    let g = good P S x e o a.0 in
    commit_birth P S j l (perform S x o) (e + 1) os (op o ∷ before) (holds_perform P S x o g s).sound a.1 (op_used P S x s j l o g u) ∙ op_birth P S x s j before o g u

act_birth : (P S j : ℕ) → j < P * S → (x : Image) (a : Act) (acts : List Act) (before : List Step) → SoundAt P S x → judge P S x a ≡ allowed → get x (state j) ≢ 0
    → birth S (steps (a ∷ acts) before) j ≡ birth S (steps acts before) j
unfolding judge steps birth
act_birth P S j l x (commit os) acts before s k u = commit_birth P S j l x 1 os (steps acts before) s (check_true _ _ _ _ k).1 u
act_birth P S j l x (single a) acts before s k u = refl

pub retaining_run : {P S : ℕ} {h : Handle} {n : Name} {x y : Image} {acts : List Act} → Retaining P S h n x acts y → Run P S x acts y
retaining_run still = still
retaining_run (acted a r k) = acted a (retaining_run r) k.0

-- FROM A HOLD ON, whatever acts are accepted, until one drops the handle or has it take another object
module _ (P S : ℕ) (h : Handle) (n : Name) (x : Image) (sx : SoundAt P S x) (j : judge P S x (single (Hold h n)) ≡ allowed) where
  in_heap_lem : (h.0 < handles) × (n.partition.0 < P) × (n.slot.0 < S)
  in_heap_lem = hold_in P S x sx h n j

  begun : SoundAt P S (apply P S x (single (Hold h n)))
  begun = act_sound P S x (single (Hold h n)) sx j

  pub sessions : {since : List Act} {y : Image} → Retaining P S h n (apply P S x (single (Hold h n))) since y → Session S h n since y
  unfolding steps
  sessions still = record { held = held P S _ begun h n in_heap_lem.0 in_heap_lem.2 (hold_takes P S x sx h n j); same = λ before. refl }
  sessions (acted {acts = acts} {y = y} a r k) =
      let g = sessions r in
      let s = (run_kept P S _ begun (retaining_run r)).sound in
      let l : place S n < P * S = slot_in P S sx.limits.some_slot _ _ in_heap_lem.1 in_heap_lem.2 in
      record {
        held = held P S _ (act_sound P S y a s k.0) h n in_heap_lem.0 in_heap_lem.2 (act_retains P S y s h n a in_heap_lem.0 k.0 k.1 g.held.word);
        same = λ before. act_birth P S (place S n) l y a acts before s k.0 g.held.object ∙ g.same before;
      }

-- AN ACT THAT IS NO COMMIT leaves every object to which a root or a handle leads in use, with its payload and fields
module _ (P S : ℕ) (x : Image) (s : SoundAt P S x) (j : ℕ) (c : Leads S x j) where
  -- where an act writes no payload, no field and no state 0
  remains : {y : Image} {W : Key → ℕ → Type 0} → Leaves (P * S) S x W y → ((κ : Key) (v : ℕ) → W κ v → Content κ → ⊥) → ((v : ℕ) → W (state j) v → v ≢ 0) → Remains x y j
  remains {y} {W} a none some =
      let u = leads_used P S x s j c in
      record {
        used = ⊎_elim (λ v. λ z. some v.0 v.1 (sym (a.written (state j) v.0 u.0 v.1) ∙ z)) (λ d. λ z. u.1 (sym d ∙ z)) (a.others (state j) u.0 refl);
        value = ⊎_elim (λ v. absurd (none _ _ v.1 tt)) (λ d. d) (a.others (payload j) u.0 refl);
        fields = λ k l. ⊎_elim (λ v. absurd (none _ _ v.1 tt)) (λ d. d) (a.others (field j k) (u.0, l) refl);
      }

  pub spared : (a : Single) → judge P S x (single a) ≡ allowed → Remains x (apply P S x (single a)) j
  unfolding apply
  spared Open k = remains (effect P S x (single Open) s k) opens_content opens_state
  spared (Trace p) k = remains (effect P S x (single (Trace p)) s k) traces_content traces_state
  spared Close k =
      let a = close_keeps P S s.limits x (sound_linked P S x s) k j c in
      record { used = λ z. let one = a.used in omega arith; value = a.value; fields = a.fields }
  spared (Local p) k =
      let a = (spares P S p.0 (local_ready P S x p k) x s).led j c in
      record { used = λ z. (leads_used P S x s j c).1 (sym a.state_stays ∙ z); value = a.value_stays; fields = a.fields_stay }
  spared (Hold h n) k = remains (effect P S x (single (Hold h n)) s k) takes_content takes_state
  spared (Drop h) k = remains (effect P S x (single (Drop h)) s k) takes_content takes_state
