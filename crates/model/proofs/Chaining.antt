-- Close keeps what a root or a handle leads to, and what is marked in a phase is what a chain leads to, so that close frees every other object.
-- Assumes nothing.
use Prim.Native.Nat.{ℕ, ◌+◌, ◌*◌, ◌<◌}
use mathlib.Core.Path.{◌≡◌, refl, sym, ap, ◌∙◌, subst}
use mathlib.Core.Bool.{Bool, true, false}
use mathlib.Core.List.{List, [], ◌∷◌}
use mathlib.Core.Logic.{◌≢◌, ◌⊎◌, inl, inr, ⊎_elim}
use native.Mathlib.Omega.{arith}
use native.Mathlib.Decide.{ℕ_discrete}
use borrow.Author.Tests.{ne_eqb, ltb-true}
use Rattle.loops.proofs.Tests.{clash}
use Rattle.kinds.specs.Names.{roots, word_of}
use Rattle.kinds.specs.declared.Name.{Name}
use Rattle.kinds.specs.declared.Handle.{Handle}
use Rattle.kinds.specs.Names.{Target}
use Rattle.std.specs.Prelude.{None, Some}
use Rattle.kinds.specs.declared.Operation.{Operation}
use Rattle.kinds.specs.declared.Operation.TheVariants.{New, Set, Val, Root}
use Rattle.kinds.specs.declared.Single.TheVariants.{Open, Trace, Close, Local, Hold, Drop}
use Rattle.kinds.specs.Answers.{allowed}
use Rattle.model.specs.Image.{Image, Key, anchor, handle, anchors, flag, state, payload, field, count, get, put, place, place_of, refer, Holder, an_anchor, a_field}
use Rattle.model.specs.Spread.{start, step}
use Rattle.model.specs.Acts.{Act, commit, single, local_bits, local_up, mark, store, born, perform, perform_all, open_up, target, inside, outside, finish, trace_one, apply}
use Rattle.model.specs.Judge.{judge_ops, led, judge}
use Rattle.model.specs.History.{Run, still, acted, Unclosed}
use Rattle.model.specs.Chains.{Names, Leads, Stays, Step, op, push, steps, birth, Above, bare, more, Since, last, before, Chain, from_anchor, created, stored_field, stored_root, stored_handle, along_held, to_opening, ChainTo}
use Rattle.model.proofs.Keys.{Fits, Sized, same, get_put_apart, sized_length}
use Rattle.model.proofs.Places.{slot_in, word_none, place_word}
use Rattle.model.proofs.Moves.{Linked, refer_state, refer_read}
use Rattle.model.proofs.Phase.{Phase, open_true, phase_mark, phase_payload, phase_born}
use Rattle.model.proofs.Tracing.{mark_read, mark_linked, trace_marks, phase_trace}
use Rattle.model.proofs.Committing.{check_true, then_true, May, none, some, Good, good_new, good_set, good_val, good_root, good, taking, good_hold, good_drop, at_field, no_field, target_used_lem, mark_word_keeps, store_open, phase_store}
use Rattle.model.proofs.Opening.{Shut, phase_open, open_marks, open_field}
use Rattle.model.proofs.Closing.{the_payload, the_field, led_leads, close_state, close_kept}
use Rattle.model.proofs.Reaching.{traced_is, closed_is, opened_is}
use Rattle.model.specs.Questions.{has_bit}
use Rattle.model.specs.Sound.{Limits, SoundAt}
use Rattle.model.proofs.Freeing.{of_state, Apart, free_same, free_phase, stayed, kept_ref}
use Rattle.model.proofs.SoundnessActs.{run_kept, local_in, local_apart}

renamed : {S : ℕ} {x y : Image} {κ : Key} {t : ℕ} → get y κ ≡ get x κ → Names S y κ t → Names S x κ t
renamed e n = record { some = λ q. n.some (e ∙ q); target = rw (← e) n.target }

module _ (P S : ℕ) (limits : Limits P S) where
  -- where 16 finds nothing, what a root or a handle leads to is marked
  leads_marked : (x : Image) → Linked P S x → led P S x ≡ true → (i : ℕ) → Leads S x i → (i < P * S) × (get x (state i) ≡ 2)
  leads_marked x w e i (start c) = rw (← c.2.target) ((w.refs _ (an_anchor c.1) c.2.some).0, led_leads P S x e _ (an_anchor c.1) tt c.2.some)
  leads_marked x w e i (step {i = j} c n) =
      let m = leads_marked x w e j c in
      let h = a_field m.0 n.1 in
      rw (← n.2.target) ((w.refs _ h n.2.some).0, led_leads P S x e _ h m.1 n.2.some)

  -- close keeps every object that a root or a handle leads to
  pub close_keeps : (x : Image) → Linked P S x → judge P S x (single Close) ≡ allowed → (i : ℕ) → Leads S x i → Stays x (apply P S x (single Close)) i
  unfolding apply
  close_keeps x w j i l =
      let m = leads_marked x w (closed_is P S limits x j).1 i l in
      let two = m.1 in
      let ne : get x (state i) ≢ 1 = λ q. omega arith in
      let s = close_state P S limits x w i m.0 in
      record {
        used = omega arith;
        value = close_kept P S limits x w the_payload m.0 ne;
        fields = λ k lk. close_kept P S limits x w (the_field lk) m.0 ne;
      }

  -- a mark adds one object to the marked
  mark_adds : (C : ℕ → Type 0) (z : Image) (t : ℕ) → t < P * S → C t → ((i : ℕ) → i < P * S → get z (state i) ≡ 2 → C i) → (i : ℕ) → i < P * S → get (mark S z t) (state i) ≡ 2 → C i
  mark_adds C z t l c old i m e = go (ℕ_discrete t i)
    where
      go : Dec (t ≡ i) → C i
      go (yes q) = rw q at c
      go (no q) = old i m (sym (mark_read P S limits z t (state i) l tt (ne_eqb t i q) refl) ∙ e)

  -- x is the heap at the opening, `base` the steps up to there
  module _ (x : Image) (base : List Step) (Taken : Step → List Step → Type 0) where
    abbrev ChainOf : List Step → ℕ → Type 0
    ChainOf h j = Chain S x base Taken j (birth S h j)

    record Chained (h : List Step) (y : Image) : Type 0 where
      phase : Phase P S y
      marks : (i : ℕ) → i < P * S → get y (state i) ≡ 2 → ChainOf h i
      -- a reference was stored since, or held at the opening between the same two objects
      refs : (i k t : ℕ) → i < P * S → k < 4 → Names S y (field i k) t → ChainOf h t ⊎ (Names S x (field i k) t × (birth S h i ≡ birth S base i) × (birth S h t ≡ birth S base t))

    follow_chain : (h : List Step) (y : Image) (i k t : ℕ) → Chained h y → i < P * S → k < 4 → ChainOf h i → Names S y (field i k) t → ChainOf h t
    follow_chain h y i k t c l m a n = ⊎_elim (λ b. b) (λ q. rw q.2 (along_held (rw q.1 at a) m q.0)) (c.refs i k t l m n)

    -- a step that creates nothing
    chained_births : (h g : List Step) (y : Image) → ((i : ℕ) → birth S g i ≡ birth S h i) → Chained h y → Chained g y
    chained_births h g y b c = record { phase = c.phase; marks = λ i l e. rw (b i) (c.marks i l e); refs = λ i k t l m n. rw (b i, b t) (c.refs i k t l m n) }

    -- a trace
    module _ (h : List Step) (y : Image) (c : Chained h y) (p : ℕ) (inp : p < P) where
      record Marking (z : Image) : Type 0 where
        linked : Linked P S z
        fields : (i k : ℕ) → k < 4 → get z (field i k) ≡ get y (field i k)
        marks : (i : ℕ) → i < P * S → get z (state i) ≡ 2 → ChainOf h i

      marking : Marking (outside S p (inside S p y))
      marking =
          trace_marks P S limits p inp Marking (λ z w. w.linked)
          (λ z i k l m a ne u w.
          let f = w.fields i k m in
          let n : Names S y (field i k) (target S z i k) = record { some = λ q. ne (f ∙ q); target = ap (place_of S) (sym f) } in
          record {
            linked = mark_linked P S limits z _ u w.linked;
            fields = λ b d ld. mark_read P S limits z _ (field b d) u ld refl refl ∙ w.fields b d ld;
            marks = mark_adds (ChainOf h) z _ u (follow_chain h y i k _ c l m (w.marks i l a) n) w.marks;
          })
          y (record { linked = c.phase.linked; fields = λ i k l. refl; marks = c.marks })

      chained_trace : get y (flag p) ≡ 0 → Chained h (trace_one S p y)
      unfolding trace_one finish birth
      chained_trace f =
          record {
            phase = phase_trace P S limits p inp y c.phase f;
            marks = λ i l e. marking.marks i l (sym (cell (state i) tt refl refl) ∙ e);
            refs = λ i k t l m n. c.refs i k t l m (renamed (cell (field i k) m refl refl ∙ marking.fields i k m) n);
          }
        where
          o : Image
          o = outside S p (inside S p y)

          cell : (μ : Key) → Fits μ → same (flag p) μ ≡ false → same count μ ≡ false → get (put (put o (flag p) 1) count (get o count + 1)) μ ≡ get o μ
          cell μ b d e = get_put_apart (put o (flag p) 1) count _ μ (omega arith) b e ∙ get_put_apart o (flag p) 1 μ (omega arith) b d

    chained_mark : (h : List Step) (y : Image) (t : ℕ) → t < P * S → ChainOf h t → Chained h y → Chained h (mark S y t)
    chained_mark h y t l a c =
        record {
          phase = phase_mark P S limits y t l c.phase;
          marks = mark_adds (ChainOf h) y t l a c.marks;
          refs = λ i k v li m n. c.refs i k v li m (renamed (mark_read P S limits y t (field i k) l m refl refl) n);
        }

    -- a reference stored
    chained_refer : (h : List Step) (y : Image) (κ : Key) (w : ℕ) → Holder (P * S) κ → (w ≢ 0 → ChainOf h (place_of S w)) → Phase P S (refer S y κ w) → Chained h y → Chained h (refer S y κ w)
    chained_refer h y κ w g a ph c =
        let z = c.phase.linked.size in
        record {
          phase = ph;
          marks = λ i l e. c.marks i l (sym (refer_state P S limits y κ w g z i) ∙ e);
          refs = λ i k t l m n.
              ⊎_elim (λ r. inl (rw (ap (place_of S) (sym r.0) ∙ n.target) at (a (λ q. n.some (r.0 ∙ q))))) (λ r. c.refs i k t l m (renamed r n))
              (refer_read P S limits y κ w g z (field i k) (a_field l m));
        }

    chained_store : (h : List Step) (y : Image) (κ : Key) (t : Target) → Holder (P * S) κ → ((i k : ℕ) → κ ≡ field i k → get y (state i) ≢ 0) → May P S y t
        → (word_of t ≢ 0 → ChainOf h (place_of S (word_of t))) → Chained h y → Chained h (store S y κ t)
    chained_store h y κ t g u m a c =
        let e = store_open P S limits y κ t c.phase in
        let d = mark_word_keeps P S limits (Chained h) y (word_of t) (λ ne. chained_mark h y _ (target_used_lem P S limits y t m ne).0 (a ne) c) (λ z. c) in
        subst (Chained h) e (chained_refer h _ κ (word_of t) g a (rw e (phase_store P S limits y κ t g u m c.phase)) d)

    -- what a stored target's word names
    stored_word : (h : List Step) (y : Image) (t : Target) → May P S y t → ((q : Name) → t ≡ Some q → ChainOf h (place S q)) → word_of t ≢ 0 → ChainOf h (place_of S (word_of t))
    stored_word h y _ none a ne = absurd (ne word_none)
    stored_word h y _ (some {q = q} lq ls u) a ne = rw (place_word S q (omega arith)) (a q refl)

    -- a root or a handle takes a target
    chained_anchor : (h : List Step) (y : Image) (a : ℕ) (t : Target) → a < anchors → May P S y t → ((q : Name) → t ≡ Some q → ChainOf h (place S q)) → Chained h y → Chained h (store S y (anchor a) t)
    chained_anchor h y a t l m b c = chained_store h y (anchor a) t (an_anchor l) (no_field (λ j. get y (state j) ≢ 0)) m (stored_word h y t m b) c

    chained_new : (h : List Step) (y : Image) (n : Name) (v : ℕ) → n.partition.0 < P → n.slot.0 < S → get y (state (place S n)) ≡ 0 → Taken (op (New n v)) h → Chained h y
        → Chained (op (New n v) ∷ h) (born y (place S n) v)
    unfolding born birth
    chained_new h y n v lp ls e tk c =
        record {
          phase = phase_born P S limits y i v l e c.phase;
          marks = λ j lj m. now j lj m (ℕ_discrete i j);
          refs = λ j k t lj m n.
              let n' : Names S y (field j k) t = renamed (field_kept j k m) n in
              let ij : i ≢ j = λ q. n'.some (c.phase.linked.free j k lj m (rw (← q) e)) in
              let it : i ≢ t = λ q. (c.phase.linked.refs (field j k) (a_field lj m) n'.some).1 (rw (n'.target, ← q) e) in
              rw (same_birth j ij, same_birth t it) (c.refs j k t lj m n');
        }
      where
        i : ℕ
        i = place S n

        l : i < P * S
        l = slot_in P S limits.some_slot _ _ lp ls

        same_birth : (j : ℕ) → i ≢ j → birth S (op (New n v) ∷ h) j ≡ birth S h j
        same_birth j ne = rw (ne_eqb i j ne)

        field_kept : (j k : ℕ) → k < 4 → get (born y i v) (field j k) ≡ get y (field j k)
        field_kept j k m = get_put_apart _ (payload i) v (field j k) tt m refl ∙ get_put_apart y (state i) _ (field j k) tt m refl

        now : (j : ℕ) → j < P * S → get (born y i v) (state j) ≡ 2 → Dec (i ≡ j) → ChainOf (op (New n v) ∷ h) j
        now j lj m (yes q) = subst (ChainOf (op (New n v) ∷ h)) q (created tk)
        now j lj m (no q) =
            rw (same_birth j q) (c.marks j lj (sym (get_put_apart _ (payload i) v (state j) tt tt refl ∙ get_put_apart y (state i) _ (state j) tt tt (ne_eqb i j q)) ∙ m))

    chained_perform : (h : List Step) (y : Image) (o : Operation) → Good P S y o → Taken (op o) h → Chained h y → Chained (op o ∷ h) (perform S y o)
    unfolding perform birth
    chained_perform h y _ (good_new {n = n} {v = v} lp ls e) tk c = chained_new h y n v lp ls e tk c
    chained_perform h y _ (good_set {n = n} {k = k} {t = t} lp ls lk u m) tk c =
        chained_births h (op (Set n k t) ∷ h) _ (λ i. refl)
        (chained_store h y _ _ (a_field (slot_in P S limits.some_slot _ _ lp ls) lk) (at_field (λ j. get y (state j) ≢ 0) u) m (stored_word h y t m (λ q e. stored_field (rw e at tk))) c)
    chained_perform h y _ (good_val {n = n} {v = v} lp ls u) tk c =
        chained_births h (op (Val n v) ∷ h) _ (λ i. refl)
        (record {
          phase = phase_payload P S limits y _ _ (slot_in P S limits.some_slot _ _ lp ls) c.phase;
          marks = λ i l e. c.marks i l (sym (get_put_apart y (payload (place S n)) v (state i) tt tt refl) ∙ e);
          refs = λ i k t l m n'. c.refs i k t l m (renamed (get_put_apart y (payload (place S n)) v (field i k) tt m refl) n');
        })
    chained_perform h y _ (good_root {r = r} {t = t} lr m) tk c =
        chained_births h (op (Root r t) ∷ h) _ (λ i. refl) (chained_anchor h y r t lr m (λ q e. stored_root (rw e at tk)) c)

    -- hold and drop
    chained_take : (h : List Step) (y : Image) (g : Handle) (t : Target) → Good P S y (taking g t) → ((q : Name) → t ≡ Some q → ChainOf h (place S q)) → Chained h y → Chained h (store S y (handle g.0) t)
    chained_take h y g _ (good_root {t = t} l m) b c = chained_anchor h y (roots + g.0) t l m b c

    -- a local collection: no birth changes
    chained_local : (h : List Step) (y : Image) (p : ℕ) (l : p < P) (s : SoundAt P S y) → Chained h y → Chained h (local_up P S p y)
    unfolding local_up
    chained_local h y p l s c =
        record {
          phase = free_phase P S limits S at stay inn y z a c.phase;
          marks = λ i li e. c.marks i li (sym (free_same P S limits S at stay inn y z a i (state i) of_state (stayed P S limits S at stay inn y z a i (λ q. omega arith))) ∙ e);
          refs = λ i k t li m n. c.refs i k t li m (renamed (kept_ref P S limits S at stay inn y z a (field i k) (a_field li m) n.some).0 n);
        }
      where
        at : ℕ → ℕ
        at i = p * S + i

        stay : ℕ → Bool
        stay = has_bit (local_bits P S p y)

        inn : (j : ℕ) → j < S → at j < P * S
        inn = local_in P S y s p l

        z : Sized (P * S) y
        z = sized_length P S y s.length_agrees

        a : Apart P S S at stay y
        a = local_apart P S y s p l

    -- what was taken since is taken since in a longer history
    since_push : (os : List Operation) (h : List Step) (s : Step) (e : List Step) → Since base h s e → Since base (push os h) s e
    unfolding push
    since_push [] h s e q = q
    since_push (o ∷ os) h s e q = since_push os (op o ∷ h) s e (before q)

    above_push : (os : List Operation) (h : List Step) → Above base h → Above base (push os h)
    unfolding push
    above_push [] h a = a
    above_push (o ∷ os) h a = above_push os (op o ∷ h) (more a)

    above_steps : (acts : List Act) → Above base (steps acts base)
    unfolding steps
    above_steps [] = bare
    above_steps (commit os ∷ acts) = above_push os _ (above_steps acts)
    above_steps (single a ∷ acts) = more (above_steps acts)

    chained_commit : (h : List Step) (y : Image) (e : ℕ) (os : List Operation) → judge_ops P S y e os ≡ allowed → ((s : Step) (f : List Step) → Since base (push os h) s f → Taken s f) → Above base h
        → Chained h y → Chained (push os h) (perform_all S y os)
    unfolding judge_ops perform_all push
    chained_commit h y e [] j sub a c = c
    chained_commit h y e (o ∷ os) j sub a c =
        let b = then_true _ _ j in
        chained_commit (op o ∷ h) (perform S y o) (e + 1) os b.1 sub (more a)
        (chained_perform h y o (good P S y e o b.0) (sub (op o) h (since_push os (op o ∷ h) (op o) h (last a))) c)

    chained_open : Shut P S limits x → Chained base (open_up P S x)
    chained_open sh =
        record {
          phase = phase_open P S limits x sh.linked;
          marks = λ i l e. let q = open_marks P S limits x sh i l e in from_anchor q.1 q.2;
          refs = λ i k t l m n. inr (renamed (open_field P S limits x sh.linked i k l m) n, refl, refl);
        }

    chained : Shut P S limits x → SoundAt P S (apply P S x (single Open)) → (acts : List Act) (y : Image) → Run P S (apply P S x (single Open)) acts y → Unclosed acts
        → ((s : Step) (e : List Step) → Since base (steps acts base) s e → Taken s e) → Chained (steps acts base) y
    unfolding steps judge apply birth
    chained sh so _ _ still u sub = chained_open sh
    chained sh so _ _ (acted {acts = acts} {y = y} (commit os) r j) u sub =
        chained_commit (steps acts base) y 1 os (check_true _ _ _ _ j).1 sub (above_steps acts) (chained sh so acts y r u (λ s e q. sub s e (since_push os _ s e q)))
    chained sh so _ _ (acted {acts = acts} {y = y} (single Open) r j) u sub =
        absurd (clash (open_true P S limits y (chained sh so acts y r u (λ s e q. sub s e (before q))).phase) (opened_is P S limits y j))
    chained sh so _ _ (acted {acts = acts} {y = y} (single (Trace p)) r j) u sub =
        let t = traced_is P S limits y p j in
        chained_births (steps acts base) _ _ (λ i. refl) (chained_trace _ y (chained sh so acts y r u (λ s e q. sub s e (before q))) p.0 t.1 t.2)
    chained sh so _ _ (acted {acts = acts} {y = y} (single Close) r j) u sub = absurd u
    chained sh so _ _ (acted {acts = acts} {y = y} (single (Local p)) r j) u sub =
        chained_births (steps acts base) _ _ (λ i. refl)
        (chained_local (steps acts base) y p.0 (ltb-true p.0 P (check_true _ _ _ _ j).0) (run_kept P S _ so r).sound (chained sh so acts y r u (λ s e q. sub s e (before q))))
    chained sh so _ _ (acted {acts = acts} {y = y} (single (Hold h n)) r j) u sub =
        chained_births (steps acts base) _ _ (λ i. refl)
        (chained_take (steps acts base) y h (Some n) (good_hold P S y h n j)
        (λ q e. let d : n ≡ q = cc in rw (← d) (stored_handle (sub _ _ (last (above_steps acts))))) (chained sh so acts y r u (λ s e q. sub s e (before q))))
    chained sh so _ _ (acted {acts = acts} {y = y} (single (Drop h)) r j) u sub =
        chained_births (steps acts base) _ _ (λ i. refl)
        (chained_take (steps acts base) y h None (good_drop P S y h j) (λ q e. let z : ◌≡◌ {A = ℕ} 0 1 = cc in absurd (omega arith)) (chained sh so acts y r u (λ s e q. sub s e (before q))))

  -- close frees every object that no chain leads to
  pub close_frees : (earlier : List Act) (x : Image) → Shut P S limits x → SoundAt P S (apply P S x (single Open)) → (acts : List Act) (y : Image) → Run P S (apply P S x (single Open)) acts y → Unclosed acts
      → (i : ℕ) → i < P * S → (ChainTo S earlier x acts i → ⊥) → get (apply P S y (single Close)) (state i) ≡ 0
  unfolding apply
  close_frees earlier x sh so acts y s u i l unchained =
      let c = chained x (to_opening earlier) _ sh so acts y s u (λ s e q. q) in
      let two : get y (state i) ≢ 2 = λ q. unchained (c.marks i l q) in
      let b = c.phase.linked.states i l in
      let e = close_state P S limits y c.phase.linked i l in
      omega arith
