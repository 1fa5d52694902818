-- What each accepted act makes of every word of the image (specs/Effects.antt), on any sound image, and that no second image is so: what an act writes is
-- there, and every word is written or as it was, but the counts, which are right.
-- Assumes nothing.
use Prim.Native.Nat.{ℕ, zero, suc, ◌+◌, ◌*◌, ◌-◌, ◌≤◌, ◌<◌}
use mathlib.Core.Path.{◌≡◌, refl, sym, ap, ◌∙◌, subst}
use mathlib.Core.Bool.{Bool, true, false, not, cond}
use mathlib.Core.List.{List, [], ◌∷◌}
use mathlib.Core.Logic.{◌≢◌, ◌⊎◌, inl, inr, ⊎_elim}
use native.Mathlib.Omega.{arith}
use native.Mathlib.Decide.{ℕ_discrete}
use lib.Dec.{eqb}
use borrow.Author.Tests.{eqb-true, eqb-false, eq-eqb, ne_eqb, ltb-true, not-true}
use Rattle.loops.specs.Loop.{both}
use Rattle.loops.proofs.Tests.{clash, eq_or_ne}
use Rattle.loops.proofs.Loops.{tally_same}
use Rattle.kinds.specs.Names.{most_partitions, word_of}
use Rattle.kinds.specs.declared.Name.{Name}
use Rattle.kinds.specs.declared.Handle.{Handle}
use Rattle.kinds.specs.Names.{Target}
use Rattle.std.specs.Prelude.{None, Some}
use Rattle.kinds.specs.declared.Operation.{Operation}
use Rattle.kinds.specs.declared.Operation.TheVariants.{New, Set, Val, Root}
use Rattle.kinds.specs.declared.Single.TheVariants.{Open, Trace, Close, Local, Hold, Drop}
use Rattle.kinds.specs.Answers.{allowed}
use Rattle.model.specs.Image.{Image, Key, head, anchor, handle, flag, state, payload, inlist, field, is_count, phase, count, allowance, get, put, length_of, size, place, place_of, part_of, Holder, an_anchor, a_field}
use Rattle.model.specs.Spread.{Reach, start, step}
use Rattle.model.specs.Acts.{Act, commit, single, marked, is_open, mark, mark_word, store, born, perform, perform_all, unmarked, mark_anchors, open_up, inside, outside, finish, trace_one, close_up, apply, own, foreign, target}
use Rattle.model.specs.Judge.{judge_ops, judge}
use Rattle.model.specs.Chains.{Names}
use Rattle.model.specs.Sound.{Limits, SoundAt}
use Rattle.model.specs.Effects.{In, Leaves, Stores, Unmarked, Performs, new_state, new_payload, new_field, val, set, root_to, marks_stored, uncleans_stored, Performed, Committed, nothing_more, and_then}
use Rattle.model.specs.Effects.{Opens, marks_anchored, uncleans_all, opens, restarts, allows, Opened, Within, Beyond, Traces, marks_within, marks_beyond, uncleans_beyond, cleans, counts, Closes, frees, frees_payload, frees_field, unmarks, shuts, flags_down, freed}
use Rattle.model.specs.Effects.{Takes, takes, marks_held, uncleans_held, Took, Effect}
use Rattle.model.proofs.Keys.{Fits, NoCount, same, in_fits, get_put_apart, sized_put, words_same, sized_length}
use Rattle.model.proofs.Places.{parts, part_of_lem, slot_in, slot_of, word_none, place_word}
use Rattle.model.proofs.Holders.{holder_in, holder_state, holder_flag}
use Rattle.model.proofs.Moves.{Linked, new_mark_state, new_mark_flag, mark_keeps, unclean_other, unclean_flag}
use Rattle.model.proofs.Tracing.{mark_read, mark_linked, mark_marks, mark_flag, MoreMarks, more_none, more_mark, more_field, pass_marks, spread_marks, more_inside, more_outside, Own, inside_all, outside_all}
use Rattle.model.proofs.Committing.{check_true, then_true, May, none, some, Good, good_new, good_set, good_val, good_root, good, taking, good_hold, good_drop, target_used_lem, mark_word_keeps}
use Rattle.model.proofs.Opening.{started, ready_anchors, anchors_marked, open_other, open_count, open_allowance, open_started, anchors_keep}
use Rattle.model.proofs.Closing.{Content, the_payload, the_field, close_phase, close_count, close_allowance, close_flag, close_state, close_freed, close_kept, close_anchor}
use Rattle.model.proofs.SoundnessMoves.{Written, put_written, refer_written, written_read, sound_linked}
use Rattle.model.proofs.SoundnessActs.{act_sound, act_partitions, act_slots, holds_perform}
use Rattle.model.proofs.Counting.{count_reads}
use Rattle.model.proofs.Collecting.{localized}
use Rattle.model.proofs.Reaching.{traced_is}

-- something is written at κ
abbrev SomeValue : (Key → ℕ → Type 0) → Key → Type 0
SomeValue W κ = (v : ℕ) × W κ v

module _ (W : Key → ℕ → Type 0) (x : Image) where
  -- every word of y is written, or as in x
  abbrev Others : Image → Type 0
  Others y = (μ : Key) → Fits μ → NoCount μ → SomeValue W μ ⊎ (get y μ ≡ get x μ)

  others_none : Others x
  others_none μ f c = inr refl

  others_put : {n : ℕ} {y z : Image} {κ : Key} {v : ℕ} → SomeValue W κ → Written n y κ v z → Others y → Others z
  others_put e w o μ f c = ⊎_elim (λ q. inl (subst (SomeValue W) q.0 e)) (λ q. ⊎_elim (λ r. inl r) (λ r. inr (q ∙ r)) (o μ f c)) (written_read w μ f c)

  -- x with more marks: a state that changed is a mark, and its partition is not clean
  module _ (P S : ℕ) (limits : Limits P S) where
    abbrev Newly : Image → ℕ → Type 0
    Newly z j = (get z (state j) ≡ get x (state j)) ⊎ ((get z (state j) ≡ 2) × (get z (flag (part_of S j)) ≡ 0))

    record Marking (z : Image) : Type 0 where
      more : MoreMarks P S limits x z
      states : (j : ℕ) → j < P * S → Newly z j
      others : Others z

    marking_none : Linked P S x → Marking x
    marking_none w = record { more = more_none P S limits x w; states = λ j l. inl refl; others = others_none }

    part_small : (j : ℕ) → j < P * S → part_of S j < most_partitions
    part_small j l = omega (arith, parts P S limits.some_slot j l)

    marking_mark : (z : Image) (t : ℕ) → t < P * S → (get x (state t) ≡ 1 → SomeValue W (state t) × SomeValue W (flag (part_of S t))) → Marking z → Marking (mark S z t)
    marking_mark z t l h g =
        record {
          more = more_mark P S limits x z t l g.more;
          states = λ j m. go j m (ℕ_discrete t j);
          others = mark_keeps P S limits Others z t (λ e. let s = h (was e (g.states t l)) in others_put s.0 (put_written (P * S) _ (state t) 2 down.sized l) (others_put s.1 down g.others)) (λ ne. g.others);
        }
      where
        down : Written (P * S) z (flag (part_of S t)) 0 (put z (flag (part_of S t)) 0)
        down = put_written (P * S) z (flag (part_of S t)) 0 g.more.linked.size (part_small t l)

        was : get z (state t) ≡ 1 → Newly z t → get x (state t) ≡ 1
        was e (inl s) = sym s ∙ e
        was e (inr s) = absurd (omega arith)

        go : (j : ℕ) → j < P * S → Dec (t ≡ j) → Newly (mark S z t) j
        go j m (yes q) =
            subst (Newly (mark S z t)) q
            (mark_keeps P S limits (λ y. Newly y t) z t (λ e. inr (new_mark_state P S limits z t l g.more.linked.size, new_mark_flag P S limits z t l g.more.linked.size)) (λ ne. g.states t l))
        go j m (no q) =
            rw (mark_read P S limits z t (state j) l tt (ne_eqb t j q) refl)
            (⊎_elim (λ s. inl s) (λ s. inr (s.0, mark_flag P S limits z t (part_of S j) l (part_small j m) g.more.linked s.1)) (g.states j m))

-- a word of the head
head_cases : (Q : ℕ → Type 0) → Q 0 → Q 1 → Q 2 → Q 3 → Q 4 → (h : ℕ) → h < 5 → Q h
head_cases Q a b c d e zero l = a
head_cases Q a b c d e (suc zero) l = b
head_cases Q a b c d e (suc (suc zero)) l = c
head_cases Q a b c d e (suc (suc (suc zero))) l = d
head_cases Q a b c d e (suc (suc (suc (suc zero)))) l = e
head_cases Q a b c d e (suc (suc (suc (suc (suc h))))) l = absurd (omega arith)

module _ (P S : ℕ) (x : Image) (s : SoundAt P S x) where
  limits : Limits P S
  limits = s.limits

  linked : Linked P S x
  linked = sound_linked P S x s

  -- COMMIT: what an operation writes stands in y, and every word of y is written or as in x
  record Words (o : Operation) (y : Image) : Type 0 where
    written : (κ : Key) (v : ℕ) → In (P * S) κ → Performs S x o κ v → get y κ ≡ v
    others : Others (Performs S x o) x y

  -- an object is born
  module _ (n : Name) (v : ℕ) (l : place S n < P * S) (free : get x (state (place S n)) ≡ 0) where
    in_use : Written (P * S) x (state (place S n)) (cond (is_open x) 2 1) (put x (state (place S n)) (cond (is_open x) 2 1))
    in_use = put_written (P * S) x (state (place S n)) _ linked.size l

    alive : Written (P * S) (put x (state (place S n)) (cond (is_open x) 2 1)) (payload (place S n)) v (born x (place S n) v)
    unfolding born
    alive = put_written (P * S) _ (payload (place S n)) v in_use.sized l

    new_words : Words (New n v) (born x (place S n) v)
    new_words = record { written = go; others = others_put W x (v, new_payload) alive (others_put W x (_, new_state) in_use (others_none W x)) }
      where
        W : Key → ℕ → Type 0
        W = Performs S x (New n v)

        go : (κ : Key) (w : ℕ) → In (P * S) κ → Performs S x (New n v) κ w → get (born x (place S n) v) κ ≡ w
        go _ _ i new_state = alive.others (state (place S n)) tt refl ∙ in_use.here
        go _ _ i new_payload = alive.here
        go _ _ i (new_field {k = k}) =
            alive.others (field (place S n) k) i.1 refl ∙ in_use.others (field (place S n) k) i.1 refl ∙ (s.free_slots (place S n) l free).fields k i.1
        go _ _ i (marks_stored t d) = absurd t
        go _ _ i (uncleans_stored t d) = absurd t

  val_words : (n : Name) (v : ℕ) → place S n < P * S → Words (Val n v) (put x (payload (place S n)) v)
  val_words n v l = record { written = go; others = others_put (Performs S x (Val n v)) x (v, val) a (others_none (Performs S x (Val n v)) x) }
    where
      a : Written (P * S) x (payload (place S n)) v (put x (payload (place S n)) v)
      a = put_written (P * S) x (payload (place S n)) v linked.size l

      go : (κ : Key) (w : ℕ) → In (P * S) κ → Performs S x (Val n v) κ w → get (put x (payload (place S n)) v) κ ≡ w
      go _ _ i val = a.here
      go _ _ i (marks_stored t d) = absurd t
      go _ _ i (uncleans_stored t d) = absurd t

  -- a target that is stored: its numbers and its place
  record Place (t : Target) (q : Name) : Type 0 where
    is : t ≡ Some q
    partition : q.partition.0 < P
    slot : q.slot.0 < S
    word : place_of S (word_of t) ≡ place S q

  may_place : (t : Target) → May P S x t → word_of t ≢ 0 → (q : Name) × Place t q
  may_place _ none ne = absurd (ne word_none)
  may_place _ (some {q = q} l m u) ne = (q, record { is = refl; partition = l; slot = m; word = place_word S q (omega (arith, s.limits.slots_most)) })

  object_word_lem : (q : Name) → word_of (Some q) ≢ 0
  unfolding word_of
  object_word_lem q e = omega arith

  -- an operation that stores a target
  data Storing : Operation → Key → Target → Type 0 where
    by_set : {n : Name} {k : ℕ} {t : Target} → Storing (Set n k t) (field (place S n) k) t
    by_root : {r : ℕ} {t : Target} → Storing (Root r t) (anchor r) t

  storing_writes : {o : Operation} {κ : Key} {t : Target} → Storing o κ t → Performs S x o κ (word_of t)
  storing_writes by_set = set
  storing_writes by_root = root_to

  storing_stores : {o : Operation} {κ : Key} {t : Target} → Storing o κ t → (q : Name) → (t ≡ Some q → Stores o q) × (Stores o q → t ≡ Some q)
  storing_stores by_set q = ((λ e. e), (λ e. e))
  storing_stores by_root q = ((λ e. e), (λ e. e))

  -- what it writes: the target's word, and where the target is newly marked, its mark and its partition's flag
  storing_only : {o : Operation} {κ : Key} {t : Target} → Storing o κ t → (y : Image) → get y κ ≡ word_of t
      → ((q : Name) → Stores o q → Unmarked S x q → (get y (state (place S q)) ≡ 2) × (get y (flag q.partition.0) ≡ 0)) → (μ : Key) (v : ℕ) → Performs S x o μ v → get y μ ≡ v
  storing_only by_set y a m _ _ set = a
  storing_only by_set y a m _ _ (marks_stored {q = q} b d) = (m q b d).0
  storing_only by_set y a m _ _ (uncleans_stored {q = q} b d) = (m q b d).1
  storing_only by_root y a m _ _ root_to = a
  storing_only by_root y a m _ _ (marks_stored {q = q} b d) = (m q b d).0
  storing_only by_root y a m _ _ (uncleans_stored {q = q} b d) = (m q b d).1

  module _ (o : Operation) (κ : Key) (t : Target) (c : Storing o κ t) (h : Holder (P * S) κ) (may : May P S x t) where
    -- while a phase is open the target is marked first
    before : Image
    before = cond (is_open x) (mark_word S x (word_of t)) x

    target_marking : Marking (Performs S x o) x P S limits before
    unfolding before
    target_marking = go (is_open x) refl
      where
        bare : Marking (Performs S x o) x P S limits x
        bare = marking_none (Performs S x o) x P S limits linked

        go : (b : Bool) → is_open x ≡ b → Marking (Performs S x o) x P S limits (cond b (mark_word S x (word_of t)) x)
        go true e =
            mark_word_keeps P S limits (Marking (Performs S x o) x P S limits) x (word_of t)
            (λ ne.
            let p = may_place t may ne in
            marking_mark (Performs S x o) x P S limits x _ (target_used_lem P S limits x t may ne).0
            (λ one.
            let b = (storing_stores c p.0).0 p.1.is in
            let d : Unmarked S x p.0 = record { opened = eqb-true _ _ e; unmarked = rw p.1.word at one } in
            rw (p.1.word, part_of_lem P S limits.some_slot _ _ p.1.slot) ((2, marks_stored b d), (0, uncleans_stored b d)))
            bare)
            (λ z. bare)
        go false e = bare

    module _ (q : Name) (b : Stores o q) (d : Unmarked S x q) where
      target_place : Place t q
      target_place =
          let e : t ≡ Some q = (storing_stores c q).1 b in
          let p = may_place t may (λ z. object_word_lem q (ap word_of (sym e) ∙ z)) in
          let i : t ≡ Some p.0 = p.1.is in
          let r : p.0 ≡ q = cc in
          subst (Place t) r p.1

      target_state : get before (state (place S q)) ≡ 2
      unfolding before
      target_state =
          let p = target_place in
          rw (eq-eqb _ _ d.opened)
          (mark_word_keeps P S limits (λ z. get z (state (place S q)) ≡ 2) x (word_of t)
          (λ ne. let u = target_used_lem P S limits x t may ne in subst (λ (v : ℕ). get (mark S x (place_of S (word_of t))) (state v) ≡ 2) p.word (mark_marks P S limits x _ u.0 linked u.1))
          (λ z. absurd (object_word_lem q (ap word_of (sym p.is) ∙ z))))

      target_flag : get before (flag q.partition.0) ≡ 0
      target_flag =
          let p = target_place in
          let l : place S q < P * S = slot_in P S limits.some_slot _ _ p.partition p.slot in
          let two = target_state in
          let one = d.unmarked in
          rw (part_of_lem P S limits.some_slot _ _ p.slot) at (⊎_elim (λ e. absurd (omega arith)) (λ e. e.1) (target_marking.states (place S q) l))

    store_words : Words o (store S x κ t)
    unfolding before store
    store_words =
        let a : Written (P * S) before κ (word_of t) (store S x κ t) = refer_written (P * S) _ κ (word_of t) target_marking.more.linked.size (holder_in h) S in
        record {
          written = λ μ v i e.
              storing_only c (store S x κ t) a.here
              (λ q b d. (
                a.others (state (place S q)) tt (holder_state h _) ∙ target_state q b d,
                a.others (flag q.partition.0) (omega (arith, (target_place q b d).partition, limits.partitions_most)) (holder_flag h _) ∙ target_flag q b d,
              )) μ v e;
          others = others_put (Performs S x o) x (word_of t, storing_writes c) a target_marking.others;
        }

  -- one operation
  words : (o : Operation) → Good P S x o → Words o (perform S x o)
  unfolding perform
  words _ (good_new {n = n} {v = v} l m e) = new_words n v (slot_in P S limits.some_slot _ _ l m) e
  words _ (good_set {n = n} {k = k} {t = t} l m b u d) = store_words _ _ t by_set (a_field (slot_in P S limits.some_slot _ _ l m) b) d
  words _ (good_val {n = n} {v = v} l m u) = val_words n v (slot_in P S limits.some_slot _ _ l m)
  words _ (good_root {t = t} l d) = store_words _ _ t by_root (an_anchor l) d

  pub performed : (o : Operation) → Good P S x o → Performed P S x o (perform S x o)
  performed o g =
      let w = words o g in
      let y = (holds_perform P S x o g s).sound in
      record { written = w.written; others = λ κ i c. w.others κ (in_fits (P * S) κ i) c; right = y.right; length = y.length_agrees ∙ sym s.length_agrees }

  -- OPEN
  open_flag : (p : ℕ) → p < most_partitions → get (open_up P S x) (flag p) ≡ 0
  open_flag p l =
      open_other P S limits x (flag p) l refl refl ∙
      (anchors_keep P S limits (λ z. Linked P S z × (get z (flag p) ≡ 0)) (λ z q. q.0) (λ z t m q. (mark_linked P S limits z t m q.0, mark_flag P S limits z t p m l q.0 q.1)) _
      (open_started P S limits x linked, unclean_flag (P * S) _ (sized_put _ _ _ _ linked.size) p l)).1

  open_kept : (μ : Key) → Fits μ → ((j : ℕ) → same (state j) μ ≡ false) → ((p : ℕ) → same (flag p) μ ≡ false) → ((h : ℕ) → 2 ≤ h → same (head h) μ ≡ false) → get (open_up P S x) μ ≡ get x μ
  open_kept μ f a b c =
      open_other P S limits x μ f (c 3 (omega arith)) (c 4 (omega arith)) ∙
      (anchors_keep P S limits (MoreMarks P S limits (started P S limits x)) (λ z q. q.linked) (λ z t m q. more_mark P S limits _ z t m q) _ (more_none P S limits _ (open_started P S limits x linked))).words μ f a b ∙
      unclean_other _ μ f b ∙ get_put_apart x phase 1 μ (omega arith) f (c 2 (omega arith))

  open_written : (κ : Key) (v : ℕ) → In (P * S) κ → Opens P S x (open_up P S x) κ v → get (open_up P S x) κ ≡ v
  unfolding unmarked
  open_written _ _ i (marks_anchored {a = r} l n) =
      open_other P S limits x (state _) tt refl refl ∙ subst (λ (t : ℕ). get (mark_anchors S (started P S limits x)) (state t) ≡ 2) n.target (anchors_marked P S limits x linked r l n.some)
  open_written _ _ i (uncleans_all {p = p}) = open_flag p i
  open_written _ _ i opens = open_other P S limits x phase (omega arith) refl refl ∙ (ready_anchors P S limits x linked).opened
  open_written _ _ i restarts = open_count P S limits x linked
  open_written _ _ i allows =
      open_allowance P S limits x linked ∙
      ap (λ (n : ℕ). P + n) (tally_same (P * S) _ _ (λ j l. ap (λ (v : ℕ). eqb v 1) (sym (open_other P S limits x (state j) tt refl refl))))

  open_others : (κ : Key) → In (P * S) κ → NoCount κ → SomeValue (Opens P S x (open_up P S x)) κ ⊎ (get (open_up P S x) κ ≡ get x κ)
  open_others (head h) i c =
      head_cases (λ h. SomeValue (Opens P S x (open_up P S x)) (head h) ⊎ (get (open_up P S x) (head h) ≡ get x (head h)))
      (inr (open_kept (head 0) (omega arith) (λ j. refl) (λ p. refl) (λ h l. ne_eqb h 0 (λ e. omega arith))))
      (inr (open_kept (head 1) (omega arith) (λ j. refl) (λ p. refl) (λ h l. ne_eqb h 1 (λ e. omega arith)))) (inl (1, opens)) (inl (0, restarts)) (inl (_, allows)) h i
  open_others (anchor r) i c = inr (open_kept (anchor r) i (λ j. refl) (λ p. refl) (λ h l. refl))
  open_others (flag p) i c = inl (0, uncleans_all)
  open_others (state j) i c =
      let e = open_other P S limits x (state j) tt refl refl in
      ⊎_elim (λ q. inr (e ∙ q)) (λ q. inl (2, marks_anchored q.1.1 q.1.2)) ((ready_anchors P S limits x linked).states j)
  open_others (payload j) i c = inr (open_kept (payload j) tt (λ j. refl) (λ p. refl) (λ h l. refl))
  open_others (field j k) i c = inr (open_kept (field j k) i.1 (λ j. refl) (λ p. refl) (λ h l. refl))
  open_others (inlist j) i c = absurd (clash refl c)

  -- TRACE
  module _ (p : ℕ) (inp : p < P) where
    -- while its marks are made: what is marked in p is of the least set
    record Going (z : Image) : Type 0 where
      marking : Marking (Traces S p x) x P S limits z
      within : (i : ℕ) → part_of S i ≡ p → get z (state i) ≡ 2 → Within S p x i

    going_mark : (z : Image) (t : ℕ) → t < P * S → (get x (state t) ≡ 1 → SomeValue (Traces S p x) (state t) × SomeValue (Traces S p x) (flag (part_of S t))) → (part_of S t ≡ p → Within S p x t)
        → Going z → Going (mark S z t)
    going_mark z t l h r g = record { marking = marking_mark (Traces S p x) x P S limits z t l h g.marking; within = λ i near two. go i near two (ℕ_discrete t i) }
      where
        go : (i : ℕ) → part_of S i ≡ p → get (mark S z t) (state i) ≡ 2 → Dec (t ≡ i) → Within S p x i
        go i near two (yes q) = subst (Within S p x) q (r (ap (part_of S) q ∙ near))
        go i near two (no q) = g.within i near (sym (mark_read P S limits z t (state i) l tt (ne_eqb t i q) refl) ∙ two)

    renamed : (z : Image) (i k : ℕ) → Going z → k < 4 → get z (field i k) ≢ 0 → Names S x (field i k) (target S z i k)
    renamed z i k g m ne =
        let f = more_field P S limits x z g.marking.more i k m in
        record { some = λ q. ne (f ∙ q); target = ap (place_of S) (sym f) }

    going : Going (outside S p (inside S p x))
    unfolding inside outside
    going =
        pass_marks P S limits p inp (foreign S p) Going (λ z g. g.marking.more.linked)
        (λ z i k l m near two ne c u g.
        let far : part_of S (target S z i k) ≢ p = eqb-false _ _ (not-true _ c) in
        going_mark z _ u
        (λ one.
        let b : Beyond S p x (target S z i k) = record { holder = i; k = k; within = g.within i near two; small = m; names = renamed z i k g m ne; far = far; unmarked = one } in
        ((2, marks_beyond b), (0, uncleans_beyond b)))
        (λ e. absurd (far e)) g) _
        (spread_marks P S limits p inp (own S p) Going (λ z g. g.marking.more.linked)
        (λ z i k l m near two ne c u g.
        let here : part_of S (target S z i k) ≡ p = eqb-true _ _ c in
        let w : Within S p x (target S z i k) = step (g.within i near two) (k, m, renamed z i k g m ne, here) in
        going_mark z _ u (λ one. ((2, marks_within w), (1, rw here cleans))) (λ e. w) g) x
        (record { marking = marking_none (Traces S p x) x P S limits linked; within = λ i near two. start (near, two) }))

    within_part : {i : ℕ} → Within S p x i → part_of S i ≡ p
    within_part (start h) = h.0
    within_part (step r e) = e.3

    within_reach : {i : ℕ} → Within S p x i → Reach (λ v. marked x v ≡ true) (Own P S limits p inp x) i
    unfolding Own
    within_reach (start h) = start (eq-eqb _ _ h.1)
    within_reach (step r e) = step (within_reach r) (e.0, e.1, within_part r, e.3, e.2)

    within_marked : {i : ℕ} → Within S p x i → get (inside S p x) (state i) ≡ 2
    within_marked {i} w = eqb-true _ _ (inside_all P S limits p inp x linked i (within_reach w))

    module _ {j : ℕ} (b : Beyond S p x j) where
      beyond_in : j < P * S
      beyond_in =
          let h = slot_of P S limits.some_slot _ p (within_part b.within) in
          let l : b.holder < P * S = rw h.2 at (slot_in P S limits.some_slot p h.0 inp h.1) in
          rw b.names.target at (linked.refs (field b.holder b.k) (a_field l b.small) b.names.some).0

      beyond_marked : get (outside S p (inside S p x)) (state j) ≡ 2
      beyond_marked =
          let g = more_inside P S limits p inp x linked in
          let f = more_field P S limits x _ g b.holder b.k b.small in
          outside_all P S limits p inp (inside S p x) g.linked j
          (record {
            holder = b.holder;
            k = b.k;
            small = b.small;
            near = within_part b.within;
            two = within_marked b.within;
            names = record { some = λ q. b.names.some (sym f ∙ q); target = ap (place_of S) f ∙ b.names.target };
            far = b.far;
          })

      beyond_flag : get (outside S p (inside S p x)) (flag (part_of S j)) ≡ 0
      beyond_flag = let two = beyond_marked in let one = b.unmarked in ⊎_elim (λ e. absurd (omega arith)) (λ e. e.1) (going.marking.states j beyond_in)

    -- p becomes clean, and the count rises
    done : Written (P * S) (outside S p (inside S p x)) (flag p) 1 (put (outside S p (inside S p x)) (flag p) 1)
    done = put_written (P * S) _ (flag p) 1 going.marking.more.linked.size (omega (arith, limits.partitions_most))

    ended : Written (P * S) (put (outside S p (inside S p x)) (flag p) 1) count (get (outside S p (inside S p x)) count + 1) (trace_one S p x)
    unfolding trace_one finish
    ended = put_written (P * S) _ count _ done.sized (omega arith)

    trace_written : (κ : Key) (v : ℕ) → In (P * S) κ → Traces S p x κ v → get (trace_one S p x) κ ≡ v
    trace_written _ _ i (marks_within {j = j} w) =
        ended.others (state j) tt refl ∙ done.others (state j) tt refl ∙ (more_outside P S limits p inp _ (more_inside P S limits p inp x linked).linked).stay j (within_marked w)
    trace_written _ _ i (marks_beyond {j = j} b) = ended.others (state j) tt refl ∙ done.others (state j) tt refl ∙ beyond_marked b
    trace_written _ _ i (uncleans_beyond {j = j} b) =
        ended.others (flag (part_of S j)) i refl ∙ done.others (flag (part_of S j)) i (ne_eqb p (part_of S j) (λ e. b.far (sym e))) ∙ beyond_flag b
    trace_written _ _ i cleans = ended.others (flag p) i refl ∙ done.here
    trace_written _ _ i counts = ended.here ∙ ap (λ (n : ℕ). n + 1) (going.marking.more.words count (omega arith) (λ t. refl) (λ q. refl))

    trace_others : Others (Traces S p x) x (trace_one S p x)
    trace_others = others_put (Traces S p x) x (_, counts) ended (others_put (Traces S p x) x (1, cleans) done going.marking.others)

  -- CLOSE
  close_written : (κ : Key) (v : ℕ) → In (P * S) κ → Closes x κ v → get (close_up P S x) κ ≡ v
  close_written _ _ i (frees {j = j} e) = let c = close_state P S limits x linked j i in omega arith
  close_written _ _ i (frees_payload e) = close_freed P S limits x linked the_payload i e
  close_written _ _ i (frees_field e) = close_freed P S limits x linked (the_field i.1) i.0 e
  close_written _ _ i (unmarks {j = j} e) = let c = close_state P S limits x linked j i in omega arith
  close_written _ _ i (shuts {h = h} l) =
      head_cases (λ h. 2 ≤ h → get (close_up P S x) (head h) ≡ 0) (λ l. absurd (omega arith)) (λ l. absurd (omega arith)) (λ l. close_phase P S limits x linked) (λ l. close_count P S limits x linked)
      (λ l. close_allowance P S limits x linked) h i l
  close_written _ _ i (flags_down {p = p}) = close_flag P S limits x linked p i

  close_content : {j : ℕ} {μ : Key} → Content j μ → j < P * S → (get x (state j) ≡ 1 → Closes x μ 0) → SomeValue (Closes x) μ ⊎ (get (close_up P S x) μ ≡ get x μ)
  close_content {j} c l h = ⊎_elim (λ e. inl (0, h e)) (λ e. inr (close_kept P S limits x linked c l e)) (eq_or_ne (get x (state j)) 1)

  close_others : judge P S x (single Close) ≡ allowed → (κ : Key) → In (P * S) κ → NoCount κ → SomeValue (Closes x) κ ⊎ (get (close_up P S x) κ ≡ get x κ)
  unfolding apply
  close_others a (head h) i c =
      head_cases (λ h. SomeValue (Closes x) (head h) ⊎ (get (close_up P S x) (head h) ≡ get x (head h))) (inr (act_partitions P S x (single Close) s a)) (inr (act_slots P S x (single Close) s a))
      (inl (0, shuts (omega arith))) (inl (0, shuts (omega arith))) (inl (0, shuts (omega arith))) h i
  close_others a (anchor r) i c = inr (close_anchor P S limits x linked r i)
  close_others a (flag p) i c = inl (0, flags_down)
  close_others a (state j) i c =
      let c = close_state P S limits x linked j i in
      let b = linked.states j i in
      ⊎_elim (λ e. inl (0, frees e)) (λ e. ⊎_elim (λ d. inl (1, unmarks d)) (λ d. inr (omega arith)) (eq_or_ne (get x (state j)) 2)) (eq_or_ne (get x (state j)) 1)
  close_others a (payload j) i c = close_content the_payload i frees_payload
  close_others a (field j k) i c = close_content (the_field i.1) i.0 frees_field
  close_others a (inlist j) i c = absurd (clash refl c)

  close_number : unmarked (P * S) x ≡ freed (P * S) x (close_up P S x)
  unfolding unmarked freed
  close_number = tally_same (P * S) _ _ (λ j l. by (get x (state j)) (get (close_up P S x) (state j)) (linked.states j l) (close_state P S limits x linked j l))
    where
      by : (a b : ℕ) → a ≤ 2 → b ≡ a - 1 → eqb a 1 ≡ both (not (eqb a 0)) (not (not (eqb b 0)))
      by zero b l e = refl
      by (suc zero) b l e = rw e
      by (suc (suc zero)) b l e = rw e
      by (suc (suc (suc a))) b l e = absurd (omega arith)

-- HOLD and DROP: what an operation on the handle's anchor writes
takes_performs : {S : ℕ} {x : Image} {h : Handle} {t : Target} (κ : Key) (v : ℕ) → Takes S x h t κ v → Performs S x (taking h t) κ v
takes_performs _ _ takes = root_to
takes_performs _ _ (marks_held d) = marks_stored refl d
takes_performs _ _ (uncleans_held d) = uncleans_stored refl d

performs_takes : {S : ℕ} {x : Image} {h : Handle} {t : Target} (κ : Key) (v : ℕ) → Performs S x (taking h t) κ v → Takes S x h t κ v
performs_takes _ _ root_to = takes
performs_takes _ _ (marks_stored e d) = rw e (marks_held d)
performs_takes _ _ (uncleans_stored e d) = rw e (uncleans_held d)

pub took : (P S : ℕ) (x : Image) (h : Handle) (t : Target) → SoundAt P S x → Good P S x (taking h t) → Took P S h t x (store S x (handle h.0) t)
unfolding perform
took P S x h t s g =
    let a = performed P S x s (taking h t) g in
    record {
      written = λ κ v i w. a.written κ v i (takes_performs κ v w);
      others = λ κ i c. ⊎_elim (λ w. inl (w.0, performs_takes κ w.0 w.1)) (λ e. inr e) (a.others κ i c);
      right = a.right;
      length = a.length;
    }

committed : (P S : ℕ) (x : Image) (e : ℕ) (os : List Operation) → SoundAt P S x → judge_ops P S x e os ≡ allowed → Committed P S x os (perform_all S x os)
unfolding judge_ops perform_all
committed P S x e [] s j = nothing_more
committed P S x e (o ∷ os) s j =
    let a = then_true _ _ j in
    let g = good P S x e o a.0 in
    and_then (performed P S x s o g) (committed P S (perform S x o) (e + 1) os (holds_perform P S x o g s).sound a.1)

act_length : (P S : ℕ) (x : Image) (a : Act) → SoundAt P S x → judge P S x a ≡ allowed → length_of (apply P S x a) ≡ length_of x
act_length P S x a s j = (act_sound P S x a s j).length_agrees ∙ sym s.length_agrees

-- EVERY ACCEPTED ACT, on any sound image
pub effect : (P S : ℕ) (x : Image) (a : Act) → SoundAt P S x → judge P S x a ≡ allowed → Effect P S a x (apply P S x a)
unfolding judge apply
effect P S x (commit os) s j = committed P S x 1 os s (check_true _ _ _ _ j).1
effect P S x (single Open) s j =
    record { written = open_written P S x s; others = open_others P S x s; right = (act_sound P S x (single Open) s j).right; length = act_length P S x (single Open) s j }
effect P S x (single (Trace p)) s j =
    let l = (traced_is P S (limits P S x s) x p j).1 in
    record {
      written = trace_written P S x s p.0 l;
      others = λ κ i c. trace_others P S x s p.0 l κ (in_fits (P * S) κ i) c;
      right = (act_sound P S x (single (Trace p)) s j).right;
      length = act_length P S x (single (Trace p)) s j;
    }
effect P S x (single Close) s j =
    record {
      words = record { written = close_written P S x s; others = close_others P S x s j; right = (act_sound P S x (single Close) s j).right; length = act_length P S x (single Close) s j };
      number = close_number P S x s;
    }
effect P S x (single (Local p)) s j = localized P S p.0 (ltb-true p.0 P (check_true _ _ _ _ j).0) x s
effect P S x (single (Hold h n)) s j = took P S x h (Some n) s (good_hold P S x h n j)
effect P S x (single (Drop h)) s j = took P S x h None s (good_drop P S x h j)

-- NO SECOND IMAGE: x alone says every word of y
leaves_agree : (n S : ℕ) (x : Image) (W U : Key → ℕ → Type 0) (y z : Image) → Leaves n S x W y → Leaves n S x U z
    → (κ : Key) → In n κ → NoCount κ → ((v : ℕ) → W κ v → U κ v) → ((v : ℕ) → U κ v → W κ v) → get y κ ≡ get z κ
leaves_agree n S x W U y z g h κ i c to fro =
    ⊎_elim (λ w. g.written κ w.0 i w.1 ∙ sym (h.written κ w.0 i (to w.0 w.1)))
    (λ a. ⊎_elim (λ w. g.written κ w.0 i (fro w.0 w.1) ∙ sym (h.written κ w.0 i w.1)) (λ b. a ∙ sym b) (h.others κ i c)) (g.others κ i c)

module _ (P S : ℕ) where
  leaves_once : (x : Image) (W U : Key → ℕ → Type 0) (y z : Image) → length_of x ≡ size P S → ((κ : Key) (v : ℕ) → W κ v → U κ v) → ((κ : Key) (v : ℕ) → U κ v → W κ v)
      → Leaves (P * S) S x W y → Leaves (P * S) S x U z → y ≡ z
  leaves_once x W U y z e to fro g h = words_same (P * S) y z (sized_length P S y (g.length ∙ e)) (sized_length P S z (h.length ∙ e)) (λ κ i. go κ i (is_count κ) refl)
    where
      agree : (κ : Key) → In (P * S) κ → NoCount κ → get y κ ≡ get z κ
      agree κ i c = leaves_agree (P * S) S x W U y z g h κ i c (to κ) (fro κ)

      -- counts are read off the fields
      go : (κ : Key) → In (P * S) κ → (b : Bool) → is_count κ ≡ b → get y κ ≡ get z κ
      go κ i false c = agree κ i c
      go (inlist j) i true c =
          g.right.counts j i ∙ count_reads (P * S) S y z (λ i k li m. agree (field i k) (li, m) refl) j ∙ sym (h.right.counts j i)
      go (head h) i true c = absurd (clash c refl)
      go (anchor r) i true c = absurd (clash c refl)
      go (flag p) i true c = absurd (clash c refl)
      go (state j) i true c = absurd (clash c refl)
      go (payload j) i true c = absurd (clash c refl)
      go (field j k) i true c = absurd (clash c refl)

  committed_once : {x y z : Image} {os : List Operation} → length_of x ≡ size P S → Committed P S x os y → Committed P S x os z → y ≡ z
  committed_once e nothing_more nothing_more = refl
  committed_once {z = z} e (and_then {y = y} {os = os} p r) (and_then {y = v} q t) =
      committed_once (p.length ∙ e) r (subst (λ (u : Image). Committed P S u os z) (sym (leaves_once _ _ _ y v e (λ κ v w. w) (λ κ v w. w) p q)) t)

  -- the allowance counts the states of y, which x says
  opens_state : {x y z : Image} (j v : ℕ) → Opens P S x y (state j) v → Opens P S x z (state j) v
  opens_state j _ (marks_anchored l n) = marks_anchored l n

  opens_same : {x y z : Image} → unmarked (P * S) y ≡ unmarked (P * S) z → (κ : Key) (v : ℕ) → Opens P S x y κ v → Opens P S x z κ v
  opens_same e _ _ (marks_anchored l n) = marks_anchored l n
  opens_same e _ _ uncleans_all = uncleans_all
  opens_same e _ _ opens = opens
  opens_same e _ _ restarts = restarts
  opens_same {x} {z = z} e _ _ allows = subst (λ (n : ℕ). Opens P S x z allowance (P + n)) (sym e) allows

  opened_once : (x y z : Image) → length_of x ≡ size P S → Opened P S x y → Opened P S x z → y ≡ z
  unfolding unmarked
  opened_once x y z e g h =
      let u : unmarked (P * S) y ≡ unmarked (P * S) z =
      tally_same (P * S) _ _ (λ j l. ap (λ (n : ℕ). eqb n 1) (leaves_agree (P * S) S x _ _ y z g h (state j) l refl (opens_state j) (opens_state j))) in
      leaves_once x _ _ y z e (opens_same u) (opens_same (sym u)) g h

  pub effect_once : (x y z : Image) (a : Act) → length_of x ≡ size P S → Effect P S a x y → Effect P S a x z → y ≡ z
  effect_once x y z (commit os) e g h = committed_once e g h
  effect_once x y z (single Open) e g h = opened_once x y z e g h
  effect_once x y z (single (Trace p)) e g h = leaves_once x _ _ y z e (λ κ v w. w) (λ κ v w. w) g h
  effect_once x y z (single Close) e g h = leaves_once x _ _ y z e (λ κ v w. w) (λ κ v w. w) g.words h.words
  effect_once x y z (single (Local p)) e g h = leaves_once x _ _ y z e (λ κ v w. w) (λ κ v w. w) g.words h.words
  effect_once x y z (single (Hold h n)) e g h' = leaves_once x _ _ y z e (λ κ v w. w) (λ κ v w. w) g h'
  effect_once x y z (single (Drop h)) e g h' = leaves_once x _ _ y z e (λ κ v w. w) (λ κ v w. w) g h'
