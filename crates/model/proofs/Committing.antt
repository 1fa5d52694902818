-- Accepted operations: what they may rely on, and that they keep a phase and its head.
-- Assumes nothing.
use Prim.Native.Nat.{ℕ, ◌+◌, ◌*◌, ◌<◌}
use mathlib.Core.Path.{◌≡◌, refl, sym, ◌∙◌, subst}
use mathlib.Core.Bool.{Bool, true, false, not, cond}
use mathlib.Core.List.{List, [], ◌∷◌}
use mathlib.Core.Logic.{◌≢◌}
use native.Mathlib.Omega.{arith}
use native.Mathlib.Decide.{ℕ_discrete}
use lib.Dec.{eqb, ltb}
use borrow.Author.Tests.{eqb-true, eqb-false, ne_eqb, not-true, not-false, ltb-true}
use Rattle.loops.specs.Loop.{both}
use Rattle.loops.proofs.Tests.{both_true}
use Rattle.kinds.specs.Names.{roots, handles, word_of}
use Rattle.kinds.specs.declared.Name.{Name}
use Rattle.kinds.specs.declared.Handle.{Handle}
use Rattle.kinds.specs.Names.{Target}
use Rattle.std.specs.Prelude.{None, Some}
use Rattle.kinds.specs.declared.Operation.{Operation}
use Rattle.kinds.specs.declared.Operation.TheVariants.{New, Set, Val, Root}
use Rattle.kinds.specs.declared.Single.TheVariants.{Hold, Drop}
use Rattle.kinds.specs.Answers.{Verdict}
use Rattle.std.specs.Prelude.{Ok, Err}
use Rattle.kinds.specs.Answers.{allowed}
use Rattle.model.specs.Image.{Image, Key, head, anchor, state, payload, field, anchors, get, place, place_of, refer, Holder, an_anchor, a_field}
use Rattle.model.specs.Acts.{single, used, is_open, mark, mark_word, store, born, perform, perform_all}
use Rattle.model.specs.Judge.{check, and_then, in_heap, target_in_heap, target_used, judge_op, judge_ops, judge_name, judge}
use Rattle.model.specs.Sound.{Limits}
use Rattle.model.proofs.Keys.{in_fits, get_put_apart, refer_apart}
use Rattle.model.proofs.Places.{slot_in, word_none, place_word}
use Rattle.model.proofs.Soundness.{used_true}
use Rattle.model.proofs.Holders.{holder_in, holder_head}
use Rattle.model.proofs.Moves.{Linked}
use Rattle.model.proofs.Phase.{Phase, open_true, phase_mark, phase_payload, phase_born, phase_refer}
use Rattle.model.proofs.Tracing.{mark_read, mark_marks}

pub check_true : (b : Bool) (n e : ℕ) (v : Verdict) → check b n e v ≡ allowed → (b ≡ true) × (v ≡ allowed)
unfolding check
check_true true n e v q = (refl, q)
check_true false n e v q = ((cc), (cc))

pub then_true : (u v : Verdict) → and_then u v ≡ allowed → (u ≡ allowed) × (v ≡ allowed)
unfolding and_then
then_true (Ok _) v q = (refl, q)
then_true (Err r) v q = (q, (cc))

used_false : (x : Image) (i : ℕ) → not (used x i) ≡ true → get x (state i) ≡ 0
used_false x i e = eqb-true _ _ (not-false _ (not-true _ e))

-- a target that may be stored: nothing, or an object in use
pub data May (P S : ℕ) (x : Image) : Target → Type 0 where
  none : May P S x None
  some : {q : Name} → q.partition.0 < P → q.slot.0 < S → get x (state (place S q)) ≢ 0 → May P S x (Some q)

-- numbers that are not too large
in_heap_lem : (P S : ℕ) (n : Name) → in_heap P S n ≡ true → (n.partition.0 < P) × (n.slot.0 < S)
in_heap_lem P S n e = let b = both_true (ltb n.partition.0 P) (ltb n.slot.0 S) e in (ltb-true _ _ b.0, ltb-true _ _ b.1)

may : (P S : ℕ) (x : Image) (t : Target) → target_in_heap P S t ≡ true → target_used S x t ≡ true → May P S x t
may P S x None r u = none
may P S x (Some q) r u = let b = in_heap_lem P S q r in some b.0 b.1 (used_true x _ u)

-- what an accepted operation may rely on (of a root: that it is an anchor, so that hold and drop rely on it too)
pub data Good (P S : ℕ) (x : Image) : Operation → Type 0 where
  good_new : {n : Name} {v : ℕ} → n.partition.0 < P → n.slot.0 < S → get x (state (place S n)) ≡ 0 → Good P S x (New n v)
  good_set : {n : Name} {k : ℕ} {t : Target} → n.partition.0 < P → n.slot.0 < S → k < 4 → get x (state (place S n)) ≢ 0 → May P S x t → Good P S x (Set n k t)
  good_val : {n : Name} {v : ℕ} → n.partition.0 < P → n.slot.0 < S → get x (state (place S n)) ≢ 0 → Good P S x (Val n v)
  good_root : {r : ℕ} {t : Target} → r < anchors → May P S x t → Good P S x (Root r t)

pub good : (P S : ℕ) (x : Image) (e : ℕ) (o : Operation) → judge_op P S x e o ≡ allowed → Good P S x o
unfolding judge_op
good P S x e (New n v) j =
    let a = check_true _ _ _ _ j in
    let b = in_heap_lem P S n a.0 in
    good_new b.0 b.1 (used_false x _ (check_true _ _ _ _ a.1).0)
good P S x e (Set n k t) j =
    let a = check_true _ _ _ _ j in
    let h = both_true (in_heap P S n) (both (ltb k 4) (target_in_heap P S t)) a.0 in
    let b = in_heap_lem P S n h.0 in
    let d = both_true (ltb k 4) (target_in_heap P S t) h.1 in
    let u = check_true _ _ _ _ a.1 in
    good_set b.0 b.1 (ltb-true _ _ d.0) (used_true x _ u.0) (may P S x t d.1 (check_true _ _ _ _ u.1).0)
good P S x e (Val n v) j =
    let a = check_true _ _ _ _ j in
    let b = in_heap_lem P S n a.0 in
    good_val b.0 b.1 (used_true x _ (check_true _ _ _ _ a.1).0)
good P S x e (Root r t) j =
    let a = check_true _ _ _ _ j in
    let b = both_true (ltb r roots) (target_in_heap P S t) a.0 in
    let l = ltb-true r roots b.0 in
    good_root {r = r} (omega arith) (may P S x t b.1 (check_true _ _ _ _ a.1).0)

-- what hold and drop do to the image is what an operation would do on the root that the handle is among the anchors; no accepted commit has it
abbrev pub taking : Handle → Target → Operation
taking h t = Root (roots + h.0) t

pub good_hold : (P S : ℕ) (x : Image) (h : Handle) (n : Name) → judge P S x (single (Hold h n)) ≡ allowed → Good P S x (taking h (Some n))
unfolding judge judge_name
good_hold P S x h n j =
    let a = check_true _ _ _ _ j in
    let b = check_true _ _ _ _ a.1 in
    let l = ltb-true h.0 handles a.0 in
    good_root {r = roots + h.0} (omega arith) (may P S x (Some n) b.0 (check_true _ _ _ _ b.1).0)

pub good_drop : (P S : ℕ) (x : Image) (h : Handle) → judge P S x (single (Drop h)) ≡ allowed → Good P S x (taking h None)
unfolding judge
good_drop P S x h j = let l = ltb-true h.0 handles (check_true _ _ _ _ j).0 in good_root {r = roots + h.0} (omega arith) none

-- whatever each accepted operation keeps, a commit keeps
pub judged_keeps : (P S : ℕ) (Q : Image → Type 0) → ((x : Image) (e : ℕ) (o : Operation) → judge_op P S x e o ≡ allowed → Q x → Q (perform S x o))
    → (x : Image) (e : ℕ) (os : List Operation) → judge_ops P S x e os ≡ allowed → Q x → Q (perform_all S x os)
unfolding judge_ops perform_all
judged_keeps P S Q h x e [] j q = q
judged_keeps P S Q h x e (o ∷ os) j q =
    let a = then_true _ _ j in
    judged_keeps P S Q h (perform S x o) (e + 1) os a.1 (h x e o a.0 q)

pub commit_keeps : (P S : ℕ) (Q : Image → Type 0) → ((x : Image) (o : Operation) → Good P S x o → Q x → Q (perform S x o))
    → (x : Image) (e : ℕ) (os : List Operation) → judge_ops P S x e os ≡ allowed → Q x → Q (perform_all S x os)
commit_keeps P S Q h = judged_keeps P S Q (λ x e o j q. h x o (good P S x e o j) q)

pub at_field : (Q : ℕ → Type 0) {i k : ℕ} → Q i → (j c : ℕ) → field i k ≡ field j c → Q j
at_field Q {i} {k} q j c e = let r : i ≡ j = cc in rw (← r) q

pub no_field : (Q : ℕ → Type 0) {r : ℕ} (j c : ℕ) → anchor r ≡ field j c → Q j
no_field Q j c e = let z : ◌≡◌ {A = ℕ} 0 1 = cc in absurd (omega arith)

module _ (P S : ℕ) (limits : Limits P S) where
  pub mark_used : (x : Image) (t j : ℕ) → t < P * S → Linked P S x → get x (state j) ≢ 0 → get (mark S x t) (state j) ≢ 0
  mark_used x t j l w u = go (ℕ_discrete t j)
    where
      go : Dec (t ≡ j) → get (mark S x t) (state j) ≢ 0
      go (yes e) =
          let two : get (mark S x t) (state j) ≡ 2 = subst (λ (v : ℕ). get (mark S x t) (state v) ≡ 2) e (mark_marks P S limits x t l w (rw e u)) in
          λ z. omega arith
      go (no e) = λ z. u (sym (mark_read P S limits x t (state j) l tt (ne_eqb t j e) refl) ∙ z)

  -- a target that may be stored names an object in use
  pub target_used_lem : (x : Image) (t : Target) → May P S x t → word_of t ≢ 0 → (place_of S (word_of t) < P * S) × (get x (state (place_of S (word_of t))) ≢ 0)
  target_used_lem x _ none ne = absurd (ne word_none)
  target_used_lem x _ (some {q = q} lq ls u) ne = rw (place_word S q (omega arith)) (slot_in P S limits.some_slot _ _ lq ls, u)

  -- the marking of a target that may be stored: nothing, or one mark
  pub mark_word_keeps : (Q : Image → Type 0) (x : Image) (w : ℕ) → (w ≢ 0 → Q (mark S x (place_of S w))) → (w ≡ 0 → Q x) → Q (mark_word S x w)
  unfolding mark_word
  mark_word_keeps Q x w h k = go (eqb w 0) refl
    where
      go : (b : Bool) → eqb w 0 ≡ b → Q (cond b x (mark S x (place_of S w)))
      go true e = k (eqb-true _ _ e)
      go false e = h (eqb-false _ _ e)

  -- in a phase
  pub store_open : (x : Image) (κ : Key) (t : Target) → Phase P S x → refer S (mark_word S x (word_of t)) κ (word_of t) ≡ store S x κ t
  unfolding store
  store_open x κ t ph = rw (open_true P S limits x ph)

  -- a reference stored in a phase: its target is marked first
  pub record Stored (x : Image) (w : ℕ) (y : Image) : Type 0 where
    pub phase : Phase P S y
    pub used : (j : ℕ) → get x (state j) ≢ 0 → get y (state j) ≢ 0
    pub marked : w ≢ 0 → (place_of S w < P * S) × (get y (state (place_of S w)) ≡ 2)

  pub stored : (x : Image) (t : Target) → May P S x t → Phase P S x → Stored x (word_of t) (mark_word S x (word_of t))
  stored x t m ph =
      mark_word_keeps (Stored x (word_of t)) x (word_of t)
      (λ ne.
      let u = target_used_lem x t m ne in
      record {
        phase = phase_mark P S limits x _ u.0 ph;
        used = λ j. mark_used x _ j u.0 ph.linked;
        marked = λ z. (u.0, mark_marks P S limits x _ u.0 ph.linked u.1);
      })
      (λ e. record { phase = ph; used = λ j u. u; marked = λ ne. absurd (ne e) })

  pub phase_store : (x : Image) (κ : Key) (t : Target) → Holder (P * S) κ → ((i k : ℕ) → κ ≡ field i k → get x (state i) ≢ 0) → May P S x t → Phase P S x → Phase P S (store S x κ t)
  phase_store x κ t h u m ph =
      let s = stored x t m ph in
      subst (Phase P S) (store_open x κ t ph) (phase_refer P S limits _ κ (word_of t) h s.phase.linked.size (λ j k e. s.used j (u j k e)) s.marked s.phase)

  pub phase_perform : (x : Image) (o : Operation) → Good P S x o → Phase P S x → Phase P S (perform S x o)
  unfolding perform
  phase_perform x _ (good_new lp ls e) ph = phase_born P S limits x _ _ (slot_in P S limits.some_slot _ _ lp ls) e ph
  phase_perform x _ (good_set lp ls lk u m) ph = phase_store x _ _ (a_field (slot_in P S limits.some_slot _ _ lp ls) lk) (at_field (λ j. get x (state j) ≢ 0) u) m ph
  phase_perform x _ (good_val lp ls u) ph = phase_payload P S limits x _ _ (slot_in P S limits.some_slot _ _ lp ls) ph
  phase_perform x _ (good_root lr m) ph = phase_store x _ _ (an_anchor lr) (no_field (λ j. get x (state j) ≢ 0)) m ph

  -- operations leave the heads
  store_head : (x : Image) (κ : Key) (t : Target) (h : ℕ) → h < 5 → Holder (P * S) κ → May P S x t → get (store S x κ t) (head h) ≡ get x (head h)
  unfolding store
  store_head x κ t h l g m = refer_apart S _ κ _ (head h) (in_fits (P * S) κ (holder_in g)) l (holder_head g h) ∙ go (is_open x)
    where
      go : (b : Bool) → get (cond b (mark_word S x (word_of t)) x) (head h) ≡ get x (head h)
      go true =
          mark_word_keeps (λ y. get y (head h) ≡ get x (head h)) x (word_of t)
          (λ ne. mark_read P S limits x _ (head h) (target_used_lem x t m ne).0 l refl refl) (λ e. refl)
      go false = refl

  pub perform_head : (x : Image) (o : Operation) (h : ℕ) → h < 5 → Good P S x o → get (perform S x o) (head h) ≡ get x (head h)
  unfolding perform born
  perform_head x _ h l (good_new lp ls e) = get_put_apart _ (payload _) _ (head h) tt l refl ∙ get_put_apart x (state _) _ (head h) tt l refl
  perform_head x _ h l (good_set lp ls lk u m) = store_head x _ _ h l (a_field (slot_in P S limits.some_slot _ _ lp ls) lk) m
  perform_head x _ h l (good_val lp ls u) = get_put_apart x (payload _) _ (head h) tt l refl
  perform_head x _ h l (good_root lr m) = store_head x _ _ h l (an_anchor lr) m
