-- Every accepted act keeps soundness, whatever sound image it starts from, and keeps words 0 and 1; a blank image is sound, zeros are not.
-- Assumes nothing.
use Prim.Native.Nat.{ℕ, ◌+◌, ◌*◌, ◌-◌, ◌/◌, ◌%◌, ◌≤◌, ◌<◌}
use mathlib.Core.Path.{◌≡◌, refl, ◌∙◌}
use mathlib.Core.Bool.{Bool, true, false}
use mathlib.Core.List.{List}
use mathlib.Core.Logic.{◌≢◌, ⊎_elim}
use native.Mathlib.Omega.{arith}
use native.Mathlib.Decide.{ℕ_discrete}
use lib.Dec.{eqb}
use lib.ListN.{replicate}
use borrow.Author.Tests.{eqb-true, eqb-false, not-true, ltb-true}
use Rattle.loops.specs.Loop.{tally}
use Rattle.loops.proofs.Tests.{lt_or_ge}
use Rattle.loops.proofs.Loops.{each_keeps, tally_le}
use Rattle.kinds.specs.Names.{radix, most_partitions, roots, word_of}
use Rattle.kinds.specs.declared.Name.{Name}
use Rattle.kinds.specs.Names.{Target}
use Rattle.std.specs.Prelude.{Some}
use Rattle.kinds.specs.declared.Operation.{Operation}
use Rattle.kinds.specs.declared.Single.TheVariants.{Open, Trace, Close, Local, Hold, Drop}
use Rattle.kinds.specs.Answers.{allowed}
use Rattle.model.specs.Image.{Image, Key, addr, blank, partitions, slots, head, anchor, flag, state, payload, inlist, field, phase, count, allowance, anchors, get, put, place, place_of, Holder, an_anchor, a_field}
use Rattle.model.specs.Acts.{Act, commit, single, local_bits, local_up, marked, close_up, refers, target, own, foreign, mark, mark_word, perform, unmarked, unclean, mark_anchors, allow, open_up, inside, outside, finish, trace_one, apply}
use Rattle.model.specs.Judge.{in_limits, led, judge}
use Rattle.model.specs.History.{Run, still, acted}
use Rattle.model.specs.Sound.{Limits, is_sound, Sound, NamesUsed, Right, ShutHead, SoundAt}
use Rattle.model.proofs.Keys.{Sized, sized_length, get_put_apart, get_put_same, sized_put, root_addr, handle_addr, zeros, blank_sized, blank_partitions, blank_slots, blank_zero}
use Rattle.model.proofs.Places.{slot_in, word_none, place_word}
use Rattle.model.proofs.Spreading.{pass_keeps, spread_keeps}
use Rattle.model.proofs.Moves.{Linked}
use Rattle.model.proofs.Tracing.{refers_is}
use Rattle.model.proofs.Committing.{check_true, May, none, some, Good, good_new, good_set, good_val, good_root, commit_keeps, good_hold, good_drop}
use Rattle.model.proofs.Closing.{Content, the_payload, the_field, Leading, led_leads, close_size, close_phase, close_count, close_allowance, close_flag, close_state, close_freed, close_kept, close_anchor}
use Rattle.model.proofs.Making.{made, made_close, made_local, made_heading}
use Rattle.model.proofs.Counting.{right_put, right_made, right_blank}
use Rattle.model.specs.Questions.{has_bit}
use Rattle.model.proofs.Freeing.{Apart, free_sound}
use Rattle.model.proofs.Localizing.{choice, local_anchors, local_fields}
use Rattle.model.proofs.Soundness.{limits_true, sound_true, sound_back, sound_not}
use Rattle.model.proofs.SoundnessMoves.{WordUsed, Body, Head, Holds, sound_of, sound_linked, sound_body, put_written, holds_self, holds_more, open_head, head_written, holds_flag, holds_mark, holds_mark_word, holds_payload, holds_store, holds_born, reference_place}

-- the numbers of a name's word
word_partition : (q : Name) → q.slot.0 < radix → (word_of (Some q) - 1) / radix ≡ q.partition.0
unfolding word_of
word_partition q l = omega arith

word_slot : (q : Name) → q.slot.0 < radix → (word_of (Some q) - 1) % radix ≡ q.slot.0
unfolding word_of
word_slot q l = omega arith

module _ (P S : ℕ) where
  -- a word of the head
  sound_put : (x : Image) (h v : ℕ) → h < 5 → SoundAt P S x → Head P S (put x (head h) v) → SoundAt P S (put x (head h) v)
  sound_put x h v l s t = head_written P S (right_put (P * S) S x (head h) v l (λ j k. refl) (λ i. refl)) (put_written (P * S) x (head h) v (sound_body P S x s).sized l) s t

  -- COMMIT: a target that may be stored, and one operation
  target_word : (x : Image) (t : Target) → SoundAt P S x → May P S x t → word_of t ≢ 0 → WordUsed P S x (word_of t)
  target_word x _ s none n = absurd (n word_none)
  target_word x _ s (some {q = q} l m u) n =
      let b : q.slot.0 < radix = omega (arith, s.limits.slots_most) in
      record { partition = rw (word_partition q b) l; slot = rw (word_slot q b) m; in_use = rw (place_word S q b) u }

  pub holds_perform : (x : Image) (o : Operation) → Good P S x o → SoundAt P S x → Holds P S x (perform S x o)
  unfolding perform
  holds_perform x _ (good_new l m e) s = holds_born P S x _ _ (slot_in P S s.limits.some_slot _ _ l m) s
  holds_perform x _ (good_set {n = n} {k = k} {t = t} l m b u d) s =
      holds_store P S x (field (place S n) k) t (a_field (slot_in P S s.limits.some_slot _ _ l m) b) u (target_word x t s d) s
  holds_perform x _ (good_val l m u) s = holds_payload P S x _ _ (slot_in P S s.limits.some_slot _ _ l m) u s
  holds_perform x _ (good_root {r = r} {t = t} l d) s = holds_store P S x (anchor r) t (an_anchor l) tt (target_word x t s d) s

  -- OPEN: every step keeps soundness, the phase being open with count and allowance 0 at first
  pub holds_unclean : (x : Image) → SoundAt P S x → Holds P S x (unclean x)
  unfolding unclean
  holds_unclean x s =
      each_keeps (Holds P S x) most_partitions (λ y p. put y (flag p) 0)
      (λ y p l h. holds_more P S h (holds_flag P S y p 0 l (omega arith) (λ q. refl) (λ q. refl) h.sound)) x (holds_self P S x s)

  pub holds_mark_anchors : (x : Image) → get x phase ≡ 1 → SoundAt P S x → Holds P S x (mark_anchors S x)
  unfolding mark_anchors
  holds_mark_anchors x o s =
      each_keeps (Holds P S x) anchors (λ y r. mark_word S y (get y (anchor r)))
      (λ y r l h.
      holds_more P S h
      (holds_mark_word P S y (get y (anchor r)) (λ n. reference_place P S y (anchor r) (an_anchor l) n h.sound) (h.heads 2 (omega arith) ∙ o) h.sound)) x
      (holds_self P S x s)

  -- count 0, and an allowance of at most P + P-as-S
  pub allow_sound : (x : Image) → get x phase ≡ 1 → SoundAt P S x → SoundAt P S (allow P S x)
  unfolding allow unmarked
  allow_sound x o s =
      let z : Sized (P * S) x = (sound_body P S x s).sized in
      let y : Image = put x count 0 in
      let o₁ : get y phase ≡ 1 = get_put_apart x count 0 phase (omega arith) (omega arith) refl ∙ o in
      let a₁ : get y allowance ≡ get x allowance = get_put_apart x count 0 allowance (omega arith) (omega arith) refl in
      let c₁ : get y count ≡ 0 = get_put_same (P * S) x count 0 z (omega arith) in
      let b : get x allowance ≤ P + P * S = (s.opened o).allowed in
      let s₁ : SoundAt P S y = sound_put x 3 0 (omega arith) s (open_head P S y o₁ (omega arith) (omega arith)) in
      let w : ℕ = P + tally (P * S) (λ j. eqb (get x (state j)) 1) in
      let o₂ : get (put y allowance w) phase ≡ 1 = get_put_apart y allowance w phase (omega arith) (omega arith) refl ∙ o₁ in
      let a₂ : get (put y allowance w) allowance ≡ w = get_put_same (P * S) y allowance w (sized_put (P * S) x count 0 z) (omega arith) in
      let c₂ : get (put y allowance w) count ≡ 0 = get_put_apart y allowance w count (omega arith) (omega arith) refl ∙ c₁ in
      let le : tally (P * S) (λ j. eqb (get x (state j)) 1) ≤ P * S = tally_le (P * S) (λ j. eqb (get x (state j)) 1) in
      sound_put y 4 w (omega arith) s₁ (open_head P S (put y allowance w) o₂ (omega arith) (omega arith))

  pub open_sound : (x : Image) → get x phase ≡ 0 → SoundAt P S x → SoundAt P S (open_up P S x)
  unfolding open_up
  open_sound x o s =
      let t : ShutHead P S x = s.shut o in
      let y : Image = put x phase 1 in
      let o₁ : get y phase ≡ 1 = get_put_same (P * S) x phase 1 (sound_body P S x s).sized (omega arith) in
      let a₁ : get y allowance ≡ 0 = get_put_apart x phase 1 allowance (omega arith) (omega arith) refl ∙ t.allowed in
      let c₁ : get y count ≡ 0 = get_put_apart x phase 1 count (omega arith) (omega arith) refl ∙ t.counted in
      let h : Holds P S y (unclean y) = holds_unclean y (sound_put x 2 1 (omega arith) s (open_head P S y o₁ (omega arith) (omega arith))) in
      let o₂ : get (unclean y) phase ≡ 1 = h.heads 2 (omega arith) ∙ o₁ in
      let g : Holds P S (unclean y) (mark_anchors S (unclean y)) = holds_mark_anchors (unclean y) o₂ h.sound in
      allow_sound (mark_anchors S (unclean y)) (g.heads 2 (omega arith) ∙ o₂) g.sound

  -- TRACE: both halves are rows of marks
  module _ (x : Image) (p : ℕ) (l : p < P) (o : get x phase ≡ 1) where
    step : (wanted : ℕ → Bool) (y : Image) (j k : ℕ) → j < S → k < 4 → refers S wanted y (p * S + j) k ≡ true → Holds P S x y
        → Holds P S x (mark S y (target S y (p * S + j) k))
    step wanted y j k lj lk e h =
        let at : p * S + j < P * S = slot_in P S h.sound.limits.some_slot p j l lj in
        let n : get y (field (p * S + j) k) ≢ 0 = (refers_is S wanted y (p * S + j) k e).0 in
        holds_more P S h
        (holds_mark P S y (target S y (p * S + j) k) (reference_place P S y (field (p * S + j) k) (a_field at lk) n h.sound) (h.heads 2 (omega arith) ∙ o) h.sound)

    pub holds_inside : SoundAt P S x → Holds P S x (inside S p x)
    unfolding inside
    holds_inside s =
        spread_keeps marked (mark S) (refers S (own S p)) (target S) (λ s. p * S + s) S 4 (Holds P S x)
        (λ y j k lj lk m e h. step (own S p) y j k lj lk e h) x (holds_self P S x s)

    pub holds_outside : (y : Image) → Holds P S x y → Holds P S x (outside S p y)
    unfolding outside
    holds_outside y h =
        pass_keeps marked (mark S) (refers S (foreign S p)) (target S) (λ s. p * S + s) S 4 (Holds P S x)
        (λ y j k lj lk m e h. step (foreign S p) y j k lj lk e h) y h

  -- p becomes clean, and the count rises where it was below the allowance
  pub finish_sound : (x : Image) (p : ℕ) → p < P → get x phase ≡ 1 → get x count < get x allowance → SoundAt P S x → SoundAt P S (finish p x)
  unfolding finish
  finish_sound x p l o c s =
      let b : P ≤ most_partitions = s.limits.partitions_most in
      let y : Image = put x (flag p) 1 in
      let h : Holds P S x y = holds_flag P S x p 1 (omega arith) (omega arith) (λ q. absurd (omega arith)) (λ q. absurd (omega arith)) s in
      let w : ℕ = get x count + 1 in
      let o₁ : get (put y count w) phase ≡ 1 = get_put_apart y count w phase (omega arith) (omega arith) refl ∙ h.heads 2 (omega arith) ∙ o in
      let a₁ : get (put y count w) allowance ≡ get x allowance = get_put_apart y count w allowance (omega arith) (omega arith) refl ∙ h.heads 4 (omega arith) in
      let c₁ : get (put y count w) count ≡ w = get_put_same (P * S) y count w (sound_body P S y h.sound).sized (omega arith) in
      let t : get x allowance ≤ P + P * S = (s.opened o).allowed in
      sound_put y 3 w (omega arith) h.sound (open_head P S (put y count w) o₁ (omega arith) (omega arith))

  pub trace_sound : (x : Image) (p : ℕ) → p < P → get x phase ≡ 1 → get x count ≢ get x allowance → SoundAt P S x → SoundAt P S (trace_one S p x)
  unfolding trace_one
  trace_sound x p l o c s =
      let y : Image = outside S p (inside S p x) in
      let h : Holds P S x y = holds_outside x p l o (inside S p x) (holds_inside x p l o s) in
      let e : get y count ≡ get x count = h.heads 3 (omega arith) in
      let f : get y allowance ≡ get x allowance = h.heads 4 (omega arith) in
      let t : get x count ≤ get x allowance = (s.opened o).counted in
      finish_sound y p l (h.heads 2 (omega arith) ∙ o) (omega arith) h.sound

  -- CLOSE: where 16 finds nothing, what roots, handles and marked objects refer to was marked and stays
  module _ (x : Image) (s : SoundAt P S x) (on : led P S x ≡ true) where
    after : Image
    after = close_up P S x

    limits : Limits P S
    limits = s.limits

    linked : Linked P S x
    linked = sound_linked P S x s

    closed_state : (j : ℕ) → j < P * S → get after (state j) ≡ get x (state j) - 1
    unfolding after
    closed_state j l = close_state P S limits x linked j l

    -- a word of an object that was not freed is as it was, and freed it is 0
    closed_word : {j : ℕ} {μ : Key} → Content j μ → j < P * S → get after μ ≢ 0 → (get after μ ≡ get x μ) × (get x (state j) ≢ 1)
    unfolding after
    closed_word {j} {μ} c l n = go (ℕ_discrete (get x (state j)) 1)
      where
        go : Dec (get x (state j) ≡ 1) → (get after μ ≡ get x μ) × (get x (state j) ≢ 1)
        go (yes e) = absurd (n (close_freed P S limits x linked c l e))
        go (no e) = (close_kept P S limits x linked c l e, e)

    closed_content : {j : ℕ} {μ : Key} → Content j μ → j < P * S → get after (state j) ≡ 0 → (get x (state j) ≡ 0 → get x μ ≡ 0) → get after μ ≡ 0
    unfolding after
    closed_content {j} {μ} c l e free = go (ℕ_discrete (get x (state j)) 1)
      where
        go : Dec (get x (state j) ≡ 1) → get after μ ≡ 0
        go (yes q) = close_freed P S limits x linked c l q
        go (no q) = let d = closed_state j l in close_kept P S limits x linked c l q ∙ free (omega arith)

    closed_names : (κ : Key) (h : Holder (P * S) κ) → Leading (P * S) x κ h → get after κ ≡ get x κ → get after κ ≢ 0 → NamesUsed P S after κ
    closed_names κ h v e n =
        let m : get x κ ≢ 0 = λ q. n (e ∙ q) in
        let u : NamesUsed P S x κ = s.references κ h m in
        let two : get x (state (place_of S (get x κ))) ≡ 2 = led_leads P S x on κ h v m in
        let c = closed_state (place_of S (get x κ)) (reference_place P S x κ h m s) in
        let busy : get after (state (place_of S (get x κ))) ≢ 0 = λ q. omega arith in
        record { partition = rw e u.partition; slot = rw e u.slot; in_use = rw e busy }

    closed_references : (κ : Key) → Holder (P * S) κ → get after κ ≢ 0 → NamesUsed P S after κ
    unfolding after
    closed_references _ (an_anchor {a = r} l) n = closed_names (anchor r) (an_anchor l) tt (close_anchor P S limits x linked r l) n
    closed_references _ (a_field {j = j} {k = k} l m) n =
        let w = closed_word (the_field m) l n in
        let b = s.states j l in
        let busy : get x (state j) ≢ 0 = λ q. n (w.0 ∙ (s.free_slots j l q).fields k m) in
        closed_names (field j k) (a_field l m) (omega arith) w.0 n

    closed_body : Body P S after
    unfolding after
    closed_body =
        record {
          sized = close_size P S limits x linked;
          states = λ j l. let e = closed_state j l in let b = s.states j l in omega arith;
          free_slots = λ j l e.
              record {
                value = closed_content the_payload l e (λ q. (s.free_slots j l q).value);
                fields = λ k m. closed_content (the_field m) l e (λ q. (s.free_slots j l q).fields k m);
              };
          references = closed_references;
          right = right_made (P * S) S (made_close P S limits x) (sized_length P S x s.length_agrees) s.right;
          flag_bits = λ p l. let e = close_flag P S limits x linked p l in omega arith;
          flags_beyond = λ p l m. close_flag P S limits x linked p l;
        }

    closed_head : Head P S after
    unfolding after
    closed_head =
        let e : get (close_up P S x) phase ≡ 0 = close_phase P S limits x linked in
        record {
          phase_bit = omega arith;
          shut = λ q.
              record {
                counted = close_count P S limits x linked;
                allowed = close_allowance P S limits x linked;
                flags = close_flag P S limits x linked;
                unmarked = λ j l t. let c = closed_state j l in let b = s.states j l in omega arith;
              };
          opened = λ q. absurd (omega arith);
        }

    pub close_sound : SoundAt P S (close_up P S x)
    unfolding after
    close_sound = sound_of P S after limits closed_body closed_head

  -- LOCAL: with right counts, roots, handles and what stays refer to what stays
  module _ (x : Image) (s : SoundAt P S x) (p : ℕ) (l : p < P) where
    refs : (κ : Key) → Holder (P * S) κ → get x κ ≢ 0 → place_of S (get x κ) < P * S
    refs κ h n = reference_place P S x κ h n s

    pub local_in : (j : ℕ) → j < S → p * S + j < P * S
    local_in j lj = slot_in P S s.limits.some_slot p j l lj

    pub local_apart : Apart P S S (λ j. p * S + j) (has_bit (local_bits P S p x)) x
    local_apart =
        record {
          choice = choice P S s.limits.some_slot p l x refs;
          anchored = local_anchors P S s.limits.some_slot p l x refs s.right;
          fields = local_fields P S s.limits.some_slot p l x refs s.right;
        }

    pub local_sound : SoundAt P S (local_up P S p x)
    unfolding local_up
    local_sound =
        let z = sized_length P S x s.length_agrees in
        free_sound P S s.limits S (λ j. p * S + j) (has_bit (local_bits P S p x)) local_in x z local_apart s local_right
      where
        local_right : Right (P * S) S (local_up P S p x)
        local_right = right_made (P * S) S (made_local P S s.limits x p l) (sized_length P S x s.length_agrees) s.right

  -- EVERY ACT
  pub act_sound : (x : Image) (a : Act) → SoundAt P S x → judge P S x a ≡ allowed → SoundAt P S (apply P S x a)
  unfolding judge apply perform
  act_sound x (commit os) s j =
      commit_keeps P S (SoundAt P S) (λ y o g t. (holds_perform y o g t).sound) x 1 os (check_true _ _ _ _ j).1 s
  act_sound x (single Open) s j =
      let n : get x phase ≢ 1 = eqb-false (get x phase) 1 (not-true _ (check_true _ _ _ _ j).0) in
      let b = s.phase_bit in
      open_sound x (omega arith) s
  act_sound x (single (Trace p)) s j =
      let a = check_true _ _ _ _ j in
      let b = check_true _ _ _ _ a.1 in
      let c = check_true _ _ _ _ b.1 in
      let d = check_true _ _ _ _ c.1 in
      trace_sound x p.0 (ltb-true p.0 P b.0) (eqb-true (get x phase) 1 a.0) (eqb-false (get x count) (get x allowance) (not-true _ d.0)) s
  act_sound x (single Close) s j =
      let a = check_true _ _ _ _ j in
      let b = check_true _ _ _ _ a.1 in
      let c = check_true _ _ _ _ b.1 in
      close_sound x s (check_true _ _ _ _ c.1).0
  act_sound x (single (Local p)) s j = local_sound x s p.0 (ltb-true p.0 P (check_true _ _ _ _ j).0)
  act_sound x (single (Hold h n)) s j = (holds_perform x _ (good_hold P S x h n j) s).sound
  act_sound x (single (Drop h)) s j = (holds_perform x _ (good_drop P S x h j) s).sound

  -- words 0 and 1 stay
  act_words : (x : Image) (a : Act) (h : ℕ) → h < 2 → SoundAt P S x → judge P S x a ≡ allowed → get (apply P S x a) (head h) ≡ get x (head h)
  act_words x a h l s j = made_heading (P * S) S x (apply P S x a) h l (made P S s.limits x a j (sound_linked P S x s))

  pub act_partitions : (x : Image) (a : Act) → SoundAt P S x → judge P S x a ≡ allowed → get (apply P S x a) partitions ≡ get x partitions
  act_partitions x a s j = act_words x a 0 (omega arith) s j

  pub act_slots : (x : Image) (a : Act) → SoundAt P S x → judge P S x a ≡ allowed → get (apply P S x a) slots ≡ get x slots
  act_slots x a s j = act_words x a 1 (omega arith) s j

-- and so the test, with P and S as words 0 and 1
pub act_passes : (x : Image) (a : Act) → is_sound x ≡ true → judge (get x partitions) (get x slots) x a ≡ allowed
    → is_sound (apply (get x partitions) (get x slots) x a) ≡ true
act_passes x a e j =
    let P : ℕ = get x partitions in
    let S : ℕ = get x slots in
    let s : Sound x = sound_true x e in
    sound_back (apply P S x a) (rw (act_partitions P S x a s j, act_slots P S x a s j) (act_sound P S x a s j))

-- A history from a sound image: y is sound and has x's words 0 and 1
pub record Kept (P S : ℕ) (x y : Image) : Type 0 where
  pub sound : SoundAt P S y
  pub partitions_same : get y partitions ≡ get x partitions
  pub slots_same : get y slots ≡ get x slots

module _ (P S : ℕ) (x : Image) (s : SoundAt P S x) where
  pub run_kept : {acts : List Act} {y : Image} → Run P S x acts y → Kept P S x y
  run_kept still = record { sound = s; partitions_same = refl; slots_same = refl }
  run_kept (acted {y = y} a r j) =
      let k = run_kept r in
      record {
        sound = act_sound P S y a k.sound j;
        partitions_same = act_partitions P S y a k.sound j ∙ k.partitions_same;
        slots_same = act_slots P S y a k.sound j ∙ k.slots_same;
      }

-- FORMAT leaves a sound image
module _ (P S : ℕ) where
  blank_holder : (κ : Key) → Holder (P * S) κ → get (blank P S) κ ≡ 0
  unfolding addr
  blank_holder _ (an_anchor {a = a} l) =
      blank_zero P S (anchor a) (⊎_elim (λ r. omega (arith, root_addr a r)) (λ h. omega (arith, handle_addr a h)) (lt_or_ge a roots))
  blank_holder _ (a_field {j = j} {k = k} l m) = blank_zero P S (field j k) (omega arith)

  blank_state : (j : ℕ) → get (blank P S) (state j) ≡ 0
  unfolding addr
  blank_state j = blank_zero P S (state j) (omega arith)

  blank_flag : (p : ℕ) → get (blank P S) (flag p) ≡ 0
  unfolding addr
  blank_flag p = blank_zero P S (flag p) (omega arith)

  blank_body : Body P S (blank P S)
  unfolding addr
  blank_body =
      record {
        sized = blank_sized P S;
        states = λ j l. let e = blank_state j in omega arith;
        free_slots = λ j l e.
            record {
              value = blank_zero P S (payload j) (omega arith);
              fields = λ k m. blank_holder (field j k) (a_field l m);
            };
        references = λ κ h n. absurd (n (blank_holder κ h));
        right = right_blank (P * S) S (blank P S) (λ j k m. blank_zero P S (field j k) (omega arith)) (λ i. blank_zero P S (inlist i) (omega arith));
        flag_bits = λ p l. let e = blank_flag p in omega arith;
        flags_beyond = λ p l m. blank_flag p;
      }

  blank_head : Head P S (blank P S)
  unfolding addr
  blank_head =
      let e : get (blank P S) phase ≡ 0 = blank_zero P S phase (omega arith) in
      record {
        phase_bit = omega arith;
        shut = λ z.
            record {
              counted = blank_zero P S count (omega arith);
              allowed = blank_zero P S allowance (omega arith);
              flags = λ p l. blank_flag p;
              unmarked = λ j l t. let f = blank_state j in omega arith;
            };
        opened = λ o. absurd (omega arith);
      }

  pub blank_sound : in_limits P S ≡ true → SoundAt P S (blank P S)
  blank_sound e = sound_of P S (blank P S) (limits_true P S e) blank_body blank_head

  pub blank_passes : in_limits P S ≡ true → is_sound (blank P S) ≡ true
  blank_passes e = sound_back (blank P S) (rw (blank_partitions P S, blank_slots P S) (blank_sound e))

  -- so every reached heap passes the test: refusal 1 is never given on it
  pub reached_passes : in_limits P S ≡ true → {acts : List Act} {y : Image} → Run P S (blank P S) acts y → is_sound y ≡ true
  reached_passes e {y = y} r =
      let k : Kept P S (blank P S) y = run_kept P S (blank P S) (blank_sound e) r in
      let p : get y partitions ≡ P = k.partitions_same ∙ blank_partitions P S in
      let q : get y slots ≡ S = k.slots_same ∙ blank_slots P S in
      sound_back y (rw (p, q) k.sound)

-- zeros, which a refused recovery leaves, are no sound image
pub zeros_unsound : (n : ℕ) → is_sound (replicate n 0) ≡ false
unfolding get
zeros_unsound n =
    let x : Image = replicate n 0 in
    sound_not x (λ s. let z : get x partitions ≡ 0 = zeros n (addr partitions) in let l : 0 < get x partitions = s.limits.some_partition in omega arith)
