-- Every heap that acts lead to from a formatting is shut, or in a phase whose invariants hold; and it is sound.
-- Assumes nothing.
use Prim.Native.Nat.{ℕ, ◌+◌, ◌*◌, ◌≤◌, ◌<◌}
use mathlib.Core.Path.{◌≡◌, ◌∙◌}
use mathlib.Core.Bool.{true, false}
use mathlib.Core.List.{List}
use mathlib.Core.Logic.{◌≢◌, ◌⊎◌, inl, inr}
use native.Mathlib.Omega.{arith}
use native.Mathlib.Nat.{mul-le-mul}
use borrow.Author.Tests.{eqb-true, eqb-false, not-true, ltb-true}
use Rattle.kinds.specs.Names.{most_partitions, most_slots}
use Rattle.kinds.specs.declared.Operation.{Operation}
use Rattle.kinds.specs.declared.Partition.{Partition}
use Rattle.kinds.specs.declared.Single.TheVariants.{Open, Trace, Close, Local, Hold, Drop}
use Rattle.kinds.specs.Answers.{allowed}
use Rattle.model.specs.Image.{Image, flag, phase, count, addr, get, blank}
use Rattle.model.specs.Acts.{Act, commit, single, local_bits, local_up, is_open, perform, apply}
use Rattle.model.specs.Judge.{led, judge}
use Rattle.model.specs.Sound.{Limits, SoundAt}
use Rattle.model.specs.History.{Run, still, acted}
use Rattle.model.proofs.Keys.{blank_zero, sized_length}
use Rattle.model.proofs.Phase.{Phase}
use Rattle.model.proofs.Tracing.{phase_trace}
use Rattle.model.proofs.Committing.{check_true, Good, commit_keeps, good_hold, good_drop, phase_perform, perform_head}
use Rattle.model.proofs.Opening.{Shut, phase_open}
use Rattle.model.proofs.Closing.{close_phase}
use Rattle.model.specs.Questions.{has_bit}
use Rattle.model.proofs.Freeing.{free_phase}
use Rattle.model.proofs.Collecting.{local_head}
use Rattle.model.proofs.Soundness.{limits_back}
use Rattle.model.proofs.SoundnessMoves.{sound_linked}
use Rattle.model.proofs.SoundnessActs.{act_sound, local_in, local_apart, blank_sound}

module _ (P S : ℕ) (limits : Limits P S) where
  -- a heap that acts lead to is shut, or in a phase whose invariants hold
  abbrev pub Heap : Image → Type 0
  Heap x = (get x phase ≡ 0) ⊎ Phase P S x

  pub is_open_lem : (x : Image) → Heap x → is_open x ≡ true → Phase P S x
  is_open_lem x (inl e) o = let p : get x phase ≡ 1 = eqb-true _ _ o in absurd (omega arith)
  is_open_lem x (inr ph) o = ph

  -- a sound heap with the phase shut
  pub is_shut : (x : Image) → SoundAt P S x → is_open x ≡ false → Shut P S limits x
  is_shut x s e =
      let n : get x phase ≢ 1 = eqb-false _ _ e in
      let b = s.phase_bit in
      record { linked = sound_linked P S x s; plain = (s.shut (omega arith)).unmarked }

  -- what the passed checks of an accepted trace and an accepted close tell
  pub traced_is : (x : Image) (p : Partition) → judge P S x (single (Trace p)) ≡ allowed → (is_open x ≡ true) × (p.0 < P) × (get x (flag p.0) ≡ 0)
  unfolding judge
  traced_is x p j =
      let a = check_true _ _ _ _ j in
      let b = check_true _ _ _ _ a.1 in
      (a.0, ltb-true _ _ b.0, eqb-true _ _ (check_true _ _ _ _ b.1).0)

  pub closed_is : (x : Image) → judge P S x (single Close) ≡ allowed → (is_open x ≡ true) × (led P S x ≡ true)
  unfolding judge
  closed_is x j =
      let a = check_true _ _ _ _ j in
      let b = check_true _ _ _ _ (check_true _ _ _ _ a.1).1 in
      (a.0, (check_true _ _ _ _ b.1).0)

  pub opened_is : (x : Image) → judge P S x (single Open) ≡ allowed → is_open x ≡ false
  unfolding judge
  opened_is x j = not-true _ (check_true _ _ _ _ j).0

  heap_perform : (x : Image) (o : Operation) → Good P S x o → Heap x → Heap (perform S x o)
  heap_perform x o g (inl e) = inl (perform_head P S limits x o 2 (omega arith) g ∙ e)
  heap_perform x o g (inr ph) = inr (phase_perform P S limits x o g ph)

  heap_keeps : (x : Image) (a : Act) → judge P S x a ≡ allowed → SoundAt P S x → Heap x → Heap (apply P S x a)
  unfolding judge apply local_up perform
  heap_keeps x (commit os) j w h = commit_keeps P S Heap heap_perform x 1 os (check_true _ _ _ _ j).1 h
  heap_keeps x (single Open) j s h = inr (phase_open P S limits x (sound_linked P S x s))
  heap_keeps x (single (Trace p)) j w h = let t = traced_is x p j in inr (phase_trace P S limits p.0 t.1 x (is_open_lem x h t.0) t.2)
  heap_keeps x (single Close) j s h = inl (close_phase P S limits x (sound_linked P S x s))
  heap_keeps x (single (Local p)) j s (inl e) = inl (local_head P S p.0 (ltb-true p.0 P (check_true _ _ _ _ j).0) x s 2 (omega arith) ∙ e)
  heap_keeps x (single (Local p)) j s (inr ph) =
      let l = ltb-true p.0 P (check_true _ _ _ _ j).0 in
      inr (free_phase P S limits S (λ i. p.0 * S + i) (has_bit (local_bits P S p.0 x)) (local_in P S x s p.0 l) x (sized_length P S x s.length_agrees) (local_apart P S x s p.0 l) ph)
  heap_keeps x (single (Hold h n)) j s g = heap_perform x _ (good_hold P S x h n j) g
  heap_keeps x (single (Drop h)) j s g = heap_perform x _ (good_drop P S x h j) g

  -- What holds of every heap that acts lead to
  pub record Reached (x : Image) : Type 0 where
    pub sound : SoundAt P S x
    pub heap : Heap x

  pub act_keeps : (x : Image) (a : Act) → judge P S x a ≡ allowed → Reached x → Reached (apply P S x a)
  act_keeps x a j g = record { sound = act_sound P S x a g.sound j; heap = heap_keeps x a j g.sound g.heap }

  pub run_reached : (x : Image) → Reached x → (acts : List Act) (y : Image) → Run P S x acts y → Reached y
  run_reached x g _ _ still = g
  run_reached x g _ _ (acted {acts = acts} {y = y} a r j) = act_keeps y a j (run_reached x g acts y r)

  -- from a formatting
  pub reached : (acts : List Act) (y : Image) → Run P S (blank P S) acts y → Reached y
  unfolding addr
  reached acts y r = run_reached (blank P S) (record { sound = blank_sound P S (limits_back P S limits); heap = inl (blank_zero P S phase (omega arith)) }) acts y r

-- what the code of an accepted trace asks for: its partition is one of P, and one trace more can be counted
pub trace_ready : (P S : ℕ) (x : Image) (p : Partition) → SoundAt P S x → judge P S x (single (Trace p)) ≡ allowed → (p.0 < P) × (get x count < 4294967295)
trace_ready P S x p s j =
    let t = traced_is P S s.limits x p j in
    let h = s.opened (eqb-true _ _ t.0) in
    let m : P * S ≤ most_partitions * most_slots = mul-le-mul s.limits.partitions_most s.limits.slots_most in
    (t.1, omega (arith, h.allowed, h.counted, s.limits.partitions_most, m))

-- and that of an accepted local collection
pub local_ready : (P S : ℕ) (x : Image) (p : Partition) → judge P S x (single (Local p)) ≡ allowed → p.0 < P
unfolding judge
local_ready P S x p j = ltb-true p.0 P (check_true _ _ _ _ j).0
