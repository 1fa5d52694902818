-- A phase takes at most P + W traces, and word 3 is the number of accepted traces since its opening.
-- Assumes nothing.
use Prim.Native.Nat.{ℕ, ◌+◌, ◌*◌, ◌≤◌, ◌<◌}
use mathlib.Core.Path.{◌≡◌, refl, ap, ◌∙◌}
use mathlib.Core.Bool.{false}
use mathlib.Core.List.{List}
use native.Mathlib.Omega.{arith}
use borrow.Author.Tests.{ltb-true}
use Rattle.loops.proofs.Tests.{clash}
use Rattle.kinds.specs.declared.Operation.{Operation}
use Rattle.kinds.specs.declared.Single.TheVariants.{Open, Trace, Close, Local, Hold, Drop}
use Rattle.model.specs.Image.{Image, Key, flag, state, count, allowance, get}
use Rattle.model.specs.Acts.{Act, commit, single, local_bits, local_up, perform, inside, outside, finish, trace_one, apply}
use Rattle.model.specs.Judge.{judge}
use Rattle.model.specs.History.{Run, still, acted, traces, Unclosed, unanchored}
use Rattle.model.proofs.Keys.{Fits, same, get_put_apart, sized_put, get_put_same, sized_length}
use Rattle.model.proofs.Moves.{Linked}
use Rattle.model.proofs.Phase.{Phase, open_true}
use Rattle.model.proofs.Tracing.{MoreMarks, more_inside, more_outside, phase_trace}
use Rattle.model.proofs.Committing.{check_true, Good, commit_keeps, good_hold, good_drop, phase_perform, perform_head}
use Rattle.model.proofs.Opening.{Shut, open_count, phase_open, open_allows}
use Rattle.model.proofs.Reaching.{traced_is, opened_is}
use Rattle.model.specs.Questions.{has_bit}
use Rattle.model.specs.Sound.{Limits, SoundAt}
use Rattle.model.proofs.Freeing.{free_phase}
use Rattle.model.proofs.Collecting.{local_head}
use Rattle.model.proofs.SoundnessActs.{run_kept, local_in, local_apart}

module _ (P S : ℕ) (limits : Limits P S) where
  -- in a phase: the count, and the allowance that was set at its opening
  pub record Counted (c al : ℕ) (x : Image) : Type 0 where
    pub phase : Phase P S x
    pub counted : get x count ≡ c
    pub allowed : get x allowance ≡ al

  counted_perform : {c al : ℕ} (z : Image) (o : Operation) → Good P S z o → Counted c al z → Counted c al (perform S z o)
  counted_perform z o g q =
      record {
        phase = phase_perform P S limits z o g q.phase;
        counted = perform_head P S limits z o 3 (omega arith) g ∙ q.counted;
        allowed = perform_head P S limits z o 4 (omega arith) g ∙ q.allowed;
      }

  -- a trace leaves every word that is no state, no flag and not the count
  module _ (x : Image) (p : ℕ) (l : p < P) (w : Linked P S x) where
    marks : MoreMarks P S limits x (inside S p x) × MoreMarks P S limits (inside S p x) (outside S p (inside S p x))
    marks = let i = more_inside P S limits p l x w in (i, more_outside P S limits p l (inside S p x) i.linked)

    marks_other : (μ : Key) → Fits μ → ((t : ℕ) → same (state t) μ ≡ false) → ((q : ℕ) → same (flag q) μ ≡ false) → get (outside S p (inside S p x)) μ ≡ get x μ
    marks_other μ f a b = marks.1.words μ f a b ∙ marks.0.words μ f a b

    pub trace_other : (μ : Key) → Fits μ → ((t : ℕ) → same (state t) μ ≡ false) → ((q : ℕ) → same (flag q) μ ≡ false) → same count μ ≡ false
        → get (trace_one S p x) μ ≡ get x μ
    unfolding trace_one finish
    trace_other μ f a b c =
        get_put_apart _ count _ μ (omega arith) f c ∙ get_put_apart _ (flag p) 1 μ (omega arith) f (b p) ∙ marks_other μ f a b

    trace_count : get (trace_one S p x) count ≡ get x count + 1
    unfolding trace_one finish
    trace_count =
        get_put_same (P * S) _ count _ (sized_put _ _ _ _ marks.1.linked.size) (omega arith) ∙
        ap (λ (n : ℕ). n + 1) (marks_other count (omega arith) (λ t. refl) (λ q. refl))

  pub counted_trace : (x : Image) (p c al : ℕ) → p < P → get x (flag p) ≡ 0 → Counted c al x → Counted (c + 1) al (trace_one S p x)
  counted_trace x p c al l f g =
      record {
        phase = phase_trace P S limits p l x g.phase f;
        counted = trace_count x p l g.phase.linked ∙ ap (λ (n : ℕ). n + 1) g.counted;
        allowed = trace_other x p l g.phase.linked allowance (omega arith) (λ t. refl) (λ q. refl) refl ∙ g.allowed;
      }

  -- a local collection changes neither
  counted_local : (x : Image) (p c al : ℕ) (l : p < P) (s : SoundAt P S x) → Counted c al x → Counted c al (local_up P S p x)
  unfolding local_up
  counted_local x p c al l s g =
      let z = sized_length P S x s.length_agrees in
      let a = local_apart P S x s p l in
      record {
        phase = free_phase P S limits S (λ i. p * S + i) (has_bit (local_bits P S p x)) (local_in P S x s p l) x z a g.phase;
        counted = local_head P S p l x s 3 (omega arith) ∙ g.counted;
        allowed = local_head P S p l x s 4 (omega arith) ∙ g.allowed;
      }

  -- whatever is committed meanwhile and in whatever order partitions are traced
  pub counts : (x : Image) → Shut P S limits x → SoundAt P S (apply P S x (single Open)) → (acts : List Act) (y : Image) → Run P S (apply P S x (single Open)) acts y → Unclosed acts → Counted (traces acts) (P + unanchored P S x) y
  unfolding traces judge apply perform
  counts x sh so _ _ still u = record { phase = phase_open P S limits x sh.linked; counted = open_count P S limits x sh.linked; allowed = open_allows P S limits x sh }
  counts x sh so _ _ (acted {acts = acts} {y = y} (commit os) r j) u =
      commit_keeps P S (Counted (traces acts) (P + unanchored P S x)) counted_perform y 1 os (check_true _ _ _ _ j).1 (counts x sh so acts y r u)
  counts x sh so _ _ (acted {acts = acts} {y = y} (single Open) r j) u =
      absurd (clash (open_true P S limits y (counts x sh so acts y r u).phase) (opened_is P S limits y j))
  counts x sh so _ _ (acted {acts = acts} {y = y} (single (Trace p)) r j) u =
      let t = traced_is P S limits y p j in
      counted_trace y p.0 _ _ t.1 t.2 (counts x sh so acts y r u)
  counts x sh so _ _ (acted {acts = acts} {y = y} (single Close) r j) u = absurd u
  counts x sh so _ _ (acted {acts = acts} {y = y} (single (Local p)) r j) u =
      counted_local y p.0 _ _ (ltb-true p.0 P (check_true _ _ _ _ j).0) (run_kept P S _ so r).sound (counts x sh so acts y r u)
  counts x sh so _ _ (acted {acts = acts} {y = y} (single (Hold h n)) r j) u = counted_perform y _ (good_hold P S y h n j) (counts x sh so acts y r u)
  counts x sh so _ _ (acted {acts = acts} {y = y} (single (Drop h)) r j) u = counted_perform y _ (good_drop P S y h j) (counts x sh so acts y r u)

  pub at_most : (x : Image) → Shut P S limits x → SoundAt P S (apply P S x (single Open)) → (acts : List Act) (y : Image) → Run P S (apply P S x (single Open)) acts y → Unclosed acts → traces acts ≤ P + unanchored P S x
  at_most x sh so acts y r u =
      let g = counts x sh so acts y r u in
      let b = g.phase.budget.within in
      let c = g.counted in
      let a = g.allowed in
      omega arith
