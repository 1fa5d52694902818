-- Which refusals can come: in a phase any partition that is not clean can be traced, and the phase can close when all are clean and a root is in use;
-- 15 and 16 never come; with no root in use no phase opens or closes.
-- Assumes nothing.
use Prim.Native.Nat.{ℕ, ◌+◌, ◌*◌, ◌<◌}
use mathlib.Core.Path.{◌≡◌, refl, subst}
use mathlib.Core.Bool.{Bool, true, false, not, cond}
use mathlib.Core.List.{List, [], ◌∷◌}
use mathlib.Core.Logic.{◌≢◌}
use native.Mathlib.Omega.{arith}
use native.Mathlib.Decide.{ℕ_discrete}
use lib.Dec.{eqb}
use borrow.Author.Tests.{eqb-true, eqb-false, eq-eqb, ne_eqb, ltb-true, lt-ltb}
use Rattle.loops.specs.Loop.{every}
use Rattle.loops.proofs.Loops.{tally_zero, tally_some, every_so}
use Rattle.kinds.specs.Answers.{refuse}
use Rattle.kinds.specs.declared.Operation.{Operation}
use Rattle.kinds.specs.declared.Operation.TheVariants.{New, Set, Val, Root}
use Rattle.kinds.specs.declared.Partition.{Partition}
use Rattle.kinds.specs.declared.Single.TheVariants.{Open, Trace, Close, Local, Hold, Drop}
use Rattle.kinds.specs.Answers.{Verdict}
use Rattle.std.specs.Prelude.{Ok, Err}
use Rattle.kinds.specs.Answers.{allowed}
use Rattle.model.specs.Image.{Image, Key, anchor, flag, state, field, count, allowance, anchors, get, place_of, part_of, an_anchor, a_field}
use Rattle.model.specs.Acts.{Act, commit, single, marked, is_open, perform, not_clean}
use Rattle.model.specs.Judge.{check, and_then, judge_op, judge_ops, rooted, leads_on, led, judge_name, judge}
use Rattle.model.specs.Sound.{Limits}
use Rattle.model.proofs.Places.{parts}
use Rattle.model.proofs.Phase.{Phase, open_true}
use Rattle.model.proofs.Reaching.{Heap, is_open_lem}

-- an answer other than 15 and 16
Mild : Verdict → Type 0
Mild (Ok _) = Unit {0}
Mild (Err r) = (r.number ≢ 15) × (r.number ≢ 16)

check_mild : (b : Bool) (n e : ℕ) (v : Verdict) → n < 15 → (b ≡ true → Mild v) → Mild (check b n e v)
unfolding check Mild
check_mild true n e v l h = h refl
check_mild false n e v l h = ((λ q. omega arith), (λ q. omega arith))

pass_mild : (b : Bool) (n e : ℕ) → b ≡ true → Mild (check b n e allowed)
unfolding check Mild
pass_mild b n e q = rw q tt

then_mild : (u v : Verdict) → Mild u → Mild v → Mild (and_then u v)
unfolding and_then
then_mild (Ok _) v h k = k
then_mild (Err r) v h k = h

op_mild : (P S : ℕ) (x : Image) (e : ℕ) (o : Operation) → Mild (judge_op P S x e o)
unfolding judge_op Mild
op_mild P S x e (New n v) = check_mild _ 7 e _ (omega arith) (λ a. check_mild _ 8 e _ (omega arith) (λ b. tt))
op_mild P S x e (Set n k t) = check_mild _ 7 e _ (omega arith) (λ a. check_mild _ 9 e _ (omega arith) (λ b. check_mild _ 9 e _ (omega arith) (λ c. tt)))
op_mild P S x e (Val n v) = check_mild _ 7 e _ (omega arith) (λ a. check_mild _ 9 e _ (omega arith) (λ b. tt))
op_mild P S x e (Root r t) = check_mild _ 7 e _ (omega arith) (λ a. check_mild _ 9 e _ (omega arith) (λ b. tt))

ops_mild : (P S : ℕ) (x : Image) (e : ℕ) (os : List Operation) → Mild (judge_ops P S x e os)
unfolding judge_ops Mild
ops_mild P S x e [] = tt
ops_mild P S x e (o ∷ os) = then_mild _ _ (op_mild P S x e o) (ops_mild P S (perform S x o) (e + 1) os)

pub all_clean : (P : ℕ) (x : Image) → not_clean P x ≡ 0 → (p : ℕ) → p < P → get x (flag p) ≢ 0
unfolding not_clean
all_clean P x e p l = eqb-false _ _ (tally_zero P _ e p l)

leads_on_lem : (S : ℕ) (x : Image) (κ : Key) → (get x κ ≢ 0 → get x (state (place_of S (get x κ))) ≡ 2) → leads_on S x κ ≡ true
leads_on_lem S x κ h = go (ℕ_discrete (get x κ) 0)
  where
    go : Dec (get x κ ≡ 0) → leads_on S x κ ≡ true
    go (yes e) = rw e
    go (no e) = rw (ne_eqb _ _ e) (eq-eqb _ _ (h e))

-- with no root in use
module _ (P S : ℕ) (x : Image) (e : rooted x ≡ false) where
  pub rootless_opening : judge P S x (single Open) ≡ cond (is_open x) (refuse 11 0) (refuse 12 0)
  unfolding judge check
  rootless_opening = rw e (go (is_open x))
    where
      go : (b : Bool) → check (not b) 11 0 (check false 12 0 allowed) ≡ cond b (refuse 11 0) (refuse 12 0)
      go true = refl
      go false = refl

  pub rootless_closing : judge P S x (single Close) ≡ cond (is_open x) (refuse 12 0) (refuse 10 0)
  unfolding judge check
  rootless_closing = rw e (go (is_open x))
    where
      go : (b : Bool) → check b 10 0 (refuse 12 0) ≡ cond b (refuse 12 0) (refuse 10 0)
      go true = refl
      go false = refl

module _ (P S : ℕ) (limits : Limits P S) where
  -- in a phase the count is below the allowance while a partition is not clean
  room : (x : Image) (p : ℕ) → Phase P S x → p < P → get x (flag p) ≡ 0 → not (eqb (get x count) (get x allowance)) ≡ true
  unfolding not_clean
  room x p ph l f =
      let n = tally_some P (λ p. eqb (get x (flag p)) 0) p l (eq-eqb _ _ f) in
      let b = ph.budget.within in
      rw (ne_eqb (get x count) (get x allowance) (λ q. omega arith))

  -- with all partitions clean, refusal 16 has nothing to find
  marks_lead : (x : Image) → Phase P S x → not_clean P x ≡ 0 → led P S x ≡ true
  unfolding led
  marks_lead x ph all =
      let roots : every anchors (λ r. leads_on S x (anchor r)) ≡ true = every_so anchors _ (λ r l. leads_on_lem S x (anchor r) (λ ne. ph.clean.leads (anchor r) (an_anchor l) tt ne)) in
      rw roots (every_so (P * S) _ (λ i l. go i l (marked x i) refl))
    where
      go : (i : ℕ) → i < P * S → (b : Bool) → marked x i ≡ b → cond b (every 4 (λ k. leads_on S x (field i k))) true ≡ true
      go i l true e =
          every_so 4 _
          (λ k m. leads_on_lem S x (field i k) (λ ne. ph.clean.leads (field i k) (a_field l m) (eqb-true _ _ e, all_clean P x all (part_of S i) (parts P S limits.some_slot i l)) ne))
      go i l false e = refl

  -- any partition that is not clean can be traced
  pub can_trace : (x : Image) (p : Partition) → Phase P S x → p.0 < P → get x (flag p.0) ≡ 0 → judge P S x (single (Trace p)) ≡ allowed
  unfolding judge check
  can_trace x p ph l f = rw (open_true P S limits x ph, lt-ltb p.0 P l, f, room x p.0 ph l f)

  -- and when all are clean and a root is in use, the phase can close
  pub can_close : (x : Image) → Phase P S x → not_clean P x ≡ 0 → rooted x ≡ true → judge P S x (single Close) ≡ allowed
  unfolding judge check
  can_close x ph all r = rw (open_true P S limits x ph, r, all, marks_lead x ph all)

  mild : (x : Image) → Heap P S limits x → (a : Act) → Mild (judge P S x a)
  unfolding judge judge_name Mild
  mild x h (commit os) = check_mild _ 6 0 _ (omega arith) (λ a. ops_mild P S x 1 os)
  mild x h (single Open) = check_mild _ 11 0 _ (omega arith) (λ a. check_mild _ 12 0 _ (omega arith) (λ b. tt))
  mild x h (single (Trace p)) =
      check_mild _ 10 0 _ (omega arith)
      (λ a. check_mild _ 7 0 _ (omega arith) (λ l. check_mild _ 13 0 _ (omega arith) (λ f. pass_mild _ 15 0 (room x p.0 (is_open_lem P S limits x h a) (ltb-true _ _ l) (eqb-true _ _ f)))))
  mild x h (single Close) =
      check_mild _ 10 0 _ (omega arith)
      (λ a. check_mild _ 12 0 _ (omega arith) (λ l. check_mild _ 14 _ _ (omega arith) (λ f. pass_mild _ 16 0 (marks_lead x (is_open_lem P S limits x h a) (eqb-true _ _ f)))))
  mild x h (single (Local p)) = check_mild _ 7 0 _ (omega arith) (λ a. check_mild _ 12 0 _ (omega arith) (λ b. tt))
  mild x h (single (Hold g n)) = check_mild _ 7 0 _ (omega arith) (λ a. check_mild _ 7 0 _ (omega arith) (λ b. check_mild _ 9 0 _ (omega arith) (λ u. tt)))
  mild x h (single (Drop g)) = check_mild _ 7 0 _ (omega arith) (λ a. tt)

  -- 15 and 16 never come
  pub never_15_16 : (x : Image) → Heap P S limits x → (a : Act) (e : ℕ) → (judge P S x a ≢ refuse 15 e) × (judge P S x a ≢ refuse 16 e)
  unfolding Mild
  never_15_16 x h a e = let m = mild x h a in (λ q. (subst Mild q m).0 refl, λ q. (subst Mild q m).1 refl)
