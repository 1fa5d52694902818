-- Progress: in a phase, tracing the lowest partition that is not clean, again and again, leaves all clean before the count passes the allowance, and no root is
-- touched; so a phase with a root in use can always be closed.
-- Assumes nothing.
use Prim.Native.Nat.{ℕ, zero, suc, ◌+◌, ◌≤◌, ◌<◌}
use mathlib.Core.Path.{◌≡◌, refl, sym, ap}
use mathlib.Core.Bool.{true, not}
use mathlib.Core.List.{List, [], ◌∷◌}
use mathlib.Core.Logic.{◌≢◌, ⊎_elim}
use native.Mathlib.Omega.{arith}
use lib.Dec.{eqb}
use lib.ListN.{length}
use borrow.Author.Tests.{eqb-true, not-true}
use Rattle.loops.proofs.Tests.{eq_or_ne, lt_or_ge}
use Rattle.loops.proofs.Loops.{every_false}
use Rattle.loops.proofs.Turns.{every_fails}
use Rattle.loops.proofs.Walks.{first_some, first_none, tally_none_pass}
use Rattle.kinds.specs.Names.{partition, roots}
use Rattle.kinds.specs.declared.Single.TheVariants.{Trace, Close}
use Rattle.kinds.specs.Answers.{allowed}
use Rattle.model.specs.Image.{Image, root, flag, count, get}
use Rattle.model.specs.Acts.{single, not_clean, trace_one, apply}
use Rattle.model.specs.Judge.{rooted, lowest, judge}
use Rattle.model.specs.Sound.{Limits}
use Rattle.model.proofs.Refusing.{can_trace, can_close}
use Rattle.model.proofs.Bound.{Counted, trace_other, counted_trace}

-- the lowest partition that is not clean is traced, again and again, until all are clean: the partitions in this order, and the heap that is left
pub data LowestFirst (P S : ℕ) : Image → List ℕ → Image → Type 0 where
  all_clean : {y : Image} → not_clean P y ≡ 0 → LowestFirst P S y [] y
  tracing : {y z : Image} {ps : List ℕ} → not_clean P y ≢ 0 → judge P S y (single (Trace (partition (lowest P y)))) ≡ allowed → LowestFirst P S (apply P S y (single (Trace (partition (lowest P y))))) ps z
      → LowestFirst P S y (lowest P y ∷ ps) z

-- a phase on y that can be ended with at most n traces in all
pub record Ends (P S n : ℕ) (y : Image) : Type 0 where
  pub order : List ℕ
  pub heap : Image
  pub lowest_first : LowestFirst P S y order heap
  pub few : get y count + length order ≤ n
  pub closable : rooted y ≡ true → judge P S heap (single Close) ≡ allowed

-- where a partition is not clean, the lowest is one
pub lowest_unclean : (P : ℕ) (y : Image) → not_clean P y ≢ 0 → (lowest P y < P) × (get y (flag (lowest P y)) ≡ 0)
unfolding not_clean lowest
lowest_unclean P y ne =
    ⊎_elim (λ l. (l, eqb-true _ _ (first_some (λ p. eqb (get y (flag p)) 0) P 0 (omega arith))))
    (λ l. absurd (ne (tally_none_pass P _ (λ p m. first_none (λ p. eqb (get y (flag p)) 0) P 0 (omega arith) p (omega arith) (omega arith)))))
    (lt_or_ge (lowest P y) P)

-- a root in use stays in use
rooted_stays : (x y : Image) → ((r : ℕ) → r < roots → get y (root r) ≡ get x (root r)) → rooted x ≡ true → rooted y ≡ true
unfolding rooted
rooted_stays x y h e =
    let r = every_false roots (λ r. eqb (get x (root r)) 0) (not-true _ e) in
    ap not (sym (every_fails (λ r. eqb (get y (root r)) 0) roots r.0 r.1 (rw (h r.0 r.1) r.2)))

module _ (P S : ℕ) (limits : Limits P S) where
  ends_clean : {c al : ℕ} (y : Image) → Counted P S limits c al y → not_clean P y ≡ 0 → Ends P S al y
  ends_clean y g e =
      record { order = []; heap = y; lowest_first = all_clean e; few = omega arith; closable = λ r. can_close P S limits y g.phase e r }

  -- by the number of traces that the allowance leaves
  ends : (n c al : ℕ) (y : Image) → al ≤ c + n → Counted P S limits c al y → Ends P S al y
  unfolding apply
  ends zero c al y l g = ends_clean y g (omega arith)
  ends (suc n) c al y l g =
      ⊎_elim (ends_clean y g)
      (λ ne.
      let p = lowest P y in
      let u = lowest_unclean P y ne in
      let t = counted_trace P S limits y p c al u.0 u.1 g in
      let e = ends n (c + 1) al (trace_one S p y) (omega arith) t in
      record {
        order = p ∷ e.order;
        heap = e.heap;
        lowest_first = tracing ne (can_trace P S limits y (partition p) g.phase u.0 u.1) e.lowest_first;
        few = omega (arith, t.counted, e.few);
        closable = λ r. e.closable (rooted_stays y (trace_one S p y) (λ i l. trace_other P S limits y p u.0 g.phase.linked (root i) (omega arith) (λ t. refl) (λ q. refl) refl) r);
      })
      (eq_or_ne (not_clean P y) 0)

  pub progress : {c al : ℕ} (y : Image) → Counted P S limits c al y → Ends P S al y
  progress {c} {al} y g = ends al c al y (omega arith) g
