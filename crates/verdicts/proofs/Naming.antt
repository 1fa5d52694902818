-- The judge of a name, check by check; and what it accepts has its place in the image.
-- Assumes nothing.
use Prim.Native.Nat.{ℕ, ◌*◌, ◌≤◌, ◌<◌}
use mathlib.Core.Path.{◌≡◌, refl}
use mathlib.Core.Bool.{Bool, true, false}
use mathlib.Core.Logic.{◌≢◌}
use native.Mathlib.Omega.{arith}
use lib.Arith.{digits_lt}
use lib.Dec.{ltb}
use borrow.Author.Tests.{ltb-true, lt-ltb, le-ltb, eq-eqb, ne_eqb}
use Rattle.loops.proofs.Tests.{both_true, both_false}
use Rattle.kinds.specs.Answers.{refuse}
use Rattle.kinds.specs.declared.Name.{Name}
use Rattle.kinds.specs.Answers.{Verdict}
use Rattle.kinds.specs.Answers.{allowed}
use Rattle.model.specs.Image.{Image, state, get, place}
use Rattle.model.specs.Judge.{judge_name, check, in_heap}

module _ (P S : ℕ) (x : Image) (n : Name) where
  pub judge_partition : P ≤ n.partition.0 → refuse 7 0 ≡ judge_name P S x n
  unfolding judge_name check
  judge_partition h = rw (le-ltb n.partition.0 P h)

  pub judge_slot : S ≤ n.slot.0 → refuse 7 0 ≡ judge_name P S x n
  unfolding judge_name check
  judge_slot h = rw (le-ltb n.slot.0 S h, both_false (ltb n.partition.0 P))

  module _ (p : n.partition.0 < P) (s : n.slot.0 < S) (j v : ℕ) (at : j ≡ place S n) (e : v ≡ get x (state j)) where
    pub judge_absent : v ≡ 0 → refuse 9 0 ≡ judge_name P S x n
    unfolding judge_name check
    judge_absent h = rw (lt-ltb n.partition.0 P p, lt-ltb n.slot.0 S s, ← at, ← e, eq-eqb v 0 h)

    pub judge_accepts : v ≢ 0 → allowed ≡ judge_name P S x n
    unfolding judge_name check
    judge_accepts h = rw (lt-ltb n.partition.0 P p, lt-ltb n.slot.0 S s, ← at, ← e, ne_eqb v 0 h)

  -- what is known of an accepted name
  pub accepted_in : judge_name P S x n ≡ allowed → place S n < P * S
  unfolding judge_name check
  accepted_in e = go (in_heap P S n) refl _ e
    where
      go : (b : Bool) → in_heap P S n ≡ b → (v : Verdict) → check b 7 0 v ≡ allowed → place S n < P * S
      go true q v e = let h = both_true (ltb n.partition.0 P) (ltb n.slot.0 S) q in digits_lt (ltb-true _ _ h.0) (ltb-true _ _ h.1)
      go false q v e = let z : ◌≡◌ {A = ℕ} 0 1 = cc in absurd (omega arith)
