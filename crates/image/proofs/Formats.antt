-- Format: what its judge answers by the paper's conditions, and what putting P and S into zeros leaves.
-- Assumes nothing.
use Prim.Native.Nat.{ℕ, suc, ◌+◌, ◌*◌, ◌-◌}
use mathlib.Core.Path.{◌≡◌, refl}
use mathlib.Core.Bool.{Bool, true, false}
use native.Mathlib.Omega.{arith}
use lib.Dec.{eqb}
use lib.ListN.{length, set, replicate}
use borrow.Author.Tests.{eq-eqb, eqb-true}
use Rattle.loops.proofs.Tests.{is_false, both_true}
use Rattle.loops.specs.Loop.{both}
use Rattle.kinds.proofs.Answers.{unlike}
use Rattle.kinds.specs.Answers.{refuse}
use Rattle.kinds.specs.Answers.{allowed}
use Rattle.model.proofs.Soundness.{limits_true, limits_back}
use Rattle.model.specs.Image.{Image, front, stride, length_of, size, blank}
use Rattle.model.specs.Judge.{check, in_limits, judge_format}
use Rattle.model.specs.Sound.{Limits}

module _ (p s len : ℕ) where
  pub format_so : Limits p s → len ≡ size p s → allowed ≡ judge_format p s len
  unfolding judge_format check
  format_so l e = rw (limits_back p s l, eq-eqb len (size p s) e)

  pub format_true : judge_format p s len ≡ allowed → Limits p s × (len ≡ size p s)
  unfolding judge_format check
  format_true a = go (both (in_limits p s) (eqb len (size p s))) refl a
    where
      go : (b : Bool) → both (in_limits p s) (eqb len (size p s)) ≡ b → check b 2 0 allowed ≡ allowed → Limits p s × (len ≡ size p s)
      go true e q = let b = both_true (in_limits p s) (eqb len (size p s)) e in (limits_true p s b.0, eqb-true len (size p s) b.1)
      go false e q = unlike q

  pub format_not : (Limits p s → len ≡ size p s → ⊥) → refuse 2 0 ≡ judge_format p s len
  unfolding judge_format check
  format_not h =
      rw (is_false (both (in_limits p s) (eqb len (size p s))) (λ e.
      let b = both_true (in_limits p s) (eqb len (size p s)) e in
      h (limits_true p s b.0) (eqb-true len (size p s) b.1)))

-- zeros with P and S put in are a blank image
pub formatted : (p s : ℕ) (x : Image) → length_of x ≡ size p s → set (set (replicate (length x) 0) 0 p) 1 s ≡ blank p s
unfolding blank length_of size
formatted p s x h = let e : length x ≡ suc (suc (front - 2 + stride * (p * s))) = omega arith in rw e
