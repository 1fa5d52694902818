-- Zeroed memory never widens an act: six words of no kind are refused with 7, at their position, whatever stands after them.
-- Assumes nothing.
use Prim.Native.Nat.{ℕ, ◌+◌, ◌≤◌}
use mathlib.Core.Path.{◌≡◌, ap, ◌∙◌}
use mathlib.Core.Bool.{false}
use mathlib.Core.List.{List, [], ◌∷◌, ◌++◌, map}
use native.Mathlib.Omega.{arith}
use lib.Dec.{eqb}
use lib.ListN.{length, get_or}
use borrow.Author.Tests.{ne_eqb}
use Rattle.kinds.specs.Answers.{refuse}
use Rattle.kinds.specs.Answers.{allowed}
use Rattle.model.specs.Image.{Image}
use Rattle.model.specs.Acts.{perform}
use Rattle.model.specs.Judge.{check, and_then, judge_op, judge_ops}
use Rattle.model.proofs.Committing.{then_true}
use Rattle.heidrunok.specs.Face.{operation_by, operation_of}

-- a kind that is none of 1 to 6
abbrev pub NoKind : List ℕ → Type 0
NoKind w = (k : ℕ) → 1 ≤ k → k ≤ 6 → get_or w 0 0 ≡ k → ⊥

module _ (P S : ℕ) where
  pub unknown_refused : (img : Image) (e : ℕ) (w : List ℕ) → NoKind w → judge_op P S img e (operation_of w) ≡ refuse 7 e
  unfolding operation_of operation_by judge_op check
  unknown_refused img e w h =
      let n : (k : ℕ) → 1 ≤ k → k ≤ 6 → eqb (get_or w 0 0) k ≡ false = λ k l m. ne_eqb _ _ (h k l m) in
      simp (n 1 (omega arith) (omega arith), n 2 (omega arith) (omega arith), n 3 (omega arith) (omega arith), n 4 (omega arith) (omega arith), n 5 (omega arith) (omega arith), n 6 (omega arith) (omega arith))

  -- in a transaction, where those before it are accepted
  pub unknown_among : (us : List (List ℕ)) (w : List ℕ) (vs : List (List ℕ)) (img : Image) (e : ℕ) → NoKind w
      → judge_ops P S img e (map operation_of us) ≡ allowed → judge_ops P S img e (map operation_of (us ++ w ∷ vs)) ≡ refuse 7 (e + length us)
  unfolding judge_ops and_then
  unknown_among [] w vs img e h j = let z : e + 0 ≡ e = omega arith in rw (unknown_refused img e w h, z)
  unknown_among (u ∷ us) w vs img e h j =
      let t = then_true (judge_op P S img e (operation_of u)) _ j in
      rw t.0 (unknown_among us w vs (perform S img (operation_of u)) (e + 1) h t.1 ∙ ap (refuse 7) (omega arith))
