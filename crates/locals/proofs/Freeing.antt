-- Where exactly the places that stay are noted, what is freed and how many is the model's answer.
-- Assumes nothing.
use Prim.Native.Nat.{ℕ, zero, suc, ◌+◌, ◌*◌}
use mathlib.Core.Path.{◌≡◌, refl, ap, ◌∙◌}
use mathlib.Core.Bool.{Bool, true, false, not, cond}
use mathlib.Core.Logic.{◌≢◌}
use Rattle.std.specs.Prelude.{count_by}
use Rattle.std.specs.List.{range_with_len, fold}
use mathlib.Core.List.{List}
use native.Mathlib.Omega.{arith}
use lib.Dec.{eqb}
use lib.ListN.{get_or}
use borrow.Author.Tests.{eq-eqb, ne_eqb}
use Rattle.loops.specs.Loop.{both, bit, each, tally}
use Rattle.loops.proofs.Loops.{tally_same}
use Rattle.loops.proofs.Walks.{each_same}
use Rattle.model.specs.Image.{Image, state, get}
use Rattle.model.specs.Acts.{used, clear, free_but, local_up, local_freed}
use Rattle.model.specs.Questions.{Bits, has_bit}
use Rattle.locals.specs.Slots.{Kept, lost_at, settle_of}

-- a chain that counts the numbers below n that pass
module _ (f : ℕ → Bool) where
  counts : ℕ → List ℕ → ℕ
  counts c xs = fold (λ (d x : ℕ). d + cond (f x) 1 0) c xs

  is_bit : (b : Bool) → cond b 1 0 ≡ bit b
  is_bit true = refl
  is_bit false = refl

  counts_more : (n a c : ℕ) → counts c (range_with_len a (suc n)) ≡ counts c (range_with_len a n) + bit (f (a + n))
  unfolding counts
  counts_more zero a c = ap (λ (v : ℕ). c + v) (is_bit (f a)) ∙ ap (λ (v : ℕ). c + bit (f v)) (omega arith)
  counts_more (suc n) a c = let d : ℕ = c + cond (f a) 1 0 in counts_more n (a + 1) d ∙ ap (λ (v : ℕ). counts d (range_with_len (a + 1) n) + bit (f v)) (omega arith)

  pub count_range : (n : ℕ) → count_by f (range_with_len 0 n) ≡ tally n f
  unfolding tally counts
  count_range zero = refl
  count_range (suc n) = counts_more n 0 0 ∙ (ap (λ (v : ℕ). counts 0 (range_with_len 0 n) + bit (f v)) (omega arith) ∙ ap (λ (v : ℕ). v + bit (f n)) (count_range n))

module _ (P S p : ℕ) (x : Image) (marks : Bits) (kept : Kept P S p x marks) where
  pub freed : each S (λ y k. settle_of S marks y (p * S + k)) x ≡ local_up P S p x
  unfolding local_up free_but Kept
  freed = each_same _ _ S x (λ y k l. ap (λ (b : Bool). cond b y (clear S y (p * S + k))) (kept (p * S + k)))

  pub number : tally S (lost_at S p x marks) ≡ local_freed P S p x
  unfolding local_freed Kept
  number = tally_same S _ _ (λ k l. ap (λ (b : Bool). both (used x (p * S + k)) (not b)) (kept (p * S + k)))

-- one slot of the count
module _ (S p : ℕ) (x : Image) (marks : Bits) (k : ℕ) where
  pub lost_noted : get_or marks (p * S + k) 0 ≡ 1 → not (eqb (get_or marks (p * S + k) 0) 1) ≡ lost_at S p x marks k
  unfolding has_bit
  lost_noted h = rw (eq-eqb _ _ h) (go (used x (p * S + k)))
    where
      go : (b : Bool) → false ≡ both b false
      go true = refl
      go false = refl

  pub lost_else : get_or marks (p * S + k) 0 ≢ 1 → {w : ℕ} → w ≡ get x (state (p * S + k)) → not (eqb w 0) ≡ lost_at S p x marks k
  unfolding has_bit
  lost_else h e = rw (ne_eqb _ _ h, e) (go (used x (p * S + k)))
    where
      go : (b : Bool) → b ≡ both b true
      go true = refl
      go false = refl

-- a place settled
module _ (S : ℕ) (x : Image) (marks : Bits) (j : ℕ) where
  pub settle_noted : get_or marks j 0 ≡ 1 → x ≡ settle_of S marks x j
  unfolding has_bit
  settle_noted h = rw (eq-eqb _ _ h)

  pub settle_lost : get_or marks j 0 ≢ 1 → (y : Image) → y ≡ clear S x j → y ≡ settle_of S marks x j
  unfolding has_bit
  settle_lost h y e = rw (ne_eqb _ _ h) e
