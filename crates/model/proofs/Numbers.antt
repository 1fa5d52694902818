-- Which numbers a refusal can have: 2 of format, 6 to 16 of an act, 7 to 9 of a name, 7 of an outlist; 1, 3, 4, 5 and 17 are the calls' and recovery's. None is 0, so that number 0 is acceptance.
-- Assumes nothing.
use Prim.Native.Nat.{ℕ, ◌+◌, ◌≤◌}
use mathlib.Core.Bool.{Bool, true, false}
use mathlib.Core.List.{List, [], ◌∷◌}
use native.Mathlib.Omega.{arith}
use Rattle.kinds.specs.Answers.{refuse}
use Rattle.kinds.specs.declared.Name.{Name}
use Rattle.kinds.specs.declared.Operation.{Operation}
use Rattle.kinds.specs.declared.Operation.TheVariants.{New, Set, Val, Root}
use Rattle.kinds.specs.declared.Refusal.{Refusal}
use Rattle.kinds.specs.declared.Single.TheVariants.{Open, Trace, Close, Local, Hold, Drop}
use Rattle.kinds.specs.Answers.{Verdict}
use Rattle.std.specs.Prelude.{Ok, Err}
use Rattle.kinds.specs.Answers.{allowed}
use Rattle.model.specs.Image.{Image}
use Rattle.model.specs.Acts.{Act, commit, single, perform}
use Rattle.model.specs.Judge.{check, and_then, judge, judge_op, judge_ops, judge_format, judge_outlist, judge_name}

-- accepted, or refused with a number from lo to hi
pub data Among (lo hi : ℕ) : Verdict → Type 0 where
  accepted : Among lo hi allowed
  numbered : (r : Refusal) → lo ≤ r.number → r.number ≤ hi → Among lo hi (Err r)

module _ {lo hi : ℕ} where
  pub check_among : (b : Bool) (n e : ℕ) (v : Verdict) → lo ≤ n → n ≤ hi → Among lo hi v → Among lo hi (check b n e v)
  unfolding check
  check_among true n e v l h a = a
  check_among false n e v l h a = numbered _ l h

  then_among : (u v : Verdict) → Among lo hi u → Among lo hi v → Among lo hi (and_then u v)
  unfolding and_then
  then_among (Ok _) v h k = k
  then_among (Err r) v h k = h

  pub among_wider : (low high : ℕ) (v : Verdict) → low ≤ lo → hi ≤ high → Among lo hi v → Among low high v
  among_wider low high (Ok _) l h accepted = accepted
  among_wider low high (Err _) l h (numbered r a b) = numbered r (omega arith) (omega arith)

  pub among_number : {k e : ℕ} → Among lo hi (refuse k e) → (lo ≤ k) × (k ≤ hi)
  among_number (numbered r a b) = (a, b)

op_among : (P S : ℕ) (x : Image) (e : ℕ) (o : Operation) → Among 7 9 (judge_op P S x e o)
unfolding judge_op
op_among P S x e (New n v) = check_among _ 7 e _ (omega arith) (omega arith) (check_among _ 8 e _ (omega arith) (omega arith) accepted)
op_among P S x e (Set n k t) =
    check_among _ 7 e _ (omega arith) (omega arith)
    (check_among _ 9 e _ (omega arith) (omega arith) (check_among _ 9 e _ (omega arith) (omega arith) accepted))
op_among P S x e (Val n v) = check_among _ 7 e _ (omega arith) (omega arith) (check_among _ 9 e _ (omega arith) (omega arith) accepted)
op_among P S x e (Root r t) = check_among _ 7 e _ (omega arith) (omega arith) (check_among _ 9 e _ (omega arith) (omega arith) accepted)

ops_among : (P S : ℕ) (x : Image) (e : ℕ) (os : List Operation) → Among 7 9 (judge_ops P S x e os)
unfolding judge_ops
ops_among P S x e [] = accepted
ops_among P S x e (o ∷ os) = then_among _ _ (op_among P S x e o) (ops_among P S (perform S x o) (e + 1) os)

pub name_among : (P S : ℕ) (x : Image) (n : Name) → Among 7 9 (judge_name P S x n)
unfolding judge_name
name_among P S x n = check_among _ 7 0 _ (omega arith) (omega arith) (check_among _ 9 0 _ (omega arith) (omega arith) accepted)

pub act_among : (P S : ℕ) (x : Image) (a : Act) → Among 6 16 (judge P S x a)
unfolding judge
act_among P S x (commit os) = check_among _ 6 0 _ (omega arith) (omega arith) (among_wider 6 16 _ (omega arith) (omega arith) (ops_among P S x 1 os))
act_among P S x (single Open) = check_among _ 11 0 _ (omega arith) (omega arith) (check_among _ 12 0 _ (omega arith) (omega arith) accepted)
act_among P S x (single (Trace p)) =
    check_among _ 10 0 _ (omega arith) (omega arith)
    (check_among _ 7 0 _ (omega arith) (omega arith)
    (check_among _ 13 0 _ (omega arith) (omega arith) (check_among _ 15 0 _ (omega arith) (omega arith) accepted)))
act_among P S x (single Close) =
    check_among _ 10 0 _ (omega arith) (omega arith)
    (check_among _ 12 0 _ (omega arith) (omega arith)
    (check_among _ 14 _ _ (omega arith) (omega arith) (check_among _ 16 0 _ (omega arith) (omega arith) accepted)))
act_among P S x (single (Local p)) = check_among _ 7 0 _ (omega arith) (omega arith) (check_among _ 12 0 _ (omega arith) (omega arith) accepted)
act_among P S x (single (Hold h n)) = check_among _ 7 0 _ (omega arith) (omega arith) (among_wider 6 16 _ (omega arith) (omega arith) (name_among P S x n))
act_among P S x (single (Drop h)) = check_among _ 7 0 _ (omega arith) (omega arith) accepted

pub outlist_among : (P p : ℕ) → Among 7 7 (judge_outlist P p)
unfolding judge_outlist
outlist_among P p = check_among _ 7 0 _ (omega arith) (omega arith) accepted

pub format_among : (P S n : ℕ) → Among 2 2 (judge_format P S n)
unfolding judge_format
format_among P S n = check_among _ 2 0 _ (omega arith) (omega arith) accepted
