-- The refusals, in the paper's order with their extra answers; 1 and 17 belong to the call.
use Rattle.std.specs.Prelude.{ℕ, ◌+◌, ◌*◌, Bool, true, false, not, cond, List, [], ◌∷◌, eqb, ltb, leb, length}
use Rattle.loops.specs.Loop.{both, every, first}
use Rattle.kinds.specs.Names.{most_partitions, most_slots, most_operations, roots, handles}
use Rattle.kinds.specs.Answers.{refuse}
use Rattle.kinds.specs.declared.Name.{Name}
use Rattle.kinds.specs.Names.{Target}
use Rattle.std.specs.Prelude.{None, Some}
use Rattle.kinds.specs.declared.Operation.{Operation}
use Rattle.kinds.specs.declared.Operation.TheVariants.{New, Set, Val, Root}
use Rattle.kinds.specs.declared.Single.TheVariants.{Open, Trace, Close, Local, Hold, Drop}
use Rattle.kinds.specs.Answers.{Verdict}
use Rattle.std.specs.Prelude.{Ok, Err}
use Rattle.kinds.specs.Answers.{allowed}
use Rattle.model.specs.Image.{Image, Key, root, anchor, flag, field, count, allowance, anchors, get, size, place, place_of}
use Rattle.model.specs.Acts.{Act, commit, single, used, marked, is_open, perform, not_clean}

-- the next check, if this one passes
unfoldable pub check : Bool → ℕ → ℕ → Verdict → Verdict
check true n e v = v
check false n e v = refuse n e

unfoldable pub and_then : Verdict → Verdict → Verdict
and_then (Ok _) v = v
and_then (Err r) v = Err r

-- P is 1 to 16, S is 1 to 128
unfoldable pub in_limits : ℕ → ℕ → Bool
in_limits P S = both (both (ltb 0 P) (leb P most_partitions)) (both (ltb 0 S) (leb S most_slots))

-- format: 2 unless P and S are in range and agree with the length
unfoldable pub judge_format : ℕ → ℕ → ℕ → Verdict
judge_format P S n = check (both (in_limits P S) (eqb n (size P S))) 2 0 allowed

-- numbers that are not too large
abbrev pub in_heap : ℕ → ℕ → Name → Bool
in_heap P S n = both (ltb n.partition.0 P) (ltb n.slot.0 S)

abbrev pub target_in_heap : ℕ → ℕ → Target → Bool
target_in_heap P S None = true
target_in_heap P S (Some q) = in_heap P S q

abbrev pub target_used : ℕ → Image → Target → Bool
target_used S img None = true
target_used S img (Some q) = used img (place S q)

-- one operation at position e: 7 for all its numbers, then 8 or 9, set's holder before its target
unfoldable pub judge_op : ℕ → ℕ → Image → ℕ → Operation → Verdict
judge_op P S img e (New n v) = check (in_heap P S n) 7 e (check (not (used img (place S n))) 8 e allowed)
judge_op P S img e (Set n k t) =
    check (both (in_heap P S n) (both (ltb k 4) (target_in_heap P S t))) 7 e
    (check (used img (place S n)) 9 e (check (target_used S img t) 9 e allowed))
judge_op P S img e (Val n v) = check (in_heap P S n) 7 e (check (used img (place S n)) 9 e allowed)
judge_op P S img e (Root r t) = check (both (ltb r roots) (target_in_heap P S t)) 7 e (check (target_used S img t) 9 e allowed)

-- each operation in turn, after the earlier ones
unfoldable pub judge_ops : ℕ → ℕ → Image → ℕ → List Operation → Verdict
judge_ops P S img e [] = allowed
judge_ops P S img e (o ∷ os) = and_then (judge_op P S img e o) (judge_ops P S (perform S img o) (e + 1) os)

-- 12 looks at the root table only: a root is in use
unfoldable pub rooted : Image → Bool
rooted img = not (every roots (λ r. eqb (get img (root r)) 0))

-- a root, a handle or a marked object refers to marked objects only
abbrev pub leads_on : ℕ → Image → Key → Bool
leads_on S img κ = cond (eqb (get img κ) 0) true (marked img (place_of S (get img κ)))

unfoldable pub led : ℕ → ℕ → Image → Bool
led P S img =
    both (every anchors (λ a. leads_on S img (anchor a)))
    (every (P * S) (λ j. cond (marked img j) (every 4 (λ k. leads_on S img (field j k))) true))

-- the lowest partition that is not clean
unfoldable pub lowest : ℕ → Image → ℕ
lowest P img = first P 0 (λ p. eqb (get img (flag p)) 0)

-- read, ask, and the object that a hold names: 7, 9
unfoldable pub judge_name : ℕ → ℕ → Image → Name → Verdict
judge_name P S img n = check (in_heap P S n) 7 0 (check (used img (place S n)) 9 0 allowed)

-- commit 6, each operation; open 11, 12; trace 10, 7, 13, 15; close 10, 12, 14, 16; local 7, 12; hold 7, 9; drop 7
unfoldable pub judge : ℕ → ℕ → Image → Act → Verdict
judge P S img (commit os) = check (both (ltb 0 (length os)) (leb (length os) most_operations)) 6 0 (judge_ops P S img 1 os)
judge P S img (single Open) = check (not (is_open img)) 11 0 (check (rooted img) 12 0 allowed)
judge P S img (single (Trace p)) =
    check (is_open img) 10 0
    (check (ltb p.0 P) 7 0
    (check (eqb (get img (flag p.0)) 0) 13 0 (check (not (eqb (get img count) (get img allowance))) 15 0 allowed)))
judge P S img (single Close) =
    check (is_open img) 10 0
    (check (rooted img) 12 0 (check (eqb (not_clean P img) 0) 14 (lowest P img) (check (led P S img) 16 0 allowed)))
judge P S img (single (Local p)) = check (ltb p.0 P) 7 0 (check (rooted img) 12 0 allowed)
judge P S img (single (Hold h n)) = check (ltb h.0 handles) 7 0 (judge_name P S img n)
judge P S img (single (Drop h)) = check (ltb h.0 handles) 7 0 allowed

-- outlist: 7
unfoldable pub judge_outlist : ℕ → ℕ → Verdict
judge_outlist P p = check (ltb p P) 7 0 allowed
