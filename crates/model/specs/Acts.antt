-- The acts, as functions of the image. P partitions of S slots, read once from the image and handed down.
use Rattle.std.specs.Prelude.{ℕ, ◌+◌, ◌*◌, Bool, not, cond, List, [], ◌∷◌, eqb, replicate}
use Rattle.loops.specs.Loop.{each, both, tally}
use Rattle.kinds.specs.Names.{word_of, most_partitions}
use Rattle.kinds.specs.Names.{Target}
use Rattle.std.specs.Prelude.{None, Some}
use Rattle.kinds.specs.declared.Operation.{Operation}
use Rattle.kinds.specs.declared.Operation.TheVariants.{New, Set, Val, Root}
use Rattle.kinds.specs.declared.Single.{Single}
use Rattle.kinds.specs.declared.Single.TheVariants.{Open, Trace, Close, Local, Hold, Drop}
use Rattle.model.specs.Image.{Image, Key, root, handle, anchor, flag, state, payload, inlist, field, phase, count, allowance, anchors, get, put, place, place_of, part_of, refer, release}
use Rattle.model.specs.Spread.{pass, spread}
use Rattle.model.specs.Questions.{Bits, has_bit, add_bit, collect, held, held_at}

-- an act that a history is made of (a formatting begins one)
pub data Act : Type 0 where
  commit : List Operation → Act
  single : Single → Act

-- states: 0 free, 1 in use, 2 in use and marked
abbrev pub used : Image → ℕ → Bool
used img j = not (eqb (get img (state j)) 0)

abbrev pub marked : Image → ℕ → Bool
marked img j = eqb (get img (state j)) 2

abbrev pub is_open : Image → Bool
is_open img = eqb (get img phase) 1

-- an unmarked object becomes marked, and its partition not clean
unfoldable pub mark : ℕ → Image → ℕ → Image
mark S img j = cond (eqb (get img (state j)) 1) (put (put img (flag (part_of S j)) 0) (state j) 2) img

-- what a reference word names becomes marked
unfoldable pub mark_word : ℕ → Image → ℕ → Image
mark_word S img w = cond (eqb w 0) img (mark S img (place_of S w))

-- COMMIT, HOLD and DROP: a field, a root or a handle takes a target: nothing, or an object, which is marked while a phase is open
unfoldable pub store : ℕ → Image → Key → Target → Image
store S img κ t = refer S (cond (is_open img) (mark_word S img (word_of t)) img) κ (word_of t)

-- a new object, born marked while a phase is open
unfoldable pub born : Image → ℕ → ℕ → Image
born img j v = put (put img (state j) (cond (is_open img) 2 1)) (payload j) v

unfoldable pub perform : ℕ → Image → Operation → Image
perform S img (New n v) = born img (place S n) v
perform S img (Set n k t) = store S img (field (place S n) k) t
perform S img (Val n v) = put img (payload (place S n)) v
perform S img (Root r t) = store S img (root r) t

-- operations are applied in order
unfoldable pub perform_all : ℕ → Image → List Operation → Image
perform_all S img [] = img
perform_all S img (o ∷ os) = perform_all S (perform S img o) os

-- the objects in use and unmarked of n places, and the partitions that are not clean
unfoldable pub unmarked : ℕ → Image → ℕ
unmarked n img = tally n (λ j. eqb (get img (state j)) 1)

unfoldable pub not_clean : ℕ → Image → ℕ
not_clean P img = tally P (λ p. eqb (get img (flag p)) 0)

-- all flags become 0
unfoldable pub unclean : Image → Image
unclean img = each most_partitions (λ x p. put x (flag p) 0) img

-- OPEN: what roots and handles name is marked; all partitions not clean; count 0; allowance P plus the objects then in use and unmarked
unfoldable pub mark_anchors : ℕ → Image → Image
mark_anchors S img = each anchors (λ x a. mark_word S x (get x (anchor a))) img

unfoldable pub allow : ℕ → ℕ → Image → Image
allow P S img = put (put img count 0) allowance (P + unmarked (P * S) img)

unfoldable pub open_up : ℕ → ℕ → Image → Image
open_up P S img = allow P S (mark_anchors S (unclean (put img phase 1)))

-- TRACE: a field of the object at j refers to a wanted place, and to which
abbrev pub refers : ℕ → (ℕ → Bool) → Image → ℕ → ℕ → Bool
refers S wanted img j k = both (not (eqb (get img (field j k)) 0)) (wanted (place_of S (get img (field j k))))

abbrev pub target : ℕ → Image → ℕ → ℕ → ℕ
target S img j k = place_of S (get img (field j k))

-- a place of partition p, and one of another
abbrev pub own : ℕ → ℕ → ℕ → Bool
own S p j = eqb (part_of S j) p

abbrev pub foreign : ℕ → ℕ → ℕ → Bool
foreign S p j = not (own S p j)

-- within p, marks spread to the least set that p's fields inside p lead to
unfoldable pub inside : ℕ → ℕ → Image → Image
inside S p img = spread marked (mark S) (refers S (own S p)) (target S) (λ s. p * S + s) S 4 img

-- then objects of other partitions that a marked object of p refers to become marked, and their partitions not clean
unfoldable pub outside : ℕ → ℕ → Image → Image
outside S p img = pass marked (mark S) (refers S (foreign S p)) (target S) (λ s. p * S + s) S 4 img

-- p becomes clean, and the count rises by 1
unfoldable pub finish : ℕ → Image → Image
finish p img = put (put img (flag p) 1) count (get img count + 1)

unfoldable pub trace_one : ℕ → ℕ → Image → Image
trace_one S p img = finish p (outside S p (inside S p img))

-- CLOSE: a freed slot is seven zeros: six are put here, and when the act is done nothing names the slot, so that its count is 0 (free-count)
unfoldable pub clear : ℕ → Image → ℕ → Image
clear S img j = each 4 (λ x k. release S x (field j k)) (put (put img (state j) 0) (payload j) 0)

-- an unmarked object becomes free, a mark becomes state 1
unfoldable pub settle : ℕ → Image → ℕ → Image
settle S img j = cond (eqb (get img (state j)) 1) (clear S img j) (cond (eqb (get img (state j)) 2) (put img (state j) 1) img)

-- words 2 to 4 and the flags become 0
unfoldable pub shut : Image → Image
shut img = put (put (put (unclean img) phase 0) count 0) allowance 0

unfoldable pub close_up : ℕ → ℕ → Image → Image
close_up P S img = shut (each (P * S) (settle S) img)

-- LOCAL: of p, what a root or a handle names, and what fields of other partitions name by its count
unfoldable pub local_start : ℕ → ℕ → ℕ → Image → Bits
local_start P S p img =
    collect S (λ s. held img (inlist (p * S + s))) (λ s. p * S + s)
    (collect anchors (λ a. both (held img (anchor a)) (own S p (held_at S img (anchor a)))) (λ a. held_at S img (anchor a)) (replicate (P * S) 0))

-- and what chains inside p lead to from there
unfoldable pub local_bits : ℕ → ℕ → ℕ → Image → Bits
local_bits P S p img =
    spread has_bit add_bit (λ b. refers S (own S p) img) (λ b. target S img) (λ s. p * S + s) S 4 (local_start P S p img)

-- of the places at 0, .., at (m - 1), those that do not stay are freed
unfoldable pub free_but : ℕ → ℕ → (ℕ → ℕ) → (ℕ → Bool) → Image → Image
free_but m S at stay img = each m (λ x j. cond (stay (at j)) x (clear S x (at j))) img

-- every other object of p is freed: no flag, no mark of an object that stays, no count of traces, no allowance changes
unfoldable pub local_up : ℕ → ℕ → ℕ → Image → Image
local_up P S p img = free_but S S (λ s. p * S + s) (has_bit (local_bits P S p img)) img

-- how many it frees
unfoldable pub local_freed : ℕ → ℕ → ℕ → Image → ℕ
local_freed P S p img = tally S (λ s. both (used img (p * S + s)) (not (has_bit (local_bits P S p img) (p * S + s))))

-- what an accepted act leaves
unfoldable pub apply : ℕ → ℕ → Image → Act → Image
apply P S img (commit os) = perform_all S img os
apply P S img (single Open) = open_up P S img
apply P S img (single (Trace p)) = trace_one S p.0 img
apply P S img (single Close) = close_up P S img
apply P S img (single (Local p)) = local_up P S p.0 img
apply P S img (single (Hold h n)) = store S img (handle h.0) (Some n)
apply P S img (single (Drop h)) = store S img (handle h.0) None
