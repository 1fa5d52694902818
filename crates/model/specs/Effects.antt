-- What each accepted act makes of every word of the image, sentence by sentence of the paper. An act's sentences say what it writes (`Writes κ v`: the word
-- at κ becomes v), and `Leaves` says that nothing else changes but the counts of foreign references, which are right.
use Rattle.std.specs.Prelude.{ℕ, ◌+◌, ◌*◌, ◌≤◌, ◌<◌, false, not, cond, List, [], ◌∷◌, ◌≡◌, ◌≢◌, ◌⊎◌}
use Rattle.loops.specs.Loop.{both, tally}
use Rattle.kinds.specs.Names.{most_partitions, word_of}
use Rattle.kinds.specs.declared.Name.{Name}
use Rattle.kinds.specs.declared.Handle.{Handle}
use Rattle.kinds.specs.Names.{Target}
use Rattle.std.specs.Prelude.{None, Some}
use Rattle.kinds.specs.declared.Operation.{Operation}
use Rattle.kinds.specs.declared.Operation.TheVariants.{New, Set, Val, Root}
use Rattle.kinds.specs.declared.Single.TheVariants.{Open, Trace, Close, Local, Hold, Drop}
use Rattle.model.specs.Image.{Image, Key, head, root, handle, anchor, flag, state, payload, inlist, field, is_count, phase, count, allowance, anchors, get, length_of, place, part_of}
use Rattle.model.specs.Spread.{Reach}
use Rattle.model.specs.Acts.{Act, commit, single, used, is_open, unmarked, local_freed}
use Rattle.model.specs.Chains.{Names, Anchored, Leads}
use Rattle.model.specs.Sound.{Right}

-- the words of an image of n places
abbrev pub In : ℕ → Key → Type 0
In n (head h) = h < 5
In n (anchor a) = a < anchors
In n (flag p) = p < most_partitions
In n (state j) = j < n
In n (payload j) = j < n
In n (inlist j) = j < n
In n (field j k) = (j < n) × (k < 4)

-- y is x, of n places, with these words written: what is written stands there, every other word that is no count is as it was, the counts are those of
-- y's fields, and there are as many words
pub record Leaves (n S : ℕ) (x : Image) (Writes : Key → ℕ → Type 0) (y : Image) : Type 0 where
  pub written : (κ : Key) (v : ℕ) → In n κ → Writes κ v → get y κ ≡ v
  pub others : (κ : Key) → In n κ → is_count κ ≡ false → ((v : ℕ) × Writes κ v) ⊎ (get y κ ≡ get x κ)
  pub right : Right n S y
  pub length : length_of y ≡ length_of x

-- COMMIT: a set or a root stores a reference to the object q
abbrev pub Stores : Operation → Name → Type 0
Stores (New n v) q = ⊥
Stores (Set n k t) q = t ≡ Some q
Stores (Val n v) q = ⊥
Stores (Root r t) q = t ≡ Some q

-- a phase is open, and the object q unmarked
pub record Unmarked (S : ℕ) (x : Image) (q : Name) : Type 0 where
  pub opened : get x phase ≡ 1
  pub unmarked : get x (state (place S q)) ≡ 1

-- what an operation writes (clr and unroot are a set and a root to nothing)
pub data Performs (S : ℕ) (x : Image) : Operation → Key → ℕ → Type 0 where
  -- new: an object in use, born marked while a phase is open; its payload; fields nothing
  new_state : {n : Name} {v : ℕ} → Performs S x (New n v) (state (place S n)) (cond (is_open x) 2 1)
  new_payload : {n : Name} {v : ℕ} → Performs S x (New n v) (payload (place S n)) v
  new_field : {n : Name} {v k : ℕ} → Performs S x (New n v) (field (place S n) k) 0
  -- val: the payload
  val : {n : Name} {v : ℕ} → Performs S x (Val n v) (payload (place S n)) v
  -- set and root: the field or the root takes the word of the target, 0 for nothing
  set : {n : Name} {k : ℕ} {t : Target} → Performs S x (Set n k t) (field (place S n) k) (word_of t)
  root_to : {r : ℕ} {t : Target} → Performs S x (Root r t) (root r) (word_of t)
  -- while a phase is open a stored reference marks its target; if the target was unmarked, its partition stops being clean
  marks_stored : {o : Operation} {q : Name} → Stores o q → Unmarked S x q → Performs S x o (state (place S q)) 2
  uncleans_stored : {o : Operation} {q : Name} → Stores o q → Unmarked S x q → Performs S x o (flag q.partition.0) 0

abbrev pub Performed : ℕ → ℕ → Image → Operation → Image → Type 0
Performed P S x o y = Leaves (P * S) S x (Performs S x o) y

-- operations, applied in order
pub data Committed (P S : ℕ) : Image → List Operation → Image → Type 0 where
  nothing_more : {x : Image} → Committed P S x [] x
  and_then : {x y z : Image} {o : Operation} {os : List Operation} → Performed P S x o y → Committed P S y os z → Committed P S x (o ∷ os) z

-- OPEN: what roots and handles name is marked; all partitions not clean; the phase open, count 0, allowance P plus the number of objects then in use
-- and unmarked
pub data Opens (P S : ℕ) (x y : Image) : Key → ℕ → Type 0 where
  marks_anchored : {a j : ℕ} → a < anchors → Names S x (anchor a) j → Opens P S x y (state j) 2
  uncleans_all : {p : ℕ} → Opens P S x y (flag p) 0
  opens : Opens P S x y phase 1
  restarts : Opens P S x y count 0
  allows : Opens P S x y allowance (P + unmarked (P * S) y)

abbrev pub Opened : ℕ → ℕ → Image → Image → Type 0
Opened P S x y = Leaves (P * S) S x (Opens P S x y) y

-- a field of the object at i names the object at j, of p
abbrev pub Inward : ℕ → ℕ → Image → ℕ → ℕ → Type 0
Inward S p x i j = (k : ℕ) × (k < 4) × Names S x (field i k) j × (part_of S j ≡ p)

-- TRACE p, within p: the least set that holds p's marked objects and everything that p's fields inside p lead to from them
abbrev pub Within : ℕ → ℕ → Image → ℕ → Type 0
Within S p x = Reach (λ j. (part_of S j ≡ p) × (get x (state j) ≡ 2)) (Inward S p x)

-- an unmarked object of another partition that an object of this set refers to
pub record Beyond (S p : ℕ) (x : Image) (j : ℕ) : Type 0 where
  pub holder : ℕ
  pub k : ℕ
  pub within : Within S p x holder
  pub small : k < 4
  pub names : Names S x (field holder k) j
  pub far : part_of S j ≢ p
  pub unmarked : get x (state j) ≡ 1

-- both become marked, and of the second the partition not clean; p becomes clean; the count rises by 1
pub data Traces (S p : ℕ) (x : Image) : Key → ℕ → Type 0 where
  marks_within : {j : ℕ} → Within S p x j → Traces S p x (state j) 2
  marks_beyond : {j : ℕ} → Beyond S p x j → Traces S p x (state j) 2
  uncleans_beyond : {j : ℕ} → Beyond S p x j → Traces S p x (flag (part_of S j)) 0
  cleans : Traces S p x (flag p) 1
  counts : Traces S p x count (get x count + 1)

abbrev pub Traced : ℕ → ℕ → ℕ → Image → Image → Type 0
Traced P S p x y = Leaves (P * S) S x (Traces S p x) y

-- CLOSE: an unmarked object becomes free, seven zeros (the count by `right`); a mark becomes state 1; words 2 to 4 and the flags become 0
pub data Closes (x : Image) : Key → ℕ → Type 0 where
  frees : {j : ℕ} → get x (state j) ≡ 1 → Closes x (state j) 0
  frees_payload : {j : ℕ} → get x (state j) ≡ 1 → Closes x (payload j) 0
  frees_field : {j k : ℕ} → get x (state j) ≡ 1 → Closes x (field j k) 0
  unmarks : {j : ℕ} → get x (state j) ≡ 2 → Closes x (state j) 1
  shuts : {h : ℕ} → 2 ≤ h → Closes x (head h) 0
  flags_down : {p : ℕ} → Closes x (flag p) 0

-- the number freed: the objects of n places that are in use in x and not in y
unfoldable pub freed : ℕ → Image → Image → ℕ
freed n x y = tally n (λ j. both (used x j) (not (used y j)))

pub record Closed (P S : ℕ) (x y : Image) : Type 0 where
  pub words : Leaves (P * S) S x (Closes x) y
  -- the number that close answers
  pub number : unmarked (P * S) x ≡ freed (P * S) x y

-- LOCAL p: what stays of p, the least set that holds the objects of p that a root, a handle or a counted foreign reference names, and everything that
-- p's fields inside p lead to from them
abbrev pub KeptIn : ℕ → ℕ → Image → ℕ → Type 0
KeptIn S p x = Reach (λ j. (part_of S j ≡ p) × (Anchored S x j ⊎ (get x (inlist j) ≢ 0))) (Inward S p x)

-- every other object of p becomes free, seven zeros (the count by `right`)
pub data Localizes (S p : ℕ) (x : Image) : Key → ℕ → Type 0 where
  frees : {j : ℕ} → part_of S j ≡ p → (KeptIn S p x j → ⊥) → Localizes S p x (state j) 0
  frees_payload : {j : ℕ} → part_of S j ≡ p → (KeptIn S p x j → ⊥) → Localizes S p x (payload j) 0
  frees_field : {j k : ℕ} → part_of S j ≡ p → (KeptIn S p x j → ⊥) → Localizes S p x (field j k) 0

pub record Localized (P S p : ℕ) (x y : Image) : Type 0 where
  pub words : Leaves (P * S) S x (Localizes S p x) y
  -- the number that local answers
  pub number : local_freed P S p x ≡ freed (P * S) x y

-- HOLD and DROP: a handle takes the word of an object, or 0 for nothing; while a phase is open hold marks its target as a stored reference does: if the
-- target was unmarked, its partition stops being clean
pub data Takes (S : ℕ) (x : Image) (h : Handle) : Target → Key → ℕ → Type 0 where
  takes : {t : Target} → Takes S x h t (handle h.0) (word_of t)
  marks_held : {q : Name} → Unmarked S x q → Takes S x h (Some q) (state (place S q)) 2
  uncleans_held : {q : Name} → Unmarked S x q → Takes S x h (Some q) (flag q.partition.0) 0

abbrev pub Took : ℕ → ℕ → Handle → Target → Image → Image → Type 0
Took P S h t x y = Leaves (P * S) S x (Takes S x h t) y

-- from x to y the object at place j is untouched, but for its count
pub record Untouched (x y : Image) (j : ℕ) : Type 0 where
  pub state_stays : get y (state j) ≡ get x (state j)
  pub value_stays : get y (payload j) ≡ get x (payload j)
  pub fields_stay : (k : ℕ) → k < 4 → get y (field j k) ≡ get x (field j k)

-- what a customer asks of a local collection of p: it leaves alone what a root or a handle leads to, and every other partition
pub record Spares (P S p : ℕ) (x y : Image) : Type 0 where
  pub led : (j : ℕ) → Leads S x j → Untouched x y j
  pub elsewhere : (j : ℕ) → j < P * S → part_of S j ≢ p → Untouched x y j

-- what an accepted act makes of x
abbrev pub Effect : ℕ → ℕ → Act → Image → Image → Type 0
Effect P S (commit os) x y = Committed P S x os y
Effect P S (single Open) x y = Opened P S x y
Effect P S (single (Trace p)) x y = Traced P S p.0 x y
Effect P S (single Close) x y = Closed P S x y
Effect P S (single (Local p)) x y = Localized P S p.0 x y
Effect P S (single (Hold h n)) x y = Took P S h (Some n) x y
Effect P S (single (Drop h)) x y = Took P S h None x y
